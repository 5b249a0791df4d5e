-- The places of the open entries, how many entries are passed on, and what steps keep.
use Rattle.fbl_table.proofs.Common.{zero, values_of, set_value_at, ◌≡◌, ℕ, suc, ◌+◌, ◌<◌, Bool, true, false, cond, ◌||◌, List, [], ◌∷◌, ◌++◌, map, Option, Some, refl, sym, ap, ◌∙◌, arith, length}
use Rattle.fbl_table.proofs.Common.{slice_get, get_or, false≢true, nat_tests, filter, filter_map, slice_get_cases, nat_cmp, nat_cmp_total, Entry, is_open, piggybacked, entry_of, open_at, IsIndex}
use Rattle.fbl_table.proofs.Common.{nat_le, All-get_or, AllZip-push, filter_passes, length_all_zip, AllZip, option_map_or, len-within, KeepsIndex, IndexedEntries, drop, drop_next, ◌≤◌, count_by}
use Rattle.fbl_table.proofs.Common.{length-map, filter-append, sum_by-cons, Determinant, length-left, gathered, learned, held_by, length-append, length-filter, length-filter_map, noted}
use Rattle.std.specs.FinSet as set
use Rattle.fbl_table.specs.Indexed.{places_of_open}
use Rattle.fbl_table.proofs.Adding.{Pairs}
use Rattle.fbl_table.specs.Tables.{added}

-- an entry of the one table is open only where the other's at its place is
abbrev AreGrown : ℕ → List Entry → List Entry → Type 0
AreGrown f table before = AllZip (λ now old. is_open f now ≡ true → is_open f old ≡ true) table before

same-grown : (f : ℕ) (table : List Entry) → AreGrown f table table
same-grown f [] = tt
same-grown f (e ∷ table) = (λ is. is, same-grown f table)

-- what a list has at the places from k on, it has behind the first from the next on
next_place : {X : Type 0} (at : ℕ → Option X) (k : ℕ) (x : X) (xs : List X) → ((i : ℕ) → at (k + i) ≡ slice_get (x ∷ xs) i)
    → (at k ≡ Some x) × ((i : ℕ) → at (suc k + i) ≡ slice_get xs i)
next_place at k x xs is = (
  rw (let same : k + 0 ≡ k = omega arith in same) at (is 0),
  λ i. rw (let same : suc k + i ≡ k + suc i = omega arith in same) (is (suc i)),
)

-- the entries at the open places are what the table passes on
entries_at_open : (f k : ℕ) (at : ℕ → Option Entry) (table : List Entry) → ((i : ℕ) → at (k + i) ≡ slice_get table i)
    → filter_map at (places_of_open f k table) ≡ piggybacked f table
unfolding places_of_open
entries_at_open f k at [] is = refl
entries_at_open f k at (e ∷ table) is =
    let next = next_place at k e table is in
    let rest = entries_at_open f (suc k) at table next.1 in
    grind (arith, next.0, rest)

-- the open ones of the places that were open once
open_of_once_open : (f k : ℕ) (at : ℕ → Option Entry) (table before : List Entry) → AreGrown f table before → ((i : ℕ) → at (k + i) ≡ slice_get table i)
    → filter (λ place. option_map_or (is_open f) (at place) false) (places_of_open f k before) ≡ places_of_open f k table
unfolding places_of_open
open_of_once_open f k at [] [] grown is = refl
open_of_once_open f k at [] (b ∷ before) grown is = absurd grown
open_of_once_open f k at (e ∷ table) [] grown is = absurd grown
open_of_once_open f k at (e ∷ table) (b ∷ before) grown is =
    let next = next_place at k e table is in
    let rest = open_of_once_open f (suc k) at table before grown.1 next.1 in
    grind (arith, next.0, rest, grown.0)

places_of_open-push : (f k n : ℕ) (table : List Entry) (e : Entry) → k + length table ≡ n
    → places_of_open f k (table ++ e ∷ []) ≡ places_of_open f k table ++ cond (is_open f e) (n ∷ []) []
unfolding places_of_open
places_of_open-push f k n [] e last = (let same : k ≡ n = omega (arith, last) in rw same refl)
places_of_open-push f k n (x ∷ table) e last = grind (arith, nat_tests, places_of_open-push f (suc k) n table e (omega (arith, last)))

pub index-none : (f : ℕ) → IsIndex f [] [] false
unfolding places_of_open
index-none f = record { before = []; grown = tt; places = refl; exact = λ fresh. refl }

-- a new last entry
pub index-push : (f : ℕ) (table : List Entry) (e : Entry) (open_places : List ℕ) (stale : Bool) → IsIndex f table open_places stale
    → IsIndex f (table ++ e ∷ []) (open_places ++ cond (is_open f e) (length table ∷ []) []) stale
index-push f table e open_places stale index = grind (arith, nat_tests, AllZip-push, places_of_open-push, length_all_zip)

-- which of the places are open
open_now : (f : ℕ) (table : List Entry) (open_places : List ℕ) (stale : Bool) → IsIndex f table open_places stale
    → filter (open_at f table) open_places ≡ places_of_open f 0 table
open_now f table open_places stale index =
    rw index.places (open_of_once_open f 0 (slice_get table) table index.before index.grown (λ i. ap (slice_get table) (omega arith)))

-- places of entries that are stable now are let go
pub index-pruned : (f : ℕ) (table : List Entry) (open_places : List ℕ) (stale : Bool) → IsIndex f table open_places stale
    → IsIndex f table (filter (open_at f table) open_places) false
index-pruned f table open_places stale index = grind (arith, nat_tests, open_now, same-grown)

-- what is open is open of less that is known too
pub open_less : (f : ℕ) (a b : set.FinSet nat_cmp) → nat_le (set.len (set.union a b)) f ≡ true → nat_le (set.len a) f ≡ true
open_less f a b is =
    let more = len-within (set.len a) a (set.union a b) refl (λ q has. set.contains-union nat_cmp_total a b q ∙ ap (λ c. c || set.contains b q) has) in
    grind (arith, nat_tests)

-- where one entry is known to more members, it is open only where it was
grown-put : (f : ℕ) (es : Pairs) (before : List Entry) (i : ℕ) (v w : set.FinSet nat_cmp) → slice_get (values_of es) i ≡ Some v
    → (nat_le (set.len w) f ≡ true → nat_le (set.len v) f ≡ true) → AreGrown f (map entry_of es) before → AreGrown f (map entry_of (set_value_at es i w)) before
grown-put f [] before i v w is less grown = grown
grown-put f (e ∷ es) [] i v w is less grown = absurd grown
grown-put f (e ∷ es) (b ∷ before) zero v w is less grown = (λ opens. grown.0 (let same : v ≡ e.1 = cc in (rw same at (less opens))), grown.1)
grown-put f (e ∷ es) (b ∷ before) (suc i) v w is less grown = (grown.0, grown-put f es before i v w is less grown.1)

-- the open entries at the places, and all of them where the index is not stale
pub index-piggybacked : (f : ℕ) (table : List Entry) (open_places : List ℕ) (stale : Bool) → IsIndex f table open_places stale
    → filter_map (slice_get table) (filter (open_at f table) open_places) ≡ piggybacked f table
index-piggybacked f table open_places stale index = rw (open_now f table open_places stale index) (entries_at_open f 0 (slice_get table) table (λ i. ap (slice_get table) (omega arith)))

pub open-piggybacked : (f : ℕ) (table : List Entry) (open_places : List ℕ) → IsIndex f table open_places false → filter_map (slice_get table) open_places ≡ piggybacked f table
open-piggybacked f table open_places index = rw (index.exact refl) (entries_at_open f 0 (slice_get table) table (λ i. ap (slice_get table) (omega arith)))

-- each open place is one of the table
pub open-within : (f : ℕ) (table : List Entry) (open_places : List ℕ) → IsIndex f table open_places false → (i : ℕ) → i < length open_places → get_or open_places i 0 < length table
open-within f table open_places index i below =
    let all : filter (open_at f table) open_places ≡ open_places = open_now f table open_places false index ∙ sym (index.exact refl) in
    grind (arith, nat_tests, open_now, All-get_or, filter_passes, slice_get_cases, false≢true)

-- where it is as open as before, the same places are open
places-put : (f k : ℕ) (es : Pairs) (i : ℕ) (v w : set.FinSet nat_cmp) → slice_get (values_of es) i ≡ Some v → nat_le (set.len w) f ≡ nat_le (set.len v) f
    → places_of_open f k (map entry_of (set_value_at es i w)) ≡ places_of_open f k (map entry_of es)
unfolding places_of_open
places-put f k [] i v w is same = refl
places-put f k (e ∷ es) zero v w is same = grind (arith, is, same)
places-put f k (e ∷ es) (suc i) v w is same = (let rest = places-put f (suc k) es i v w is same in grind (arith, rest))

pub index-put : (f : ℕ) (es : Pairs) (i : ℕ) (v w : set.FinSet nat_cmp) → slice_get (values_of es) i ≡ Some v → (nat_le (set.len w) f ≡ true → nat_le (set.len v) f ≡ true)
    → (stale : Bool) → (stale ≡ false → nat_le (set.len v) f ≡ true → nat_le (set.len w) f ≡ true)
    → (open_places : List ℕ) → IsIndex f (map entry_of es) open_places stale → IsIndex f (map entry_of (set_value_at es i w)) open_places stale
index-put f es i v w is less stale stays open_places index = grind (arith, nat_tests, grown-put, places-put)

pub keeps_more : {a b c : IndexedEntries} → KeepsIndex a b → KeepsIndex b c → KeepsIndex a c
keeps_more first second = record { index = λ is. second.index (first.index is); room = omega (arith, first.room, second.room) }

-- an index may be taken for stale
pub keeps_stale : (old : IndexedEntries) (stale : Bool) → (stale ≡ false → old.stale ≡ false) → KeepsIndex old (record old { stale = stale })
keeps_stale old stale was = grind (arith, nat_tests)

-- an entry more makes at most one more to pass on
open-added : (f : ℕ) (table : List Entry) (entry : Entry) → count_by (is_open f) (added table entry) ≤ count_by (is_open f) table + 1
unfolding added
open-added f [] entry = grind arith
open-added f (e ∷ table) entry =
    let rest = open-added f table entry in
    let united : Entry = record { det = e.det; known = set.union e.known entry.known } in
    let count = λ (x : Entry) (xs : List Entry). sum_by-cons (λ y. cond (is_open f y) 1 0) x xs in
    grind (arith, rest, count united table, count e table, count e (added table entry))

open-gathered : (f : ℕ) (table other : List Entry) → count_by (is_open f) (gathered table other) ≤ count_by (is_open f) table + length other
open-gathered f table [] = omega arith
open-gathered f table (e ∷ other) = omega (arith, open-added f table e, open-gathered f (added table e) other)

-- what is learned and the member's own make no more than as many more to pass on
pub open_receipt : (f me : ℕ) (table carried : List Entry) (d : Determinant) → length (piggybacked f (noted me (learned me table carried) d)) ≤ length (piggybacked f table) + length carried + 1
open_receipt f me table carried d =
    let learns = learned me table carried in
    let own : List Entry = record { det = d; known = set.insert set.empty me } ∷ [] in
    let split = ap length (filter-append (is_open f) learns own) ∙ length-append (piggybacked f learns) (piggybacked f own) in
    let more = open-gathered f table (map (held_by me) carried) in
    omega (arith, split, length-left (is_open f) own, more, length-filter (is_open f) learns, length-filter (is_open f) table, length-map carried (held_by me))

-- no more are passed on than there are open places
pub few-passed : (limit : ℕ) (table : List Entry) (ps : List ℕ) (stale : Bool) → IsIndex limit table ps stale → length (piggybacked limit table) ≤ length ps
few-passed limit table ps stale index = grind (arith, index-piggybacked limit table ps stale index, length-filter_map, length-left (open_at limit table) ps)

-- what is passed on from a place on
pub passed-next : (f : ℕ) (table : List Entry) (i : ℕ) (e : Entry) → slice_get table i ≡ Some e
    → piggybacked f (drop i table) ≡ piggybacked f (e ∷ []) ++ piggybacked f (drop (i + 1) table)
passed-next f table i e at = rw (drop_next table i e at) (filter-append (is_open f) (e ∷ []) (drop (i + 1) table))
