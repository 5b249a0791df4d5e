-- Tables as a map has them, and what adding an entry does to them; added in turn to none, a table's entries give the table.
use Rattle.fbl_table.proofs.Common.{not, count_by, ◌≡◌, ℕ, zero, suc, ◌+◌, ◌<◌, ◌≤◌, true, false, cond, ◌||◌, ◌&&◌, get_or, List, [], ◌∷◌, ◌++◌, map, Some, None, refl, sym, ap, ◌∙◌, arith, take}
use Rattle.fbl_table.proofs.Common.{drop, length, slice_get, lookup, values_of, keys_of, nat_cmp, nat_cmp_total, false≢true, fold, AllByRecursion, append-nil, length-map, take_all}
use Rattle.fbl_table.proofs.Common.{sum_by-cons, set_value_at, Determinant, same_determinant, insert_entry, Entry, is_held, lacks, has_at, entry_of, gathered, learned, held_by, marked}
use Rattle.fbl_table.proofs.Common.{is_some, position, drop_next, false_from_ne_true, or_from, or_left, or_right, or_comm, position_or_len, Decides-same_determinant, drop_all, take_more}
use Rattle.fbl_table.proofs.Common.{fold_push, slice_get_past, slice_get_within, get_or_from_slice_get, same_from_contains, absent_from_lookup, insert_entry-absent}
use Rattle.fbl_table.proofs.Common.{or_len-absent, IsOnce, append_assoc, list_any-append, added, nat_tests, map-append}
use Rattle.std.specs.FinSet as set
use Rattle.std.specs.List.{IsDistinct}
use Rattle.fbl_table.specs.Tables.{added}

-- the entries as the map has them
abbrev pub Pairs : Type 0
Pairs = List (Determinant × set.FinSet nat_cmp)

pub held_lookup : (es : Pairs) (d : Determinant) → is_some (lookup (same_determinant d) es) ≡ is_held (map entry_of es) d
held_lookup [] d = refl
held_lookup (e ∷ es) d = (let rest = held_lookup es d in grind (arith, rest))

-- a determinant that was not there goes last
pub inserted : (es : Pairs) (entry : Entry) → lookup (same_determinant entry.det) es ≡ None
    → map entry_of (insert_entry same_determinant es entry.det entry.known) ≡ map entry_of es ++ entry ∷ []
inserted es entry none = grind (arith, absent_from_lookup, insert_entry-absent, map-append)

-- a determinant that has an entry at a place is held
pub held_at : (table : List Entry) (d : Determinant) (i : ℕ) → has_at table d i ≡ true → is_held table d ≡ true
held_at [] d i has = absurd (false≢true has)
held_at (e ∷ table) d zero has = or_left _ _ has
held_at (e ∷ table) d (suc i) has = or_right (same_determinant d e.det) _ (held_at table d i has)

pub within_at : (es : Pairs) (d : Determinant) (i : ℕ) → has_at (map entry_of es) d i ≡ true → i < length es
within_at es d i has = grind (arith, length-map es entry_of, slice_get_past (map entry_of es) i)

-- where the map finds the determinant
pub has_found : (es : Pairs) (d : Determinant) (i : ℕ) → position (same_determinant d) (keys_of es) ≡ Some i → has_at (map entry_of es) d i ≡ true
has_found [] d i is = cc
has_found (e ∷ es) d i is = (let rest = has_found es d in grind (arith, rest))

pub apart-turned : (a b : Determinant) → same_determinant a b ≡ false → same_determinant b a ≡ false
apart-turned a b apart = grind (arith, nat_tests, Decides-same_determinant, false_from_ne_true)

apart-at : (es : Pairs) (k d : Determinant) (i : ℕ) → AllByRecursion (λ y. same_determinant k y ≡ false) (keys_of es) → has_at (map entry_of es) d i ≡ true
    → same_determinant d k ≡ false
apart-at [] k d i all has = absurd (false≢true has)
apart-at (e ∷ es) k d zero all has = rw ((Decides-same_determinant d e.0).0 has) (apart-turned k e.0 all.0)
apart-at (e ∷ es) k d (suc i) all has = apart-at es k d i all.1 has

-- which determinant stands at a place goes by no value
pub has_set : (es : Pairs) (i : ℕ) (v : set.FinSet nat_cmp) (d : Determinant) (j : ℕ) → has_at (map entry_of (set_value_at es i v)) d j ≡ has_at (map entry_of es) d j
has_set [] i v d j = refl
has_set (e ∷ es) zero v d j = grind arith
has_set (e ∷ es) (suc i) v d j = (let rest = has_set es i v d in grind (arith, rest))

-- where the determinant stands, or would stand next
abbrev pub place_in : Pairs → Determinant → ℕ
place_in es d = position_or_len (same_determinant d) (keys_of es)

-- the place where it has an entry is that where it is looked up
pub found_at : (es : Pairs) (d : Determinant) (i : ℕ) (v : set.FinSet nat_cmp) → IsDistinct same_determinant (keys_of es) → has_at (map entry_of es) d i ≡ true
    → slice_get (values_of es) i ≡ Some v → (i ≡ place_in es d) × (lookup (same_determinant d) es ≡ Some v)
unfolding IsDistinct
found_at [] d i v once has is = absurd (false≢true has)
found_at (e ∷ es) d zero v once has is = rw has (refl, is)
found_at (e ∷ es) d (suc i) v once has is = (let rest = found_at es d i v once.1 has is in rw (apart-at es e.0 d i once.0 has) (omega (arith, rest.0), rest.1))

-- what is known there, united with more
pub added_there : (es : Pairs) (entry : Entry) (v : set.FinSet nat_cmp) → lookup (same_determinant entry.det) es ≡ Some v
    → map entry_of (set_value_at es (place_in es entry.det) (set.union v entry.known)) ≡ added (map entry_of es) entry
unfolding added
added_there [] entry v is = cc
added_there (e ∷ es) entry v is = (let rest = added_there es entry v in grind (arith, rest))

pub value_there : (es : Pairs) (d : Determinant) (v : set.FinSet nat_cmp) → lookup (same_determinant d) es ≡ Some v → slice_get (values_of es) (place_in es d) ≡ Some v
value_there [] d v is = cc
value_there (e ∷ es) d v is = (let rest = value_there es d v in grind (arith, rest))

-- what is written there is written over what was inserted
pub inserted_over : (es : Pairs) (d : Determinant) (v k w : set.FinSet nat_cmp) → lookup (same_determinant d) es ≡ Some v
    → set_value_at (insert_entry same_determinant es d k) (place_in es d) w ≡ set_value_at es (place_in es d) w
inserted_over [] d v k w is = cc
inserted_over (e ∷ es) d v k w is = (let rest = inserted_over es d v k w in grind (arith, rest))

-- a determinant that stands nowhere would stand last
pub place-missing : (es : Pairs) (d : Determinant) → lookup (same_determinant d) es ≡ None → place_in es d ≡ length es
place-missing es d none = or_len-absent (same_determinant d) es (absent_from_lookup (same_determinant d) es none)

-- and is not held
pub not_held-missing : (es : Pairs) (d : Determinant) → lookup (same_determinant d) es ≡ None → is_held (map entry_of es) d ≡ false
not_held-missing es d none = sym (held_lookup es d) ∙ ap is_some none

-- a union with a set that has nothing more
nothing-more : (s t : set.FinSet nat_cmp) → set.len (set.difference t s) ≡ 0 → set.union s t ≡ s
nothing-more s t none = same_from_contains (set.union s t) s (λ q.
    let lacks : (set.contains t q && not (set.contains s q)) ≡ false =
    sym (set.contains-difference nat_cmp_total t s q) ∙ ap (λ x. set.contains x q) (set.empty_of_len (set.difference t s) none) ∙ set.contains-empty nat_cmp q in
    grind (arith, set.contains-union nat_cmp_total s t q, lacks))

-- an entry that knows no more than what is known already
pub added-nothing : (es : Pairs) (entry : Entry) (v : set.FinSet nat_cmp) → lookup (same_determinant entry.det) es ≡ Some v → set.len (set.difference entry.known v) ≡ 0
    → map entry_of es ≡ added (map entry_of es) entry
unfolding added
added-nothing [] entry v is none = cc
added-nothing (e ∷ es) entry v is none = grind (arith, nat_tests, nothing-more, added-nothing es entry v)

pub take-next : {X : Type 0} (xs : List X) (i : ℕ) (x : X) → slice_get xs i ≡ Some x → take (i + 1) xs ≡ take i xs ++ x ∷ []
take-next xs i x is = take_more xs i x (slice_get_within xs i x is) ∙ ap (λ y. take i xs ++ y ∷ []) (get_or_from_slice_get xs i x x is)

-- a fold over one element more
pub fold_next : {X Y : Type 0} (f : Y → X → Y) (y : Y) (xs : List X) (i : ℕ) (x : X) → slice_get xs i ≡ Some x → fold f y (take (i + 1) xs) ≡ f (fold f y (take i xs)) x
fold_next f y xs i x is = rw (take-next xs i x is) (fold_push f y (take i xs) x)

-- the first `i` entries marked
abbrev pub marked_first : ℕ → set.FinSet nat_cmp → List Entry → List Entry
marked_first i members table = marked members (take i table) ++ drop i table

pub mark-all : (i : ℕ) (members : set.FinSet nat_cmp) (table : List Entry) → length table ≤ i → marked_first i members table ≡ marked members table
mark-all i members table done = rw (take_all i table done, drop_all i table done) (append-nil (marked members table))

pub mark-at : (i : ℕ) (members : set.FinSet nat_cmp) (table : List Entry) (es : Pairs) (v : set.FinSet nat_cmp)
    → map entry_of es ≡ marked_first i members table → slice_get (values_of es) i ≡ Some v → map entry_of (set_value_at es i (set.union v members)) ≡ marked_first (suc i) members table
mark-at zero members (e ∷ table) (p ∷ es) v same is = cc
mark-at (suc i) members (e ∷ table) (p ∷ es) v same is = (let rest = mark-at i members table es v (ap (drop 1) same) is in cc)
mark-at zero members [] [] v same is = refl
mark-at (suc i) members [] [] v same is = refl
mark-at _ _ _ _ _ same is = cc

pub keys_view : (es : Pairs) → map (λ e. e.det) (map entry_of es) ≡ keys_of es
keys_view [] = refl
keys_view (e ∷ es) = ap (λ t. e.0 ∷ t) (keys_view es)

-- a new determinant's entry goes last
pub added_new : (table : List Entry) (entry : Entry) → is_held table entry.det ≡ false → added table entry ≡ table ++ entry ∷ []
unfolding added
added_new [] entry new = refl
added_new (e ∷ table) entry new = (let rest = added_new table entry in grind (arith, rest))

-- a table gets longer by an entry that it lacks
pub length-added : (table : List Entry) (entry : Entry) → length (added table entry) ≡ length table + cond (lacks table entry) 1 0
unfolding added
length-added [] entry = refl
length-added (e ∷ table) entry = (let rest = length-added table entry in grind (arith, rest))

pub length_added_held : (table : List Entry) (entry : Entry) → is_held table entry.det ≡ true → length (added table entry) ≡ length table
length_added_held table entry held = omega (arith, length-added table entry, ap {B = ℕ} (λ b. cond (not b) 1 0) held)

-- after an entry is added its determinant is held too
held-added : (table : List Entry) (entry : Entry) (d : Determinant) → is_held (added table entry) d ≡ (is_held table d || same_determinant d entry.det)
unfolding added
held-added [] entry d = or_comm (same_determinant d entry.det) false
held-added (e ∷ table) entry d = grind (arith, nat_tests, Decides-same_determinant, held-added table entry d)

-- of one entry more at most one more is lacking, and none where it is held
pub lacks-next : (table other : List Entry) (i : ℕ) (e : Entry) → slice_get other i ≡ Some e
    → count_by (lacks table) (drop i other) ≡ cond (lacks table e) 1 0 + count_by (lacks table) (drop (i + 1) other)
lacks-next table other i e at = rw (drop_next other i e at) (sum_by-cons (λ x. cond (lacks table x) 1 0) e (drop (i + 1) other))

pub held-gathered : (table other : List Entry) (d : Determinant) → is_held (gathered table other) d ≡ (is_held table d || is_held other d)
held-gathered table [] d = sym (or_comm (is_held table d) false)
held-gathered table (e ∷ other) d = grind (arith, nat_tests, held-added, held-gathered (added table e) other d)

-- while an entry is still lacking, it is one of those that lacked at first
pub lacks-gathering : (table other : List Entry) (i : ℕ) (e : Entry) → slice_get other i ≡ Some e
    → cond (lacks (gathered table (take i other)) e) 1 0 + count_by (lacks table) (drop (i + 1) other) ≤ count_by (lacks table) (drop i other)
lacks-gathering table other i e at = (let next = lacks-next table other i e at in let held = held-gathered table (take i other) e.det in grind (arith, next, held))

pub held-carried : (me : ℕ) (carried : List Entry) (d : Determinant) → is_held (map (held_by me) carried) d ≡ is_held carried d
held-carried me [] d = refl
held-carried me (e ∷ carried) d = ap (λ b. same_determinant d e.det || b) (held-carried me carried d)

-- what was neither held nor carried is not held after what was carried is learned
pub not_held_learned : (me : ℕ) (table carried : List Entry) (d : Determinant) → is_held table d ≡ false → is_held carried d ≡ false → is_held (learned me table carried) d ≡ false
not_held_learned me table carried d none others = grind (arith, nat_tests, held-gathered, or_from, held-carried)

-- one entry more is learned
pub learned_next : (me : ℕ) (table carried : List Entry) (i : ℕ) (e : Entry) → i < length carried → e ≡ get_or carried i e
    → learned me table (take (i + 1) carried) ≡ added (learned me table (take i carried)) (held_by me e)
learned_next me table carried i e below is = rw (take_more carried i e below, ← is, map-append) (fold_push added table (map (held_by me) (take i carried)) (held_by me e))

-- a determinant that differs from those of the entries is not held by them
missing : (rest : List Entry) (d : Determinant) → AllByRecursion (λ x. same_determinant d x ≡ false) (map (λ (e : Entry). e.det) rest) → is_held rest d ≡ false
missing [] d none = refl
missing (e ∷ rest) d none = or_from _ _ none.0 (missing rest d none.1)

-- entries of which the first hold none go behind them
added-apart : (first rest : List Entry) → ((d : Determinant) → is_held rest d ≡ true → is_held first d ≡ false) → IsOnce rest → fold added first rest ≡ first ++ rest
unfolding IsDistinct
added-apart first [] apart once = sym (append-nil first)
added-apart first (e ∷ rest) apart once =
    ap (λ (t : List Entry). fold added t rest) (added_new first e (apart e.det (or_left _ _ ((Decides-same_determinant e.det e.det).1 refl))))
    ∙ added-apart (first ++ e ∷ []) rest (λ d has.
    let other : same_determinant d e.det ≡ false = false_from_ne_true _ (λ same. false≢true (sym (missing rest e.det once.0)
    ∙ (rw ((Decides-same_determinant d e.det).0 same) at has))) in
    grind (arith, list_any-append (λ (y : Entry). same_determinant d y.det) first (e ∷ []), apart d (or_right (same_determinant d e.det) _ has), other)) once.1
    ∙ append_assoc first (e ∷ []) rest

pub gathered_first : (none table : List Entry) → length none ≡ 0 → IsOnce table → gathered none table ≡ table
gathered_first [] table empty once = added-apart [] table (λ d has. refl) once
gathered_first (e ∷ none) table empty once = absurd (omega arith)
