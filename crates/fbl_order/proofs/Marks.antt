-- The sends and receipts among entries, and in a member's log.
use Rattle.fbl_order.proofs.Common.{ℕ, List, Mark, None, Some, [], ◌∷◌, ◌++◌, ◌+◌, ◌<◌, ◌≡◌, ◌==◌, ◌∙◌, true, false, cond, ap, arith, drop, length-append, refl, sym, length, take-append-drop, take, slice_get, filter_map-append}
use Rattle.fbl_order.proofs.Common.{Entry, Event, Hold, Store, LaterReceipt, Restart, Tell, Told, entry_member, mark_in, marks, member_of, receipt_of, append-nil, take-more, add-one, own, Begins, LogsBegin, log_of, as_entries, items_at}
use Rattle.fbl_trace.proofs.Common.{cons_option}
use Rattle.fbl_trace.proofs.Gets.{map-At}
use Rattle.fbl_runs.specs.declared.entry.Restart as restart
use Rattle.fbl_runs.specs.Rules.{is_restart, restarts}
use Rattle.fbl_runs.proofs.RestartCounts.{restart_counted}
use Rattle.fbl_order.proofs.Common.{Option, is_some, restart_in}
use Rattle.fbl_order.proofs.Common.{Bool, count_by, append_cancel_left, SameEntryLogs, sum_by, sum_by-cons}
use Rattle.fbl_order.proofs.Own.{beyond, first_of, same_own-permutation}
use Rattle.std.proofs.Common.{option_map}
use Rattle.std.proofs.lemmas.List.Sorted.{sum_by-IsPermutation}
use Rattle.std.proofs.lemmas.List.Sums.{sum_by-append}
use Rattle.std.proofs.lemmas.Option.{slice_get-map}

-- those of a member's log are the member's own
pub marks-own : (q : ℕ) (es : List Entry) → marks (own entry_member q es) ≡ own member_of q (marks es)
marks-own q [] = refl
marks-own q (Event m ∷ es) =
    let rest = marks-own q es in
    elim (member_of m == q) as (λ b. marks (cond b (Event m ∷ own entry_member q es) (own entry_member q es)) ≡ cond b (m ∷ own member_of q (marks es)) (own member_of q
    (marks es))) [ true ↦ ap (λ z. m ∷ z) rest | false ↦ rest ]
marks-own q (Hold holder d ∷ es) =
    let rest = marks-own q es in
    elim (holder == q) as (λ b. marks (cond b (Hold holder d ∷ own entry_member q es) (own entry_member q es)) ≡ own member_of q (marks es)) [
      | true ↦ rest
      | false ↦ rest
    ]
marks-own q (Store member d ∷ es) =
    let rest = marks-own q es in
    elim (member == q) as (λ b. marks (cond b (Store member d ∷ own entry_member q es) (own entry_member q es)) ≡ own member_of q (marks es)) [
      | true ↦ rest
      | false ↦ rest
    ]
marks-own q (Tell t ∷ es) =
    let rest = marks-own q es in
    elim (t.from == q) as (λ b. marks (cond b (Tell t ∷ own entry_member q es) (own entry_member q es)) ≡ own member_of q (marks es)) [ true ↦ rest | false ↦ rest ]
marks-own q (Told t ∷ es) =
    let rest = marks-own q es in
    elim (t.to == q) as (λ b. marks (cond b (Told t ∷ own entry_member q es) (own entry_member q es)) ≡ own member_of q (marks es)) [ true ↦ rest | false ↦ rest ]
marks-own q (LaterReceipt d life ∷ es) =
    let rest = marks-own q es in
    elim (d.to == q) as (λ b. marks (cond b (LaterReceipt d life ∷ own entry_member q es) (own entry_member q es)) ≡ cond b (receipt_of d ∷ own member_of q (marks es)) (own member_of q
    (marks es))) [ true ↦ ap (λ z. receipt_of d ∷ z) rest | false ↦ rest ]
marks-own q (Restart r ∷ es) =
    let rest = marks-own q es in
    elim (r.member == q) as (λ b. marks (cond b (Restart r ∷ own entry_member q es) (own entry_member q es)) ≡ own member_of q (marks es)) [ true ↦ rest | false ↦ rest ]

-- ---- one entry more

pub marks-some : (es : List Entry) (k : ℕ) (e : Entry) (m : Mark) → slice_get es k ≡ Some e → mark_in e ≡ Some m → marks (take (k + 1) es) ≡ marks (take k es) ++ m ∷ []
marks-some es k e m at is = (rw (add-one, take-more es k e at, filter_map-append mark_in (take k es) (e ∷ []), is) refl)

pub marks-none : (es : List Entry) (k : ℕ) (e : Entry) → slice_get es k ≡ Some e → mark_in e ≡ None → marks (take (k + 1) es) ≡ marks (take k es)
marks-none es k e at is = (rw (add-one, take-more es k e at, filter_map-append mark_in (take k es) (e ∷ []), is, append-nil) refl)

-- those before an event are fewer than all
pub marks-before : (es : List Entry) (k : ℕ) (e : Entry) (m : Mark) → slice_get es k ≡ Some e → mark_in e ≡ Some m → length (marks (take k es)) < length (marks es)
marks-before es k e m at is =
    let whole : marks es ≡ marks (take (k + 1) es) ++ marks (drop (k + 1) es) = ap marks (sym (take-append-drop (k + 1) es))
    ∙ filter_map-append mark_in (take (k + 1) es) (drop (k + 1) es) in
    omega (arith, ap length whole, length-append {A = Mark}, ap length (marks-some es k e m at is))

-- a send or receipt is its entry's member's
pub mark_member : (e : Entry) (m : Mark) → mark_in e ≡ Some m → entry_member e ≡ member_of m
mark_member (Event x) m is = (let same : x ≡ m = cc in ap member_of same)
mark_member (LaterReceipt d life) m is = (let same : receipt_of d ≡ m = cc in ap member_of same)
mark_member e m is = cc

-- those of a list with the fronts of the members' logs are the fronts of theirs
pub marks-begin : (s t : List Entry) → LogsBegin s t → (q : ℕ) → Begins (log_of q (marks s)) (log_of q (marks t))
marks-begin s t logs q =
    let begins : Begins (marks (own entry_member q s)) (marks (own entry_member q t)) = (
      marks (logs q).0,
      ap marks (logs q).1
          ∙ filter_map-append mark_in (own entry_member q s) (logs q).0,
    ) in
    (rw (marks-own q s, marks-own q t) at begins)

-- ---- how many of each kind there are

-- how much one entry counts
abbrev pub weight : Bool → ℕ
weight b = cond b 1 0

-- whether the entry is a send or a receipt
abbrev pub is_event : Entry → Bool
is_event e = is_some (mark_in e)

pub event_counts : (e : Entry) (m : Mark) → mark_in e ≡ Some m → is_event e ≡ true
event_counts e m is = ap is_some is

pub marks-count : (es : List Entry) → length (marks es) ≡ count_by is_event es
marks-count [] = refl
marks-count (e ∷ es) = by_mark (mark_in e) refl (marks-count es) where
  rest : count_by is_event (e ∷ es) ≡ weight (is_event e) + count_by is_event es
  rest = sum_by-cons (λ x. cond (is_event x) 1 0) e es

  by_mark : (o : Option Mark) → mark_in e ≡ o → length (marks es) ≡ count_by is_event es → length (cons_option (mark_in e) (marks es)) ≡ count_by is_event (e ∷ es)
  by_mark None is more =
      let none : length (cons_option (mark_in e) (marks es)) ≡ length (marks es) = (rw is refl) in
      let zero : weight (is_event e) ≡ 0 = ap (λ (o : Option Mark). weight (is_some o)) is in
      omega (arith, none, rest, zero, more)
  by_mark (Some m) is more =
      let one : length (cons_option (mark_in e) (marks es)) ≡ length (m ∷ marks es) = (rw is refl) in
      let one' : weight (is_event e) ≡ 1 = ap (λ (o : Option Mark). weight (is_some o)) is in
      omega (arith, one, rest, one', more)

-- and of restarts with one entry more
pub restarts-more : (es : List Entry) (k : ℕ) (e : Entry) → slice_get es k ≡ Some e → restarts (take (k + 1) es) ≡ restarts (take k es) + weight (is_restart e)
restarts-more es k e at = ap restarts (ap (λ (x : ℕ). take x es) (add-one k) ∙ take-more es k e at) ∙ restart_counted (take k es) e

pub is_restart-is : (e : Entry) → is_restart e ≡ is_some (restart_in e)
is_restart-is (Restart r) = refl
is_restart-is e = refl

pub restart_there : (e : Entry) → is_restart e ≡ true → (r : restart.Restart) × (restart_in e ≡ Some r)
restart_there (Restart r) is = (r, refl)
restart_there e is = cc

-- a list with the fronts of the members' logs has fewer of a kind, where it lacks one
pub count-begin : (test : Entry → Bool) (s t : List Entry) → LogsBegin s t → (e : Entry) (rest : List Entry)
    → own entry_member (entry_member e) t ≡ own entry_member (entry_member e) s ++ e ∷ rest → test e ≡ true → count_by test s < count_by test t
count-begin test s t logs e rest more is =
    let r = beyond entry_member s t (λ q. (logs q).0) (λ q. (logs q).1) in
    let f : Entry → ℕ = λ x. cond (test x) 1 0 in
    let one : f e ≡ 1 = (rw is refl) in
    let left : own entry_member (entry_member e) r.0 ≡ e ∷ rest =
    r.2 (entry_member e) ∙ append_cancel_left (own entry_member (entry_member e) s) _ _ (sym (logs (entry_member e)).1 ∙ more) in
    let cut = first_of entry_member (entry_member e) r.0 e rest left in
    let all = sum_by-IsPermutation f (s ++ r.0) t r.1 in
    let parts : sum_by f r.0 ≡ sum_by f cut.0 + sum_by f (e ∷ cut.1) = ap (sum_by f) cut.2 ∙ sum_by-append f cut.0 (e ∷ cut.1) in
    omega (arith, all, sum_by-append f s r.0, parts, sum_by-cons f e cut.1, one)

-- as many as another with the same logs
pub count-same : (test : Entry → Bool) (s t : List Entry) → SameEntryLogs s t → count_by test s ≡ count_by test t
count-same test s t same = sym (sum_by-IsPermutation (λ x. cond (test x) 1 0) s t (same_own-permutation entry_member s t same))

-- ---- events as entries

pub marks-as_entries : (events : List Mark) → marks (as_entries events) ≡ events
marks-as_entries [] = refl
marks-as_entries (m ∷ events) = ap (λ (xs : List Mark). m ∷ xs) (marks-as_entries events)

-- each of them is one
pub At-as_entries : (events : List Mark) (i : ℕ) (e : Entry) → slice_get (as_entries events) i ≡ Some e → (m : Mark) × (e ≡ Event m)
At-as_entries events i e at = (let found = map-At Event events i e at in (found.0, sym found.2))

-- those of a member's log are the member's own
pub own-as_entries : (q : ℕ) (events : List Mark) → own entry_member q (as_entries events) ≡ as_entries (own member_of q events)
own-as_entries q [] = refl
own-as_entries q (m ∷ events) =
    let rest = own-as_entries q events in
    elim (member_of m == q) as (λ b. cond b (Event m ∷ own entry_member q (as_entries events)) (own entry_member q (as_entries events))
    ≡ as_entries (cond b (m ∷ own member_of q events) (own member_of q events))) [ true ↦ ap (λ (es : List Entry). Event m ∷ es) rest | false ↦ rest ]

pub items_at-as_entries : (events : List Mark) (places : List ℕ) → items_at (as_entries events) places ≡ as_entries (items_at events places)
items_at-as_entries events [] = refl
items_at-as_entries events (p ∷ places) =
    let rest = items_at-as_entries events places in
    rw (slice_get-map Event events p)
    (elim (slice_get events p) as (λ o. cons_option (option_map Event o) (items_at (as_entries events) places) ≡ as_entries (cons_option o (items_at events places))) [
      | None ↦ rest
      | Some m ↦ ap (λ (xs : List Entry). Event m ∷ xs) rest
    ])
