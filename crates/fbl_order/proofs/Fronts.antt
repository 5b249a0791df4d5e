-- Parts of orders of entries: one to which no next entry can be added is the furthest.
use Rattle.fbl_order.proofs.Common.{ℕ, zero, suc, List, [], ◌∷◌, ◌++◌, ◌+◌, ◌≡◌, ◌≤◌, ◌<◌, ◌∙◌, Some, refl, sym, ap, subst, arith, inl, inr, cases_eq, cases_order, eqb-self}
use Rattle.fbl_order.proofs.Common.{drop, length, length-append, length-take, take, take_all, take-append-drop, take-append-le, take-more, slice_get, slice_get_within, slice_get-take, append-nil, append_assoc, append_cancel_left, filter-append, filter_map-append}
use Rattle.fbl_order.proofs.Common.{At-filter, At-front, At-push, Begins, own, Mark, Send, Receipt, log_of, member_of, mark_in, marks, WellFormed, WellFormed-push, MayFollow}
use Rattle.fbl_order.proofs.Common.{Entry, Event, Hold, LaterReceipt, Restart, Store, Tell, Told, entry_member, MayCome, MayFollowAs, LogsBegin, Obeys, SameEntryLogs, AreFew, AreHeard, IsBegun, IsFurthest, HasNoOrder, CanCome}
use Rattle.fbl_order.proofs.Common.{Bool, None, Option, true, false, cond, have_lives, restart_in, receipt_of, WellFormed-none}
use Rattle.fbl_order.proofs.Dues.{lives-later}
use Rattle.fbl_order.proofs.LogLaws.{MayFollow-later, filter-At}
use Rattle.fbl_order.proofs.Marks.{count-begin, count-same, event_counts, is_event, mark_member, marks-begin, marks-count, marks-own, marks-some, restart_there, weight}
use Rattle.fbl_trace.proofs.RulesLaws.{MayFollow-last, WellFormed-front}
use Rattle.std.proofs.lemmas.List.Sums.{sum_by_push}
use Rattle.fbl_runs.specs.declared.entry.Restart as restart
use Rattle.fbl_runs.specs.Rules as rules
use Rattle.fbl_runs.proofs.LifeLaws.{restart_is}
use Rattle.fbl_order.proofs.Own.{own-front, own-push, own-push_other, own-take}
use Rattle.fbl_runs.proofs.Listing.{some_item}
use Rattle.fbl_runs.specs.declared.control.ControlMessage.{ControlMessage}
use Rattle.fbl_runs.specs.ControlMessages.{AreTold, Has, MayBeTold}
use Rattle.fbl_runs.specs.HappenedBefore.{IsAt, at}
use Rattle.fbl_runs.specs.Entries as entries
use Rattle.fbl_runs.proofs.ControlLaws.{one_tell}
use Rattle.fbl_runs.proofs.Listing.{one_place, placed, seen-later}

-- ---- entries that obey the rules

-- what holds of each entry behind those before it holds with one more
pub each-push : (P : List Entry → Entry → Type 0) (s : List Entry) (e : Entry) → ((i : ℕ) (x : Entry) → slice_get s i ≡ Some x → P (take i s) x) → P s e
    → (i : ℕ) (x : Entry) → slice_get (s ++ e ∷ []) i ≡ Some x → P (take i (s ++ e ∷ [])) x
each-push P s e each last i x at = elim (At-push s e i x at) [
  | inl old ↦ (let within = slice_get_within s i x old in subst (λ (t : List Entry). P t x) (sym (front i (omega (arith, within)))) (each i x old))
  | inr new ↦ (rw (new.0, ← new.1) (subst (λ (t : List Entry). P t e) (sym (front (length s) (omega arith) ∙ take_all (length s) s (omega arith))) last))
] where
  front : (i : ℕ) → i ≤ length s → take i (s ++ e ∷ []) ≡ take i s
  front i within = take-append-le i s (e ∷ []) within

-- sends and receipts obey the rules with one more entry that may come
events-push : (n : ℕ) (run : List Mark) (e : Entry) → WellFormed n run → MayFollowAs n run e → WellFormed n (run ++ marks (e ∷ []))
events-push n run (Event m) obeys may = WellFormed-push n run m obeys (may m refl)
events-push n run (LaterReceipt d life) obeys may = WellFormed-push n run (receipt_of d) obeys (may (receipt_of d) refl)
events-push n run e obeys may = rw append-nil obeys

pub obeys-none : (lived : Bool) (n : ℕ) → Obeys lived n []
obeys-none false n = (WellFormed-none n, λ i e at. cc)
obeys-none true n = λ i e at. cc

pub obeys-push : (lived : Bool) (n : ℕ) (s : List Entry) (e : Entry) → Obeys lived n s → MayCome lived n s e → Obeys lived n (s ++ e ∷ [])
obeys-push false n s e obeys may = (
  subst (λ (t : List Mark). WellFormed n t) (sym (filter_map-append mark_in s (e ∷ []))) (events-push n (marks s) e obeys.0 may.0),
  each-push (MayBeTold n) s e obeys.1 may.1,
)
obeys-push true n s e obeys may = each-push (rules.MayFollow n) s e obeys may

-- each entry may come behind those before it
may_event : (n : ℕ) (s : List Entry) → WellFormed n (marks s) → (k : ℕ) (e : Entry) (m : Mark) → slice_get s k ≡ Some e → mark_in e ≡ Some m → MayFollow n (marks (take k s)) m
may_event n s obeys k e m at is =
    let rest = marks (drop (k + 1) s) in
    let whole : marks s ≡ (marks (take k s) ++ m ∷ []) ++ rest =
    ap marks (sym (take-append-drop (k + 1) s)) ∙ filter_map-append mark_in (take (k + 1) s) (drop (k + 1) s) ∙ ap (λ (x : List Mark). x ++ rest) (marks-some s k e m at is) in
    MayFollow-last n (marks (take k s)) m (WellFormed-front n (marks (take k s) ++ m ∷ []) rest (subst (λ (t : List Mark). WellFormed n t) whole obeys))

pub may_come : (lived : Bool) (n : ℕ) (s : List Entry) → Obeys lived n s → (k : ℕ) (e : Entry) → slice_get s k ≡ Some e → MayCome lived n (take k s) e
may_come false n s obeys k e at = (λ m has. may_event n s obeys.0 k e m at has, obeys.1 k e at)
may_come true n s obeys k e at = obeys k e at

-- what holds of no entries, and with one more that may come, holds of all
pub obeyed : (lived : Bool) (n : ℕ) (P : List Entry → Type 0) → P [] → ((s : List Entry) (e : Entry) → Obeys lived n s → MayCome lived n s e → P s → P (s ++ e ∷ []))
    → (s : List Entry) → Obeys lived n s → P s
obeyed lived n P none more s obeys = subst P (take_all (length s) s (omega arith)) (front (length s) (omega arith)).1 where
  front : (k : ℕ) → k ≤ length s → Obeys lived n (take k s) × P (take k s)
  front zero within = (obeys-none lived n, none)
  front (suc k) within =
      let e = some_item s k (omega (arith, within)) in
      let before = front k (omega (arith, within)) in
      let may = may_come lived n s obeys k e.0 e.1 in
      subst (λ (t : List Entry). Obeys lived n t × P t) (sym (take-more s k e.0 e.1)) (obeys-push lived n (take k s) e.0 before.0 may, more (take k s) e.0 before.0 may before.1)

-- ---- what other members do

-- an entry of a front is one of the list
pub has-begin : (s t : List Entry) → LogsBegin s t → (x : Entry) → Has s x → Has t x
has-begin s t logs x has =
    let mine = filter-At (entries.is_at (entry_member x)) s has.0 x has.1 (eqb-self (entry_member x)) in
    let there : slice_get (own entry_member (entry_member x) t) mine.0 ≡ Some x = (rw (logs (entry_member x)).1 (At-front (own entry_member (entry_member x) s) (logs (entry_member x)).0 mine.0 x mine.1)) in
    let found = At-filter (entries.is_at (entry_member x)) t mine.0 x there in
    (found.0, found.1)

-- and so it is where the logs of its member are the same
pub has-same : (s t : List Entry) (x : Entry) → own entry_member (entry_member x) t ≡ own entry_member (entry_member x) s → Has t x → Has s x
has-same s t x same has =
    let mine = filter-At (entries.is_at (entry_member x)) t has.0 x has.1 (eqb-self (entry_member x)) in
    let there : slice_get (own entry_member (entry_member x) s) mine.0 ≡ Some x = (rw same at mine.1) in
    let found = At-filter (entries.is_at (entry_member x)) s mine.0 x there in
    (found.0, found.1)

-- an entry that may come next still may where only other members have gone further
MayBeTold-later : (n : ℕ) (s t : List Entry) (e : Entry) → LogsBegin s t → own entry_member (entry_member e) t ≡ own entry_member (entry_member e) s
    → MayBeTold n s e → MayBeTold n t e
MayBeTold-later n s t (Event m) logs same may = tt
MayBeTold-later n s t (Hold q d) logs same may = tt
MayBeTold-later n s t (Store q d) logs same may = tt
MayBeTold-later n s t (LaterReceipt d life) logs same may = tt
MayBeTold-later n s t (Restart r) logs same may = tt
MayBeTold-later n s t (Tell m) logs same may = (may.0, λ has. may.1 (has-same s t (Tell m) same has))
MayBeTold-later n s t (Told m) logs same may = (has-begin s t logs (Tell m) may.0, λ has. may.1 (has-same s t (Told m) same has))

-- there is room for the entry
pub record HasRoom (lived : Bool) (t : List Entry) (e : Entry) : Type 0 where
  pub events : (m : Mark) → mark_in e ≡ Some m → length (marks t) < 8192
  pub restarts : lived ≡ true → (r : restart.Restart) → restart_in e ≡ Some r → rules.restarts t < 8

pub MayCome-later : (lived : Bool) (n : ℕ) (s t : List Entry) (e : Entry) → Obeys lived n s → Obeys lived n t → LogsBegin s t
    → own entry_member (entry_member e) t ≡ own entry_member (entry_member e) s → HasRoom lived t e → MayCome lived n s e → MayCome lived n t e
MayCome-later false n s t e obeys_s obeys_t logs same room may = (
  λ m has.
      let mine = mark_member e m has in
      let logs' : log_of (member_of m) (marks t) ≡ log_of (member_of m) (marks s) =
      (rw (← mine) (sym (marks-own (entry_member e) t) ∙ ap marks same ∙ marks-own (entry_member e) s)) in
      MayFollow-later n (marks s) (marks t) m (marks-begin s t logs) logs' (room.events m has) (may.0 m has),
  MayBeTold-later n s t e logs same may.1,
)
MayCome-later true n s t e obeys_s obeys_t logs same room may =
    lives-later n s t obeys_s obeys_t logs e same room.events (room.restarts refl) (MayBeTold-later n s t e logs same may.2) may

-- ---- the furthest part of an order

module _ (n : ℕ) (given run : List Entry) (begun : IsBegun n given run) (few : AreFew (have_lives given) given)
    (stuck : (e : Entry) (rest : List Entry) → own entry_member (entry_member e) given ≡ own entry_member (entry_member e) run ++ e ∷ rest
    → ¬ (MayCome (have_lives given) n run e)) where
  -- there is room for an entry that the run lacks
  room : (e : Entry) (rest : List Entry) → own entry_member (entry_member e) given ≡ own entry_member (entry_member e) run ++ e ∷ rest → HasRoom (have_lives given) run e
  room e rest more = record {
    events = λ m is.
        let fewer = count-begin is_event run given begun.logs e rest more (event_counts e m is) in
        omega (arith, fewer, few.0, marks-count run, marks-count given);
    restarts = λ lived r is.
        let fewer = count-begin rules.is_restart run given begun.logs e rest more (ap rules.is_restart (restart_is e r is)) in
        omega (arith, fewer, few.1 lived);
  }

  -- where the run has all of the member's log before the entry, it has the entry too
  more : (s : List Entry) (e : Entry) → Obeys (have_lives given) n s → MayCome (have_lives given) n s e → LogsBegin (s ++ e ∷ []) given → LogsBegin s run
      → Begins (own entry_member (entry_member e) s ++ e ∷ []) (own entry_member (entry_member e) run)
  more s e obeys may logs known = here (known (entry_member e)).0 (known (entry_member e)).1 where
    here : (m : List Entry) → own entry_member (entry_member e) run ≡ own entry_member (entry_member e) s ++ m
        → Begins (own entry_member (entry_member e) s ++ e ∷ []) (own entry_member (entry_member e) run)
    here [] is =
        let same : own entry_member (entry_member e) run ≡ own entry_member (entry_member e) s = is ∙ append-nil _ in
        let next : own entry_member (entry_member e) given ≡ own entry_member (entry_member e) run ++ e ∷ (logs (entry_member e)).0 =
        (logs (entry_member e)).1 ∙ ap (λ xs. xs ++ (logs (entry_member e)).0) (own-push entry_member (entry_member e) s e refl) ∙ append_assoc _ (e ∷ []) _
        ∙ ap (λ xs. xs ++ e ∷ (logs (entry_member e)).0) (sym same) in
        absurd (stuck e (logs (entry_member e)).0 next (MayCome-later (have_lives given) n s run e obeys begun.obeys known same (room e (logs (entry_member e)).0 next) may))
    here (x ∷ m) is =
        let both : own entry_member (entry_member e) s ++ (x ∷ (m ++ (begun.logs (entry_member e)).0)) ≡ own entry_member (entry_member e) s ++ (e ∷ (logs (entry_member e)).0) =
        sym (append_assoc (own entry_member (entry_member e) s) (x ∷ m) (begun.logs (entry_member e)).0)
        ∙ ap (λ xs. xs ++ (begun.logs (entry_member e)).0) (sym is)
        ∙ sym (begun.logs (entry_member e)).1
        ∙ (logs (entry_member e)).1
        ∙ ap (λ xs. xs ++ (logs (entry_member e)).0) (own-push entry_member (entry_member e) s e refl)
        ∙ append_assoc _ (e ∷ []) _ in
        let tails = append_cancel_left (own entry_member (entry_member e) s) _ _ both in
        let first : x ≡ e = cc in
        (m, is ∙ ap (λ y. own entry_member (entry_member e) s ++ y ∷ m) first ∙ sym (append_assoc (own entry_member (entry_member e) s) (e ∷ []) m))

  reaches : (s : List Entry) → Obeys (have_lives given) n s → LogsBegin s given → LogsBegin s run
  reaches s = obeyed (have_lives given) n (λ s. LogsBegin s given → LogsBegin s run) (λ logs q. (own entry_member q run, refl)) next s where
    next : (s : List Entry) (e : Entry) → Obeys (have_lives given) n s → MayCome (have_lives given) n s e → (LogsBegin s given → LogsBegin s run)
        → LogsBegin (s ++ e ∷ []) given → LogsBegin (s ++ e ∷ []) run
    next s e obeys may before logs q =
        let known = before (λ p. (
          own entry_member p (e ∷ []) ++ (logs p).0,
          (logs p).1 ∙ ap (λ (z : List Entry). z ++ (logs p).0) (filter-append (entries.is_at p) s (e ∷ []))
              ∙ append_assoc (own entry_member p s) (own entry_member p (e ∷ [])) (logs p).0,
        )) in
        elim (cases_eq (entry_member e) q) [
          | inl mine ↦ (let here = more s e obeys may logs known in rw (own-push entry_member q s e mine) (rw mine at here))
          | inr other ↦ rw (own-push_other entry_member q s e other) (known q)
        ]

  pub furthest : IsFurthest n given run
  furthest = record { begun = begun; furthest = λ other is. reaches other is.obeys is.logs }

-- what the furthest lacks is in no part of an order
pub never-from_furthest : (n : ℕ) (given run : List Entry) → IsFurthest n given run → (i : ℕ) (e : Entry) → slice_get given i ≡ Some e
    → own entry_member (entry_member e) run ≡ own entry_member (entry_member e) (take i given) → ¬ (CanCome n given i)
never-from_furthest n given run far i e here next can =
    let q : ℕ = entry_member e in
    let within = far.furthest can.0 can.1 q in
    let has = can.2 e here in
    let mine = own-take entry_member q given i e here refl in
    omega (arith, length-append {A = Entry}, ap length within.1, ap length has.1, ap length mine, ap length next)

-- and then there is no order
pub none-from_never : (n : ℕ) (given : List Entry) (i : ℕ) → ¬ (CanCome n given i) → HasNoOrder n given
none-from_never n given i never ordered is =
    never (
      ordered,
      record { obeys = is.obeys; logs = λ q. ([], is.logs q ∙ sym (append-nil (own entry_member q ordered))) },
      λ e here. rw (← is.logs (entry_member e)) (own-front entry_member (entry_member e) (i + 1) given),
    )

-- ---- too many

-- of the sends and receipts, and of the restarts, no order has more
few_events : (lived : Bool) (n : ℕ) (t : List Entry) → Obeys lived n t → length (marks t) ≤ 8192
few_events lived n = obeyed lived n (λ t. length (marks t) ≤ 8192) (omega arith) next where
  room : (t : List Mark) (e : Mark) → MayFollow n t e → length t < 8192
  room t (Send from ssn to) may = may.4
  room t (Receipt to rsn from ssn) may = may.4

  below : (lived : Bool) (t : List Entry) (e : Entry) (m : Mark) → mark_in e ≡ Some m → MayCome lived n t e → length (marks t) < 8192
  below false t e m is may = room (marks t) m (may.0 m is)
  below true t e m is may = (may.0 m is).0

  next : (t : List Entry) (e : Entry) → Obeys lived n t → MayCome lived n t e → length (marks t) ≤ 8192 → length (marks (t ++ e ∷ [])) ≤ 8192
  next t e obeys may few = by_mark (mark_in e) refl where
    longer : length (marks (t ++ e ∷ [])) ≡ length (marks t) + length (marks (e ∷ []))
    longer = ap length (filter_map-append mark_in t (e ∷ [])) ∙ length-append (marks t) (marks (e ∷ []))

    by_mark : (o : Option Mark) → mark_in e ≡ o → length (marks (t ++ e ∷ [])) ≤ 8192
    by_mark None none = (let same : length (marks (e ∷ [])) ≡ 0 = (rw none refl) in omega (arith, longer, same, few))
    by_mark (Some m) is = (let one : length (marks (e ∷ [])) ≡ 1 = (rw is refl) in omega (arith, longer, one, below lived t e m is may))

few_restarts : (n : ℕ) (t : List Entry) → Obeys true n t → rules.restarts t ≤ 8
few_restarts n = obeyed true n (λ t. rules.restarts t ≤ 8) (omega arith) next where
  next : (t : List Entry) (e : Entry) → Obeys true n t → MayCome true n t e → rules.restarts t ≤ 8 → rules.restarts (t ++ e ∷ []) ≤ 8
  next t e obeys may few = by_restart (rules.is_restart e) refl where
    longer : rules.restarts (t ++ e ∷ []) ≡ rules.restarts t + weight (rules.is_restart e)
    longer = sum_by_push (λ x. cond (rules.is_restart x) 1 0) t e

    by_restart : (b : Bool) → rules.is_restart e ≡ b → rules.restarts (t ++ e ∷ []) ≤ 8
    by_restart false is = (let none : weight (rules.is_restart e) ≡ 0 = ap weight is in omega (arith, longer, none, few))
    by_restart true is =
        let one : weight (rules.is_restart e) ≡ 1 = ap weight is in
        let r = restart_there e is in
        omega (arith, longer, one, (may.1 r.0 r.1).0)

-- so there is no order where there are too many
pub none-from_many : (n : ℕ) (given : List Entry) → ¬ (AreFew (have_lives given) given) → HasNoOrder n given
none-from_many n given many ordered is = many (
  omega (arith, few_events (have_lives given) n ordered is.obeys, marks-count given, marks-count ordered, count-same is_event given ordered is.logs),
  λ lived. omega (arith, few_restarts n ordered (subst (λ (b : Bool). Obeys b n ordered) lived is.obeys), count-same rules.is_restart given ordered is.logs),
)

-- ---- entries that are told in another order

-- an entry that each list with these rules has once stands once in a list with the same logs
module _ (n : ℕ) (a b : List Entry) (told : AreTold n b) (same : SameEntryLogs a b) where
  -- no told stands twice
  told_once : (p q : ℕ) (m : ControlMessage) → slice_get b p ≡ Some (Told m) → slice_get b q ≡ Some (Told m) → p ≡ q
  told_once p q m at_p at_q = elim (cases_order p q) [
    | inl is ↦ is
    | inr (inl below) ↦ absurd ((told q (Told m) at_q).1 (p, slice_get-take b q p (Told m) below at_p))
    | inr (inr above) ↦ absurd ((told p (Told m) at_p).1 (q, slice_get-take b p q (Told m) above at_q))
  ]

  -- an entry that stands once in the one stands once in the other
  new_here : (x : Entry) → ((k l : ℕ) → IsAt (entries.log_of b) (at (entry_member x) k) x → IsAt (entries.log_of b) (at (entry_member x) l) x → k ≡ l)
      → (i : ℕ) → slice_get a i ≡ Some x → ¬ (Has (take i a) x)
  new_here x one i here has =
      let earlier : slice_get a has.0 ≡ Some x = within_front has.0 has.1 in
      let below = slice_get_within (take i a) has.0 x has.1 in
      let first = placed a has.0 x (entry_member x) earlier refl in
      let second = placed a i x (entry_member x) here refl in
      let later = seen-later a has.0 i (entry_member x) x earlier refl (omega (arith, below, length-take i a)) in
      let equal = one _ _ (rw (same (entry_member x)) at first) (rw (same (entry_member x)) at second) in
      omega (arith, later, equal)
    where
      within_front : (j : ℕ) → slice_get (take i a) j ≡ Some x → slice_get a j ≡ Some x
      within_front j is = (rw take-append-drop at (At-front (take i a) (drop i a) j x is))

  pub heard_told : AreHeard a → AreTold n a
  heard_told heard i (Tell m) here =
      let there = has-same b a (Tell m) (same m.from) (i, here) in
      ((told there.0 (Tell m) there.1).0, new_here (Tell m) (λ k l at_k at_l. (one_tell n b told m.from k m.from l m at_k at_l).1) i here)
  heard_told heard i (Told m) here =
      (heard i (Told m) here, new_here (Told m) (λ k l at_k at_l. (one_place b m.to k m.to l (Told m) (λ p q. told_once p q m) at_k at_l).1) i here)
  heard_told heard i e here = tt
