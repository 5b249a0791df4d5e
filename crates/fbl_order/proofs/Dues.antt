-- An entry of a log with restarts that may come next still may where other members have come further.
use Rattle.fbl_order.proofs.Common.{ℕ, List, ◌++◌, ◌+◌, ◌≡◌, ◌≢◌, ◌≤◌, ◌<◌, ◌∙◌, Some, refl, sym, ap, subst, arith, inl, inr, cases_lt, cases_order}
use Rattle.fbl_order.proofs.Common.{length, length-append, take, take_all, take-append-le, slice_get, slice_get_within, At-front, Contains}
use Rattle.fbl_order.proofs.Common.{Mark, Send, Receipt, Entry, Event, entry_member, mark_in, marks, member_of, send_of, LogsBegin}
use Rattle.fbl_order.proofs.Own.{own-front}
use Rattle.fbl_order.proofs.Marks.{mark_member}
use Rattle.fbl_runs.specs.declared.entry.Restart as restart
use Rattle.fbl_runs.specs.declared.entry.Entry.TheVariants.{Restart}
use Rattle.fbl_runs.specs.Clocks.{seen}
use Rattle.fbl_runs.specs.ControlMessages.{MayBeTold}
use Rattle.fbl_runs.specs.Entries.{log_of, named_life, restart_in}
use Rattle.fbl_runs.specs.HappenedBefore.{Carries, IsAt, at}
use Rattle.fbl_runs.specs.Lives.{StandsBehind, StandsInLife, life_in, standing}
use Rattle.fbl_runs.specs.Rules.{FollowsAt, IsDue, IsReached, IsSentInLife, IsTaken, KeepsReceipts, MayFollow, MayTake, next_in, receipts_standing, restarts, sends_standing}
use Rattle.fbl_runs.proofs.LifeLaws.{LivesRise, StandsBehind-earlier, restart_is, stands_in_life}
use Rattle.fbl_runs.proofs.Listing.{locate_all}
use Rattle.fbl_runs.proofs.LivedLaws.{get_below}
use Rattle.fbl_runs.proofs.SendLaws.{SendsNumbered, one_in_life, send_stands_at, sends_standing_is}

-- ---- a front of a log

-- what stands in it
stands_longer : (a rest : List Entry) (k x : ℕ) → x ≤ length a → StandsBehind a k x → StandsBehind (a ++ rest) k x
stands_longer a rest k x within stands = (
  stands.0,
  λ number r after below here.
      let there = get_below a rest number (Restart r) (omega (arith, below, within)) here in
      subst (λ (l : List Entry). Contains (standing l) k) (sym (take-append-le (number + 1) a rest (omega (arith, below, within)))) (stands.1 number r after below there),
)

stands_shorter : (a rest : List Entry) (k x : ℕ) → x ≤ length a → StandsBehind (a ++ rest) k x → StandsBehind a k x
stands_shorter a rest k x within stands = (
  stands.0,
  λ number r after below here.
      let there = At-front a rest number (Restart r) here in
      subst (λ (l : List Entry). Contains (standing l) k) (take-append-le (number + 1) a rest (omega (arith, below, within))) (stands.1 number r after below there),
)

life_longer : (a rest : List Entry) (life k : ℕ) → StandsInLife a life k → StandsInLife (a ++ rest) life k
life_longer a rest life k is = (
  is.0,
  omega (arith, is.1, length-append a rest),
  ap life_in (take-append-le is.0 a rest is.1) ∙ is.2,
  stands_longer a rest k is.0 is.1 is.3,
)

module _ (s t : List Entry) (logs : LogsBegin s t) where
  at-later : (q k : ℕ) (e : Entry) → IsAt (log_of s) (at q k) e → IsAt (log_of t) (at q k) e
  at-later q k e is = subst (λ (l : List Entry). slice_get l k ≡ Some e) (sym (logs q).1) (At-front (log_of s q) (logs q).0 k e is)

  life-later : (q life k : ℕ) → StandsInLife (log_of s q) life k → StandsInLife (log_of t q) life k
  life-later q life k is = subst (λ (l : List Entry). StandsInLife l life k) (sym (logs q).1) (life_longer (log_of s q) (logs q).0 life k is)

  pub sent-later : (from ssn to life k : ℕ) → IsSentInLife (log_of s) from ssn to life k → IsSentInLife (log_of t) from ssn to life k
  sent-later from ssn to life k is = (at-later from k (Event (Send from ssn to)) is.0, life-later from life k is.1)

  carries-later : (q k p j : ℕ) → Carries (log_of s) (at q k) (at p j) → Carries (log_of t) (at q k) (at p j)
  carries-later q k p j c = (c.0, c.1, c.2, at-later q k (Event c.0) c.3, at-later p j c.2 c.4, c.5, c.6, life-later q (named_life c.2) k c.7)

-- ---- entries that obey the rules

-- what a member has before the place
log-front : (t : List Entry) (p m : ℕ) → log_of (take p t) m ≡ take (seen t p m) (log_of t m)
log-front t p m =
    let front = own-front entry_member m p t in
    sym (ap (take (seen t p m)) front.1 ∙ take-append-le (seen t p m) (log_of (take p t) m) front.0 (omega arith) ∙ take_all (seen t p m) (log_of (take p t) m) (omega arith))

sends : (r s : Mark) → send_of r ≡ Some s → (from : ℕ) × (ssn : ℕ) × (to : ℕ) × (s ≡ Send from ssn to)
sends (Send from ssn to) s is = cc
sends (Receipt to rsn from ssn) s is = (from, ssn, to, (let same : Send from ssn to ≡ s = cc in sym same))

module _ (n : ℕ) (t : List Entry) (obeys : (i : ℕ) → FollowsAt n t i) where
  follows : (m k : ℕ) (e : Entry) → IsAt (log_of t) (at m k) e → (p : ℕ) × MayFollow n (take p t) e × (log_of (take p t) m ≡ take k (log_of t m)) × (entry_member e ≡ m)
  follows m k e is =
      let w = locate_all t m k e is in
      (w.0, obeys w.0 e w.2, log-front t w.0 m ∙ ap (λ (x : ℕ). take x (log_of t m)) w.4, w.3)

  numbered : (q : ℕ) → SendsNumbered (log_of t q)
  numbered q k from ssn to here =
      let w = follows q k (Event (Send from ssn to)) here in
      let next = w.1.0 (Send from ssn to) refl in
      next.2 ∙ ap (λ (l : List Entry). sends_standing l + 1) (ap (log_of (take w.0 t)) w.3 ∙ w.2)

  rise : (q : ℕ) → LivesRise (log_of t q)
  rise q k r here =
      let w = follows q k (Restart r) here in
      let next = w.1.1 r refl in
      subst (λ (l : List Entry). life_in l < r.life) (ap (log_of (take w.0 t)) w.3 ∙ w.2) next.2

  -- the message of a receipt is carried
  carried : (p j : ℕ) (b : Entry) (r s : Mark) → IsAt (log_of t) (at p j) b → mark_in b ≡ Some r → send_of r ≡ Some s → (k : ℕ) × Carries (log_of t) (at (member_of s) k) (at p j)
  carried p j b (Send from ssn to) s here is takes = cc
  carried p j b (Receipt to rsn from ssn) s here is takes =
      let w = follows p j b here in
      let due = (w.1.0 (Receipt to rsn from ssn) is).3 in
      let same : Send from ssn to ≡ s = cc in
      let sent = sent-later (take w.0 t) t (λ q. own-front entry_member q w.0 t) from ssn to (named_life b) due.send due.sent in
      (due.send, subst (λ (s : Mark). Carries (log_of t) (at (member_of s) due.send) (at p j)) same (Send from ssn to, Receipt to rsn from ssn, b, sent.0, here, is, refl, sent.1))

  -- by one send
  one_carried : (q k l p j : ℕ) → Carries (log_of t) (at q k) (at p j) → Carries (log_of t) (at q l) (at p j) → k ≡ l
  one_carried q k l p j c d =
      let b : c.2 ≡ d.2 = (let some : Some c.2 ≡ Some d.2 = sym c.4 ∙ d.4 in cc) in
      let r : c.1 ≡ d.1 = (let some : Some c.1 ≡ Some d.1 = sym c.5 ∙ ap mark_in b ∙ d.5 in cc) in
      let s : c.0 ≡ d.0 = (let some : Some c.0 ≡ Some d.0 = sym c.6 ∙ ap send_of r ∙ d.6 in cc) in
      let e = sends c.1 c.0 c.6 in
      let at_k : slice_get (log_of t q) k ≡ Some (Event (Send e.0 e.1 e.2)) = c.3 ∙ ap (λ (m : Mark). Some (Event m)) e.3 in
      let at_l : slice_get (log_of t q) l ≡ Some (Event (Send e.0 e.1 e.2)) = d.3 ∙ ap (λ (m : Mark). Some (Event m)) (sym s ∙ e.3) in
      one_in_life (log_of t q) (numbered q) (rise q) (named_life c.2) k l e.0 e.1 e.2 e.0 e.2 at_k at_l c.7 (subst (λ (x : Entry). StandsInLife (log_of t q) (named_life x) l) (sym b) d.7)

-- ---- what a receiver may take

module _ (n : ℕ) (s t : List Entry) (obeys_s : (i : ℕ) → FollowsAt n s i) (obeys_t : (i : ℕ) → FollowsAt n t i) (logs : LogsBegin s t)
    (from to : ℕ) (same : log_of t to ≡ log_of s to) where
  taken-later : (k : ℕ) → IsTaken (log_of s) from to k → IsTaken (log_of t) from to k
  taken-later k is = (is.0, subst (λ (l : List Entry). Contains (standing l) is.0) (sym same) is.1, carries-later s t logs from k to is.0 is.2)

  taken-before : (k : ℕ) → IsTaken (log_of t) from to k → IsTaken (log_of s) from to k
  taken-before k is =
      let j = is.0 in
      let c = is.2 in
      let here : IsAt (log_of s) (at to j) c.2 = subst (λ (l : List Entry). slice_get l j ≡ Some c.2) same c.4 in
      let old = carried n s obeys_s to j c.2 c.1 c.0 here c.5 c.6 in
      let mine : member_of c.0 ≡ from = (locate_all t from k (Event c.0) c.3).3 in
      let there : Carries (log_of s) (at from old.0) (at to j) = subst (λ (q : ℕ). Carries (log_of s) (at q old.0) (at to j)) mine old.1 in
      let one = one_carried n t obeys_t from k old.0 to j c (carries-later s t logs from old.0 to j there) in
      (j, subst (λ (l : List Entry). Contains (standing l) j) same is.1, subst (λ (x : ℕ). Carries (log_of s) (at from x) (at to j)) (sym one) there)

  reached-later : (number : ℕ) → IsReached (log_of s) from to number → IsReached (log_of t) from to number
  reached-later number is = (
    is.0,
    is.1,
    is.2,
    subst (λ (l : List Entry). Contains (standing l) is.0) (sym same) is.3,
    subst (λ (l : List Entry). slice_get l is.0 ≡ Some is.1) (sym same) is.4,
    is.5,
    is.6,
    is.7,
  )

  -- no send with a smaller number comes into a life behind one that stands there
  module _ (number ssn life k old : ℕ) (less : number < ssn) (sent : IsSentInLife (log_of t) from number to life k) (before : IsSentInLife (log_of s) from ssn to life old) where
    -- it stands in the life by a time that has come
    by : (x : ℕ) → x ≤ length (log_of s from) → life_in (take x (log_of t from)) ≡ life → StandsBehind (log_of t from) k x → IsSentInLife (log_of s) from number to life k
    by x within is stands =
        let stands' : StandsBehind (log_of s from ++ (logs from).0) k x = subst (λ (l : List Entry). StandsBehind l k x) (logs from).1 stands in
        let is' : life_in (take x (log_of s from ++ (logs from).0)) ≡ life = subst (λ (l : List Entry). life_in (take x l) ≡ life) (logs from).1 is in
        let here' : slice_get (log_of s from ++ (logs from).0) k ≡ Some (Event (Send from number to)) = subst (λ (l : List Entry). slice_get l k ≡ Some (Event (Send from number to))) (logs from).1 sent.0 in (
          get_below (log_of s from) (logs from).0 k (Event (Send from number to)) (omega (arith, stands.0, within)) here',
          (
            x,
            within,
            sym (ap life_in (take-append-le x (log_of s from) (logs from).0 within)) ∙ is',
            stands_shorter (log_of s from) (logs from).0 k x within stands',
          ),
        )

    -- it does not come behind the other
    not_behind : (x : ℕ) → StandsBehind (log_of t from) old x → k < x → old < k → ⊥
    not_behind x stands within past =
        let earlier = StandsBehind-earlier (log_of t from) old x k stands past (omega (arith, within)) in
        let mine = sent-later s t logs from ssn to life old before in
        let i = send_stands_at (log_of t from) (numbered n t obeys_t from) k old from ssn to mine.0 earlier in
        omega (arith, slice_get_within _ i.0 old i.2, i.1, sends_standing_is (log_of t from) k, numbered n t obeys_t from k from number to sent.0, less)

    pub sent-before : IsSentInLife (log_of s) from number to life k
    sent-before =
        let mine = sent-later s t logs from ssn to life old before in
        elim (cases_lt (length (log_of s from)) sent.1.0) [
          | inr early ↦ by sent.1.0 early sent.1.2 sent.1.3
          | inl late ↦
              let x = sent.1.0 in
              let y = before.1.0 in
              let within = before.1.1 in
              let stood : StandsBehind (log_of t from) old y =
              subst (λ (l : List Entry). StandsBehind l old y) (sym (logs from).1) (stands_longer (log_of s from) (logs from).0 old y within before.1.3) in
              let in_life : life_in (take y (log_of t from)) ≡ life =
              subst (λ (l : List Entry). life_in (take y l) ≡ life) (sym (logs from).1) (ap life_in (take-append-le y (log_of s from) (logs from).0 within) ∙ before.1.2) in
              let stands = stands_in_life (log_of t from) (rise n t obeys_t from) old y x stood (omega (arith, late, within)) (in_life ∙ sym sent.1.2) in
              let apart : k ≢ old = λ is. (
              let both : Some (Event (Send from number to)) ≡ Some (Event (Send from ssn to)) = sym sent.0 ∙ ap (slice_get (log_of t from)) is ∙ mine.0 in
              let equal : number ≡ ssn = cc in
              omega (arith, equal, less)) in
              let first : k < old = elim (cases_order k old) [
                | inl is ↦ absurd (apart is)
                | inr (inl below) ↦ below
                | inr (inr above) ↦ absurd (not_behind x stands sent.1.3.0 above)
              ] in
              by y within in_life (StandsBehind-earlier (log_of t from) k x y sent.1.3 (omega (arith, first, before.1.3.0)) (omega (arith, late, within)))
        ]

  due-later : (ssn life : ℕ) → IsDue (log_of s) from ssn to life → IsDue (log_of t) from ssn to life
  due-later ssn life due = record {
    send = due.send;
    sent = sent-later s t logs from ssn to life due.send due.sent;
    untaken = λ is. due.untaken (taken-before due.send is);
    next = λ number k less sent. elim (due.next number k less (sent-before number ssn life k due.send less sent due.sent)) [
      | inl is ↦ inl (taken-later k is)
      | inr is ↦ inr (reached-later number is)
    ];
  }

-- ---- the rules

next-later : (s t : List Entry) (m : Mark) → log_of t (member_of m) ≡ log_of s (member_of m) → next_in (log_of t) m ≡ next_in (log_of s) m
next-later s t (Send from ssn to) same = ap (λ (l : List Entry). sends_standing l + 1) same
next-later s t (Receipt to rsn from ssn) same = ap (λ (l : List Entry). receipts_standing l + 1) same

module _ (n : ℕ) (s t : List Entry) (obeys_s : (i : ℕ) → FollowsAt n s i) (obeys_t : (i : ℕ) → FollowsAt n t i) (logs : LogsBegin s t) where
  take-later : (m : Mark) (life : ℕ) → log_of t (member_of m) ≡ log_of s (member_of m) → MayTake (log_of s) m life → MayTake (log_of t) m life
  take-later (Send from ssn to) life same may = tt
  take-later (Receipt to rsn from ssn) life same may = due-later n s t obeys_s obeys_t logs from to same ssn life may

  pub lives-later : (e : Entry) → log_of t (entry_member e) ≡ log_of s (entry_member e) → ((m : Mark) → mark_in e ≡ Some m → length (marks t) < 8192)
      → ((r : restart.Restart) → restart_in e ≡ Some r → restarts t < 8) → MayBeTold n t e → MayFollow n s e → MayFollow n t e
  lives-later e same few rare told may = (
    λ m is.
        let old = may.0 m is in
        let mine : log_of t (member_of m) ≡ log_of s (member_of m) = subst (λ (q : ℕ). log_of t q ≡ log_of s q) (mark_member e m is) same in
        (few m is, old.1, old.2 ∙ sym (next-later s t m mine), take-later m (named_life e) mine old.3),
    λ r is.
        let old = may.1 r is in
        let mine : log_of t r.member ≡ log_of s r.member = subst (λ (q : ℕ). log_of t q ≡ log_of s q) (ap entry_member (restart_is e r is)) same in (
          rare r is,
          old.1,
          subst (λ (l : List Entry). life_in l < r.life) (sym mine) old.2,
          subst (λ (l : List Entry). r.receipts + r.sends ≤ length (standing l)) (sym mine) old.3,
          subst (λ (l : List Entry). KeepsReceipts l r) (sym mine) old.4,
        ),
    told,
  )
