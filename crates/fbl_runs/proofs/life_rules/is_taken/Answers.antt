use Rattle.fbl_runs.proofs.Common.{ℕ, true, ◌≡◌, ◌∙◌, ◌↔◌, arith, cases_lt, false≢true, inl, inr, length, log_of, refl, slice_get, slice_get_read, Some, subst, sym}
use Rattle.fbl_runs.specs.declared.lives.StandingEvent.{StandingEvent}
use Rattle.fbl_runs.specs.LifeRules.{TakesSend}
use Rattle.fbl_runs.proofs.DueLaws.{taken_iff}
use Rattle.fbl_runs.proofs.life_rules.is_taken.Goals as goal

pub returns-then-takes : goal.returns-then-takes
returns-then-takes c before has here =
    let events = c.standing-event-items.result.now in
    let i = c.loop-event.event-index in
    let e = c.event-item.result in
    let there : slice_get events i ≡ Some e = slice_get_read events (length events) i e refl c.loop-event-test.true c.event-item.is in
    let takes : (c.takes.result ≡ true) ↔ TakesSend (log_of before) c.args.from c.args.send e.entry = c.takes.ensures before has here in
    let taken = taken_iff (log_of before) c.args.from c.args.to c.args.send events (length events) (c.standing-event-items.ensures before has) (omega arith) in
    (λ _. taken.0 (i, e, c.loop-event-test.true, there, takes.0 c.if-takes.true), λ _. refl)

pub loop-event-preserved : goal.loop-event-preserved
loop-event-preserved c before has here among = elim (cases_lt among.0 c.loop-event.event-index) [
  | inl early ↦ c.loop-event.invariant before has here (among.0, among.1, early, among.3, among.4)
  | inr late ↦
      let events = c.standing-event-items.result.now in
      let i = c.loop-event.event-index in
      let e = c.event-item.result in
      let there : slice_get events i ≡ Some e = slice_get_read events (length events) i e refl c.loop-event-test.true c.event-item.is in
      let last : among.0 ≡ i = (let within = among.2 in omega (arith, late, within)) in
      let same : among.1 ≡ e = (let some : Some among.1 ≡ Some e = sym among.3 ∙ subst (λ (n : ℕ). slice_get events n ≡ Some e) (sym last) there in cc) in
      let takes : (c.takes.result ≡ true) ↔ TakesSend (log_of before) c.args.from c.args.send e.entry = c.takes.ensures before has here in
      false≢true (sym c.if-takes.false ∙ takes.1 (subst (λ (e : StandingEvent). TakesSend (log_of before) c.args.from c.args.send e.entry) same among.4))
]

pub returns : goal.returns
returns c before has here =
    let events = c.standing-event-items.result.now in
    let taken = taken_iff (log_of before) c.args.from c.args.to c.args.send events c.loop-event.event-index (c.standing-event-items.ensures before has) c.loop-event-test.false in
    (λ no'. absurd (false≢true no'), λ is. absurd (c.loop-event.invariant before has here (taken.1 is)))
