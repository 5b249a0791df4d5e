use Rattle.fbl_group.proofs.Delivering.{◌≡◌, length, ap, arith, sym, ◌∙◌, false≢true, is_full, is_current, is_fresh, is_planned}
use Rattle.fbl_group.proofs.Common.{trace_fits}
use Rattle.fbl_group.proofs.group.Group.plan_commit.Goals as goal

pub returns-then-size-ticket-clause-refused : goal.returns-then-size-ticket-clause-refused
returns-then-size-ticket-clause-refused g c = (rw (c.count.ensures, c.down.ensures.down) at c.if-count-ne0.false, λ fresh. c.if-size-ticket.true (c.size.ensures.value ∙ fresh.0))

pub returns-in_default-clause-refused : goal.returns-in_default-clause-refused
returns-in_default-clause-refused g c = (rw (c.count.ensures, c.down.ensures.down) at c.if-count-ne0.false, λ fresh. (let both = sym c.in_default.ensures.none ∙ fresh.1.1 in cc))

pub returns-then-not-is_current-clause-refused : goal.returns-then-not-is_current-clause-refused
returns-then-not-is_current-clause-refused g c = (
  grind arith,
  λ fresh.
      let told = c.is_current.ensures.1
      (is_current g.B.Behaviour.next c.args.self.now c.args.done.now.ticket (omega arith) c.in-Some.ensures.some c.record-member.ensures.value fresh) in
      false≢true (sym c.if-not-is_current.true ∙ told),
)

pub returns-then-is_full-clause-refused : goal.returns-then-is_full-clause-refused
returns-then-is_full-clause-refused g c =
    let told = c.if-not-is_current.false in
    let asked : c.is_full.result ≡ is_full c.args.self.now (length c.args.done.now.outcome.sends.items) = grind arith in (
      grind arith,
      is_fresh g.B.Behaviour.next c.args.self.now c.args.done.now.ticket (omega arith) c.in-Some.ensures.some c.record-member.ensures.value (c.is_current.ensures.0 told),
      rw (← c.args.done.now.stepped) (sym asked ∙ c.if-is_full.true),
    )

pub returns-clause-planned : goal.returns-clause-planned
returns-clause-planned g c =
    let current = c.is_current.ensures.0 c.if-not-is_current.false in
    let asked : c.is_full.result ≡ is_full c.args.self.now (length c.args.done.now.outcome.sends.items) = grind arith in (
      record {
        nobody_down = grind arith;
        fresh = is_fresh g.B.Behaviour.next c.args.self.now c.args.done.now.ticket (omega arith) c.in-Some.ensures.some c.record-member.ensures.value current;
        room = rw (← c.args.done.now.stepped) (sym asked ∙ c.if-is_full.false);
      },
      is_planned g.B.Behaviour.next c.args.self.now c.args.done.now.ticket (omega arith) c.in-Some.ensures.some c.record-member.ensures.value (grind arith) c.args.done.now.stepped
          c.record-member.ensures.sound current (sym asked ∙ c.if-is_full.false),
    )

pub front-requires : goal.front-requires
front-requires g c = (let ends = c.args.done.now.ticket.ends in record { from = omega (arith, ends, c.size.ensures.value, c.if-size-ticket.false); to = omega (arith, ends, c.size.ensures.value, c.if-size-ticket.false) })

pub returns-then-count-ne0-clause-refused : goal.returns-then-count-ne0-clause-refused
returns-then-count-ne0-clause-refused g c = rw (c.count.ensures, c.down.ensures.down) at c.if-count-ne0.true

pub record-member-requires : goal.record-member-requires
record-member-requires g c = omega (arith, c.args.done.now.ticket.ends, c.size.ensures.value, c.if-size-ticket.false)

pub is_full-requires-clause-len : goal.is_full-requires-clause-len
is_full-requires-clause-len g c = omega (arith, trace_fits g.B.Behaviour.next c.args.self.now c.trace.ensures.sound, ap length c.trace.ensures.trace)
