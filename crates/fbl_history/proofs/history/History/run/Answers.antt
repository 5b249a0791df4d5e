use Rattle.fbl_history.proofs.Common.{ap, arith, slice_get-get_or, subst, sym, take, take_all, take_more, IsAfterTurns, Some, ◌∙◌}
use Rattle.fbl_history.proofs.Turning.{after_more, crash_led, history_led, sends_led}
use Rattle.fbl_history.proofs.history.History.run.Goals as goal
use Rattle.fbl_history.proofs.history.History.run.Goals.{After-loop-turn}
use Rattle.fbl_history.proofs.history.History.run.Given.{Over}

pub add_turn-requires : goal.add_turn-requires
add_turn-requires g c =
    let turns = c.args.turns.now in
    let t = c.turn-item.result in
    let here = slice_get-get_or turns c.loop-turn.turn-index t c.loop-turn-test.true ∙ ap (λ x. Some x) (sym c.turn-item.is) in
    λ crash is. crash_led g.B.Behaviour.next c.args.group.now turns c.args.self c.requires c.loop-turn.turn-index t crash here is

pub loop-turn-preserved : goal.loop-turn-preserved
loop-turn-preserved g c =
    let turns = c.args.turns.now in
    let t = c.turn-item.result in
    rw (take_more turns c.loop-turn.turn-index t c.loop-turn-test.true, ← c.turn-item.is)
    (after_more g.B.Behaviour.next c.args.group.now (take c.loop-turn.turn-index turns) t c.self.inside.columns.items c.loop-turn.columns.items _ c.loop-turn.invariant c.in_ok-add_turn.ensures)

-- at the end these are the columns after all turns
all : (g : Over) (c : After-loop-turn g) → IsAfterTurns g.B.Behaviour.next c.args.group.now c.args.turns.now c.args.self c.loop-turn.columns.items
all g c =
    let turns = c.args.turns.now in
    let next = g.B.Behaviour.next in
    let group = c.args.group.now in
    let columns = c.loop-turn.columns.items in
    subst (λ ts. IsAfterTurns next group ts c.args.self columns) (take_all c.loop-turn.turn-index turns (omega (arith, c.loop-turn-test.false)))
    (subst (λ xs. IsAfterTurns next group (take c.loop-turn.turn-index turns) xs columns) c.self.view_is c.loop-turn.invariant)

pub invariant_of-result : goal.invariant_of-result
invariant_of-result g c =
    sends_led g.B.Behaviour.next c.args.group.now c.args.turns.now c.args.self c.loop-turn.columns.items g.met.B.Behaviour.laws.sends c.requires (all g c) (rw c.self.view_is at c.self.invariant)

pub returns-clause-history : goal.returns-clause-history
returns-clause-history g c =
    history_led g.B.Behaviour.next c.args.group.now c.args.turns.now c.args.self c.loop-turn.columns.items g.met.B.Behaviour.laws.sends c.requires (all g c)
