use Rattle.fbl_runs.proofs.Common.{At-seam, Some, [], ap, cond, length, max, slice_get, ◌==◌, ◌≡◌, ◌∙◌}
use Rattle.std.proofs.Common.{rules}
use Rattle.fbl_runs.specs.Clocks.{cut_of}
use Rattle.fbl_runs.specs.Precedence.{cut_in}
use Rattle.fbl_runs.proofs.ClockPasses.{arrival_within, shared}
use Rattle.fbl_runs.proofs.clocks.Clocks.arrive.Goals as goal
use Rattle.fbl_runs.proofs.clocks.Clocks.arrive.Goals.{In_ok-push}

pub returns-then-shares-clause-within : goal.returns-then-shares-clause-within
returns-then-shares-clause-within c =
    let r = c.requires in
    rw c.arrival.ensures (arrival_within c.args.self.now.causality r.0 c.args.links.now r.2 r.1 c.args.self.now r.3 c.args.predecessors.now.before r.4.0)

pub returns-then-shares-clause-clock : goal.returns-then-shares-clause-clock
returns-then-shares-clause-clock c entries p count are has below among =
    rw c.arrival.ensures (shared c.args.self.now.causality entries c.args.links.now are p c.args.self.now has c.args.predecessors.now c.args.column count (c.shares.ensures.0 c.if-shares.true) below among)

-- the clock is kept at the end
last : (c : In_ok-push) → slice_get c.push.new.self.items c.len-place.result ≡ Some c.joined-clock.result
last c =
    let old = c.args.self.now.kept.items in
    let tie : c.len-place.result ≡ length old = search rules in
    ap (λ xs. slice_get xs c.len-place.result) c.in_ok-push.ensures.items ∙ (rw tie (At-seam old c.joined-clock.result []))

pub returns-clause-clock : goal.returns-clause-clock
returns-clause-clock c entries p count are has below among = (
  cut_of c.joined-clock.result,
  c.joined-clock.ensures entries p are has below,
  λ q. ap (λ o. max (cut_in o q) (cond (q == c.args.column) count 0)) (last (goal.at.returns-clause-clock c).In_ok-push),
)
