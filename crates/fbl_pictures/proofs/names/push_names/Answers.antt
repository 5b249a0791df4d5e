use Rattle.std.proofs.Common.{ℕ, ◌+◌, ◌-◌, ◌*◌, ◌/◌, ◌≡◌, arith, append_assoc}
use Rattle.std.proofs.lemmas.List.FromFn.{map-range_with_len_more}
use Rattle.fbl_history.specs.declared.shape.Shape.{Shape}
use Rattle.fbl_history.specs.declared.shape.Shape.TheVariants.{Name}
use Rattle.fbl_pictures.proofs.names.push_names.Goals as goal

pub loop-group-preserved : goal.loop-group-preserved
loop-group-preserved c =
    let name : ℕ → Shape = λ group. Name (24 * (group + 1)) c.args.member in
    let k = c.loop-group.group in
    let here : 0 + k ≡ k = omega arith in
    rw (c.in_ok-push-2.ensures.items, c.loop-group.invariant, map-range_with_len_more name 0 k k here, append_assoc)

pub returns : goal.returns
returns c = (let all : c.loop-group.group ≡ (c.args.columns - 9) / 24 = omega arith in rw (c.loop-group.invariant, c.in_ok-push.ensures.items, append_assoc, all))
