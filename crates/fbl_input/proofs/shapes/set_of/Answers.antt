use Rattle.fbl_input.proofs.Common.{[], ◌∷◌, ◌++◌, sym, ap, ◌∙◌, nat_cmp_total, view, member_shape}
use Rattle.std.specs.FinSet as set
use Rattle.fbl_input.proofs.Firsts.{read_more}
use Rattle.fbl_input.proofs.shapes.set_of.Goals as goal

pub loop-value-preserved : goal.loop-value-preserved
loop-value-preserved c =
    let front = c.loop-value.invariant.0 in
    let member = c.in_ok-member.member in (
      front ++ member ∷ [],
      c.with-set.ensures ∙ ap (λ s. set.insert s member) c.loop-value.invariant.1 ∙ sym (set.from_list_push nat_cmp_total set.nat_cmp-IsAntisymmetric front member),
      read_more view member_shape c.args.list.now c.loop-value.value-index c.value-item.result member front _ c.loop-value-test.true c.value-item.is c.in_ok-member.ensures c.loop-value.invariant.2,
    )
