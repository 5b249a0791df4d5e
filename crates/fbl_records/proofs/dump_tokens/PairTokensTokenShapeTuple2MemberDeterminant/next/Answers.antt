use Rattle.fbl_records.proofs.Common.{◌∷◌, [], arith, list_data, number_data, member_shape}
use Rattle.fbl_records.proofs.TokenLaws.{list_next, list_over, number_item}
use Rattle.fbl_input.specs.Shapes.{count_shape}
use Rattle.fbl_records.proofs.dump_tokens.PairTokensTokenShapeTuple2MemberDeterminant.next.Goals as goal

pub returns : goal.returns
returns c =
    let rsn = number_data c.in_ok-rsn.rsn ∷ [] in
    let to = number_data c.in_ok-to.to ∷ rsn in
    let ssn = number_data c.in_ok-ssn.ssn ∷ to in
    let from = number_data c.in_ok-from.from ∷ ssn in
    let all = number_data c.in_ok-holder.holder ∷ from in (
      list_data all,
      list_next 125 _ _ _ all (omega arith) c.in_ok-begin_list.ensures
          (number_item 124 member_shape _ _ _ _ from c.in_ok-holder.ensures (number_item 124 member_shape _ _ _ _ ssn c.in_ok-from.ensures (number_item 124 count_shape _ _ _ _ to c.in_ok-ssn.ensures
          (number_item 124 member_shape _ _ _ _ rsn c.in_ok-to.ensures (number_item 124 count_shape _ _ _ _ [] c.in_ok-rsn.ensures (list_over 124 _ _ c.in_ok-end_list.ensures)))))),
      rw (c.in_ok-holder.ensures.3, c.in_ok-from.ensures.3, c.in_ok-ssn.ensures.3, c.in_ok-to.ensures.3, c.in_ok-rsn.ensures.3),
    )
