use Rattle.fbl_records.proofs.Common.{◌∷◌, [], number_data, member_shape}
use Rattle.fbl_records.proofs.TokenLaws.{list_over, number_item}
use Rattle.fbl_input.specs.Shapes.{count_shape}
use Rattle.fbl_records.proofs.dump_tokens.next_receipt.Goals as goal

pub returns : goal.returns
returns c =
    let ssn = number_data c.in_ok-ssn.ssn ∷ [] in
    let from = number_data c.in_ok-from.from ∷ ssn in
    let rsn = number_data c.in_ok-rsn.rsn ∷ from in (
      number_data c.in_ok-to.to ∷ rsn,
      number_item 124 member_shape _ _ _ _ rsn c.in_ok-to.ensures (number_item 124 count_shape _ _ _ _ from c.in_ok-rsn.ensures
          (number_item 124 member_shape _ _ _ _ ssn c.in_ok-from.ensures (number_item 124 count_shape _ _ _ _ [] c.in_ok-ssn.ensures (list_over 124 _ _ c.in_ok-end_list.ensures)))),
      rw (c.in_ok-to.ensures.3, c.in_ok-rsn.ensures.3, c.in_ok-from.ensures.3, c.in_ok-ssn.ensures.3),
    )
