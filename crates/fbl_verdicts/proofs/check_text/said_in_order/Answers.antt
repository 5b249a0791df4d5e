use Rattle.std.proofs.Common.{rules}
use Rattle.std.proofs.lemmas.List.Sorted.{answers_always}
use Rattle.fbl_verdicts.specs.Lines.{said_place}
use Rattle.fbl_verdicts.proofs.check_text.said_in_order.Goals as goal

pub returns : goal.returns
returns c =
    let all = rw (c.as_slice-unsafe_receipts.ensures.value, c.as_slice-undone_receipts.ensures.value) at c.in_ok-said.ensures in
    let stable = c.sort_by_key.ensures.stable said_place (answers_always _ _ _ (λ f a r g h. search rules)) in
    (c.in_ok-sort_by_key.ensures.sorted said_place (answers_always _ _ _ (λ f a r g h. search rules)), rw (← all) stable)
