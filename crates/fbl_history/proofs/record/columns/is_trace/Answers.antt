use Rattle.std.proofs.lemmas.Slice.Eq.{slice_eq-Decides}
use Rattle.fbl_history.proofs.Recording.{same_if, same_mark, same_true}
use Rattle.fbl_history.proofs.record.columns.is_trace.Goals as goal

pub returns : goal.returns
returns c =
    let decides = slice_eq-Decides {E = same_mark} (λ a b. (same_true a b, same_if a b)) c.as_slice.result.now c.as_slice-2.result.now c.eq.result c.eq.ensures in
    rw (c.as_slice.ensures.value, c.as_slice-2.ensures.value, c.in_ok-standing.ensures, c.in_ok-made.ensures) at decides
