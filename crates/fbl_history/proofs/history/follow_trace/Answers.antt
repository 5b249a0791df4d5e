use Rattle.std.proofs.Common.{if◌then◌else◌, is_ok, OnOk, Result, Err}
use Rattle.fbl_history.proofs.Common.{◌≡◌, List, Ok, ◌++◌, drop, ap, sym, ◌∙◌, AllocError, Column, go_on}
use Rattle.fbl_history.proofs.history.follow_trace.Goals as goal

joined : (result : Result (Unit {0}) AllocError) (old more new all : List Column) → new ≡ (if is_ok result then old ++ more else old) → old ++ more ≡ all → OnOk result (new ≡ all)
joined (Ok x) old more new all is whole = is ∙ whole
joined (Err e) old more new all is whole = tt

pub returns : goal.returns
returns g c =
    let kept = c.undo_others-kept in
    let trace = c.in_ok-trace.trace.items in
    let made = c.in_ok-split_off.ensures.tail ∙ ap (drop kept.result) (sym c.as_slice.ensures.value) in
    joined c.append.result kept.new.columns.items c.in_ok-split_off.field-0.items _ _ c.append.ensures.items
    (ap (λ (xs : List Column). kept.new.columns.items ++ xs) made ∙ kept.ensures.undone ∙ ap (λ (xs : List Column). go_on c.args.columns.now.items xs) (c.as_slice.ensures.value ∙ c.in_ok-trace.ensures))
