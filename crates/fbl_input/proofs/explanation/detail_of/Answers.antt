use Rattle.fbl_input.proofs.Common.{◌≡◌, refl, true, false, Some, None, json_of, Data, InputFault, RunFault, IfOk-weaker, view}
use Rattle.serde_json.specs.declared.error.Error.{Error as JsonError}
use Rattle.fbl_input.specs.declared.not_json.Stop.{Stop}
use Rattle.fbl_input.proofs.Lists.{json_read, json_refused}
use Rattle.fbl_input.specs.Explanations.{IsDetailOf, IsToldAs}
use Rattle.fbl_input.specs.declared.explanation.Detail.{Detail}
use Rattle.fbl_input.specs.declared.explanation.Detail.TheVariants as details
use Rattle.fbl_input.specs.declared.fault.RunFault.TheVariants as faults
use Rattle.fbl_input.proofs.explanation.detail_of.Goals as goal

-- that an input is no JSON is told of none that is a value
told : (e : RunFault) (fault : InputFault) (d : Data) (detail : Detail) → ¬ (e ≡ faults.TooLong) → json_of fault.input.items ≡ Some d
    → IsDetailOf fault.kind fault.input.items d e detail → IsToldAs e fault detail
told faults.TooLong fault d detail other is h = absurd (other refl)
told e fault d (details.NotJson error stop) other is h = absurd (none e h) where
  none : (e : RunFault) → IsDetailOf fault.kind fault.input.items d e (details.NotJson error stop) → ⊥
  none faults.NotObject h = h
  none (faults.BadField key) h = h
  none (faults.BadCommand place) h = h
  none faults.UnknownKey h = h
  none e h = h
told e fault d detail other is h = (d, is, h)

told_none : (e : RunFault) (fault : InputFault) (error : JsonError) (stop : Stop) → ¬ (e ≡ faults.TooLong) → json_of fault.input.items ≡ None → IsToldAs e fault (details.NotJson error stop)
told_none faults.TooLong fault error stop other none = absurd (other refl)
told_none e fault error stop other none = none

pub returns-in-Ok : goal.returns-in-Ok
returns-in-Ok c =
    let fault = c.args.fault.now in
    let text = c.as_slice-input.ensures.value in
    let is : json_of fault.input.items ≡ Some (view c.in-Ok.value) = json_read _ _ (rw text at c.in-Ok.ensures.ok.0) (rw text at c.in-Ok.ensures.ok.1) in
    IfOk-weaker c.detail_in.result _ _ (λ detail h. told fault.fault fault (view c.in-Ok.value) detail c.in_default.not-TooLong is h) c.detail_in.ensures

pub returns-in_ok-stop-in-Err-2 : goal.returns-in_ok-stop-in-Err-2
returns-in_ok-stop-in-Err-2 c =
    let fault = c.args.fault.now in
    let none : json_of fault.input.items ≡ None =
    json_refused _ (λ utf8. rw c.as_slice-input.ensures.value at (c.in-Err.ensures.err (λ m. let bad : false ≡ true = c.if-is_memory.ensures.1 m in cc) (rw c.as_slice-input.ensures.value utf8))) in
    told_none fault.fault fault _ _ c.in_default.not-TooLong none
