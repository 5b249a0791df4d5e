use Rattle.fbl_input.proofs.Common.{◌≡◌, List, sym, ap, subst, view, Option, Some, None, option_and_then, Result, Ok, Err, IsErrAnd, Data, get, Key, RunFault}
use Rattle.fbl_input.proofs.Common.{Gives, Fails, all_shaped, as_list, field, list_of, name_of, or_fault}
use Rattle.fbl_input.specs.declared.fault.RunFault.TheVariants as faults
use Rattle.fbl_input.proofs.shapes.values_field.Goals as goal

-- what is no list is no list of a shape
fails_list : {A : Type 0} (key : Key) (shape : Data → Option A) (d : Data) (e : RunFault) → Fails e (field key as_list d) → Fails e (field key (list_of shape) d)
fails_list {A} key shape d e h = by_found (get (name_of key) d) e h where
  by_list : (o : Option (List Data)) (e : RunFault) → Fails e (or_fault (faults.BadField key) o) → Fails e (or_fault (faults.BadField key) (option_and_then (all_shaped shape) o))
  by_list None faults.Memory h = tt
  by_list None e h = (let same : faults.BadField key ≡ e = cc in ap Err same)
  by_list (Some items) faults.Memory h = tt
  by_list (Some items) e h = absurd cc

  by_found : (o : Option Data) (e : RunFault) → Fails e (or_fault (faults.BadField key) (option_and_then as_list o)) → Fails e (or_fault (faults.BadField key) (option_and_then (list_of shape) o))
  by_found None e h = by_list None e h
  by_found (Some v) e h = by_list (as_list v) e h

gives_fault : {X Y : Type 0} (seen : X → Y) (r : Result X RunFault) (x : RunFault) (asked : Result Y RunFault) → IsErrAnd r (λ e. e ≡ x) → Fails x asked → Gives seen r asked
gives_fault seen (Ok a) x asked is h = absurd is
gives_fault seen (Err e) x asked is h = let P : RunFault → Type 0 = λ f. Fails f asked in subst P (sym is) h

pub returns-in_err-list_field : goal.returns-in_err-list_field
returns-in_err-list_field g c =
    gives_fault _ c.from_residual.result c.in_err-list_field.field-0.0 _ c.from_residual.ensures.1 (fails_list c.args.key g.S.JsonShape.shape (view c.args.value.now) _ c.in_err-list_field.ensures)
