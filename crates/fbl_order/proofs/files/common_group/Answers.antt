use Rattle.fbl_order.proofs.Common.{ℕ, ◌≡◌, ◌∙◌, List, Some, ap, refl, sym, arith, slice_get, slice_get_read, slice_get_within, take_all}
use Rattle.std.proofs.lemmas.List.Folds.{list_any_more}
use Rattle.std.specs.Cmp.{nat_cmp_total}
use Rattle.std.specs.FinSet as set
use Rattle.std.specs.Ordering.{nat_cmp}
use Rattle.fbl_trace.proofs.Common.{below_more}
use Rattle.fbl_order.specs.Files.{Agrees, AgreesAt, Differs}
use Rattle.fbl_order.specs.declared.files.RunGroup.{RunGroup}
use Rattle.fbl_order.specs.declared.files.FilesDiffer.{FilesDiffer}
use Rattle.fbl_order.specs.declared.files.FilesDiffer.TheVariants.{Members, F, Memory}
use Rattle.fbl_order.proofs.files.common_group.Goals as goal

agrees_at : {P : Type 0} (group_of : P → RunGroup) (parts : List P) (i : ℕ) (first part : P) → slice_get parts 0 ≡ Some first → slice_get parts i ≡ Some part
    → Agrees (group_of first) (group_of part) → AgreesAt group_of parts i
agrees_at group_of parts i first part first_at part_at agrees a b a_at b_at =
    let a_is : first ≡ a = cc in
    let b_is : part ≡ b = cc in
    rw (← a_is, ← b_is) agrees

disagrees : (i : ℕ) (a b : RunGroup) (fault : FilesDiffer) → Differs i a b fault → ¬ (Agrees a b)
disagrees i a b (Members part first other) differs agrees = differs.3 (differs.2 ∙ agrees.0 ∙ sym differs.1)
disagrees i a b (F part first other) differs agrees = differs.4 (differs.3 ∙ agrees.1 ∙ sym differs.2)
disagrees i a b Memory differs agrees = differs

pub returns-in-Some-clause-refused : goal.returns-in-Some-clause-refused
returns-in-Some-clause-refused g c =
    let of : g.row.P.Denot → RunGroup = g.P.Grouped.group_of in
    let first_at = slice_get_read _ _ 0 _ refl c.requires c.index-files-0.is in
    let at = slice_get_read _ _ c.loop-file.file _ refl c.loop-file-test.true c.index-files-file.is in
    let differs : Differs c.loop-file.file (of c.index-files-0.result) (of c.index-files-file.result) c.in-Some.fault = rw
    (← c.group-first.ensures, ← c.group-group.ensures) c.in-Some.ensures in (
      c.loop-file.file,
      (c.loop-file.invariant.agree, λ all. disagrees _ (of c.index-files-0.result) (of c.index-files-file.result) c.in-Some.fault differs (all _ _ first_at at)),
      (c.index-files-0.result, c.index-files-file.result, first_at, at, differs),
    )

pub loop-file-init : goal.loop-file-init
loop-file-init g c = record {
  agree = λ k below. absurd (omega (arith, below));
  strike = λ q. ap (λ s. set.contains s q) c.empty-strike.ensures ∙ set.contains-empty nat_cmp q;
}

pub loop-file-preserved : goal.loop-file-preserved
loop-file-preserved g c =
    let of : g.row.P.Denot → RunGroup = g.P.Grouped.group_of in
    let first_at = slice_get_read _ _ 0 _ refl c.requires c.index-files-0.is in
    let at = slice_get_read _ _ c.loop-file.file _ refl c.loop-file-test.true c.index-files-file.is in
    let agrees : Agrees (of c.index-files-0.result) (of c.index-files-file.result) = rw (← c.group-first.ensures, ← c.group-group.ensures) c.in_default.ensures in
    record {
      agree = below_more _ _ c.loop-file.invariant.agree (agrees_at of c.args.files.now c.loop-file.file _ _ first_at at agrees);
      strike = λ q. (
          ap (λ s. set.contains s q) c.union-strike.ensures
          ∙ set.contains-union nat_cmp_total c.loop-file.strike c.group-group.result.strike q
          ∙ (rw (c.loop-file.invariant.strike q, c.group-group.ensures, c.index-files-file.is) (sym (list_any_more (λ file. set.contains (of file).strike q) c.args.files.now
          c.loop-file.file c.index-files-file.result c.loop-file-test.true)))
          );
    }

pub returns-clause-union : goal.returns-clause-union
returns-clause-union g c =
    let files = c.args.files.now in
    let first_at = slice_get_read _ _ 0 _ refl c.requires c.index-files-0.is in
    record {
      agree = λ i file at. rw c.group-first.ensures (c.loop-file.invariant.agree i (omega (arith, c.loop-file-test.false, slice_get_within files i file at))
          c.index-files-0.result file first_at at);
      strike = λ q. rw (take_all c.loop-file.file files c.loop-file-test.false) at (c.loop-file.invariant.strike q);
    }
