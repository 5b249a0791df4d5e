use Rattle.fbl_judge.proofs.Common.{arith, ◌≡◌, ◌≤◌, ◌<◌, Option, Some, None, ◌∷◌, [], ◌∙◌, ap, sym, subst, ℕ, false≢true, true, append-nil, append_assoc, refl, cut_of, log_of, DependsAt, RunParts}
use Rattle.std.specs.FinSet as set
use Rattle.std.proofs.Common.{Global, IfNone, IfSome, Vec}
use Rattle.fbl_judge.specs.Paths.{DependsIn, IsPathTo}
use Rattle.fbl_judge.proofs.PathLaws.{of_group, paths_more, paths_skip}
use Rattle.fbl_judge.specs.declared.paths.OrphanPath.{OrphanPath}
use Rattle.fbl_judge.proofs.paths.paths_to.Goals as goal
use Rattle.fbl_judge.proofs.paths.paths_to.Goals.{then-has+in_ok-places+in-Some+in_ok-push, then-has+in_ok-places+in_default, else-has}

pub loop-number-init : goal.loop-number-init
loop-number-init c i rest stands are = rw c.new-paths.ensures.items are

-- what is nothing says that nothing depends
none_of : {N : Type 0} (o : Option (Vec ℕ Global)) → ((v : Vec ℕ Global) → ¬ (o ≡ Some v)) → IfNone o N → N
none_of None no' none = none
none_of (Some v) no' none = absurd (no' v refl)

pub loop-number-preserved : goal.loop-number-preserved
loop-number-preserved c i rest stands are =
    let run = c.args.pasts.now in
    let cut = cut_of c.args.moment.now in
    let n = c.loop-number.number in
    let P : ℕ → Type 0 = DependsIn run i cut c.args.members in
    let own : c.at-orphan.result ≡ n = c.at-orphan.ensures in
    elim c.if-has.branch [
      | then-has+in_ok-places+in-Some+in_ok-push w ↦
          let leads = subst (λ (o : Option (Vec ℕ Global)). IfSome o (λ path. IsPathTo run i cut c.at-orphan.result path.items)) w.in-Some.is (w.in_ok-places.ensures.path i stands) in
          let has : set.contains c.args.members n ≡ true = ap (set.contains c.args.members) (sym own) ∙ sym c.has.ensures ∙ w.if-has.true in
          let leads_on = subst (λ (m : ℕ). IsPathTo run i cut m w.in-Some.places.items) own leads in
          let end = leads_on.3 in
          let depends : DependsAt (log_of run.entries) cut i n = subst (DependsAt (log_of run.entries) cut i) end.2 (end.0.number, end.3.depends, end.3.stands) in
          let path : OrphanPath = record { orphan = c.at-orphan.result; places = w.in-Some.places } in
          rw (w.paths-is, w.in_ok-push.ensures.items, append_assoc) (c.loop-number.invariant i (path ∷ rest) stands (paths_more run i cut P n path rest own (has, depends) leads_on are))
      | then-has+in_ok-places+in_default w ↦ rw w.paths-is (c.loop-number.invariant i rest stands (paths_skip run i cut P n rest
          (λ depends. none_of w.in_ok-places.field-0 w.in_default.not-Some (w.in_ok-places.ensures.to_all i stands) (subst (DependsAt (log_of run.entries) cut i) (sym own) depends.1)) are))
      | else-has w ↦ rw w.paths-is (c.loop-number.invariant i rest stands (paths_skip run i cut P n rest
          (λ depends. false≢true (sym w.if-has.false ∙ c.has.ensures ∙ ap (set.contains c.args.members) own ∙ depends.0)) are))
    ]

pub returns : goal.returns
returns c i stands =
    let run = c.args.pasts.now in
    let rules = c.run.ensures.rules in
    let none : (q : ℕ) → c.loop-number.number ≤ q → ¬ (DependsIn run i (cut_of c.args.moment.now) c.args.members q) = λ q past depends. (
    let below : q < run.members = of_group run.members run.entries rules.lawful i (cut_of c.args.moment.now) q depends.1 in
    let end = c.loop-number-test.false in
    let count : c.members-number-end.result ≡ run.members = c.members-number-end.ensures ∙ ap (λ (run : RunParts). run.members) c.run.ensures.run in
    omega (arith, below, end, count, past)) in
    let all = c.loop-number.invariant i [] stands none in
    (rw append-nil at all)
