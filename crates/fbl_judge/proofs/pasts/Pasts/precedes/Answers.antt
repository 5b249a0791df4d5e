use Rattle.fbl_judge.proofs.Common.{Causality, Dependence, HappenedBefore, Entry, List, Option, ap, false, list_any, log_of, subst, sym, true, Precedes, ◌≡◌, ◌∙◌, ◌↔◌}
use Rattle.fbl_runs.specs.declared.clocks.Clocks.{Clocks}
use Rattle.fbl_runs.specs.Clocks.{StandsAt}
use Rattle.fbl_runs.specs.Logs.{RunParts}
use Rattle.fbl_runs.specs.Precedence.{AreClocks}
use Rattle.fbl_judge.specs.Pasts.{AreDependences, is_told_or_restart}
use Rattle.fbl_judge.proofs.Untold.{same_paths}
use Rattle.fbl_judge.proofs.pasts.Pasts.precedes.Goals as goal

pub returns-in-Some : goal.returns-in-Some
returns-in-Some c i j at_i at_j =
    let same : c.self.inside.index ≡ c.args.self.now.entries = c.self.invariant.index ∙ ap (λ (run : RunParts). run.entries) c.self.view_is in
    let kept = subst (λ (o : Option Clocks). AreDependences c.self.inside.run.now.entries o) c.in-Some.is c.self.invariant.depends in
    let clocks = subst (λ (es : List Entry). AreClocks Dependence es c.in-Some.depends) (sym c.self.invariant.index) kept in
    let iff = c.precedes-in-Some.ensures Dependence i j clocks (subst (λ (es : List Entry). StandsAt es c.args.first i) (sym same) at_i) (subst (λ (es : List Entry). StandsAt es c.args.second j) (sym same) at_j) in
    subst (λ (k : Causality). (c.precedes-in-Some.result ≡ true) ↔ Precedes k (log_of c.args.self.now.entries) i j) (sym c.in-Dependence.is)
    (subst (λ (es : List Entry). (c.precedes-in-Some.result ≡ true) ↔ Precedes Dependence (log_of es) i j) same iff)

pub returns-in-None : goal.returns-in-None
returns-in-None c i j at_i at_j =
    let same : c.self.inside.index ≡ c.args.self.now.entries = c.self.invariant.index ∙ ap (λ (run : RunParts). run.entries) c.self.view_is in
    let kept = subst (λ (o : Option Clocks). AreDependences c.self.inside.run.now.entries o) c.in-None.is c.self.invariant.depends in
    let none = subst (λ (run : RunParts). list_any is_told_or_restart run.entries ≡ false) c.self.view_is kept in
    let clocks = subst (λ (es : List Entry). AreClocks HappenedBefore es c.self.inside.before) (sym c.self.invariant.index) c.self.invariant.before in
    let iff = c.precedes-in-None.ensures HappenedBefore i j clocks (subst (λ (es : List Entry). StandsAt es c.args.first i) (sym same) at_i) (subst (λ (es : List Entry). StandsAt es c.args.second j) (sym same) at_j) in
    let iff' = subst (λ (es : List Entry). (c.precedes-in-None.result ≡ true) ↔ Precedes HappenedBefore (log_of es) i j) same iff in
    let paths = same_paths c.args.self.now.entries none i j in
    subst (λ (k : Causality). (c.precedes-in-None.result ≡ true) ↔ Precedes k (log_of c.args.self.now.entries) i j) (sym c.in-Dependence.is)
    (λ h. paths.0 (iff'.0 h), λ p. iff'.1 (paths.1 p))
