use Rattle.fbl_scripts.proofs.Common.{Breach, ◌≡◌, inr, refl, Ok, Some, ℕ, List, Outline, IsNoScript, outline_of_input}
use Rattle.std.specs.Prelude.{Vec}
use Rattle.std.specs.declared.alloc.Global.{Global}
use Rattle.fbl_trace.specs.Breaches.{IsConfigBreach}
use Rattle.fbl_trace.specs.Configs.{RefusesConfig}
use Rattle.fbl_trace.specs.Steps.{has_few_hops}
use Rattle.fbl_trace.specs.declared.config.ConfigRefusal.{ConfigRefusal}
use Rattle.fbl_trace.specs.declared.config.ConfigRefusal.TheVariants.{Memory}
use Rattle.fbl_input.specs.Faults.{config_fault}
use Rattle.fbl_input.specs.declared.input_kind.InputKind.TheVariants.{Script}
use Rattle.fbl_runs.specs.declared.fault.LogBreach.TheVariants.{Trace}
use Rattle.fbl_scripts.proofs.script_reader.script_of.Goals as goal

-- a configuration's refusal
no_group : (input : List ℕ) (s : Outline) (e : ConfigRefusal) (breach : Breach) (bytes : Vec ℕ Global) → outline_of_input input ≡ Ok s → bytes.items ≡ input → RefusesConfig has_few_hops s.config e
    → IsConfigBreach s.config e breach → IsNoScript input (record { kind = Script; fault = config_fault e; breach = Some (Trace breach); input = bytes })
no_group input s Memory breach bytes is same h why = (refl, record { first = tt; breach = λ a i. tt; bytes = tt })
no_group input s e breach bytes is same h why = (refl, record { first = inr (s, is, h); breach = λ a i. (let other : a ≡ s = cc in rw other why); bytes = same })

pub returns-in-Err-clause-fault : goal.returns-in-Err-clause-fault
returns-in-Err-clause-fault c = λ bytes of.
    let starts = c.as_slice-starts.ensures.value in
    rw c.from.ensures (no_group bytes _ c.in-Err.refusal c.breach.result c.args.input of.0 of.1 (rw starts at c.in-Err.ensures.refused) (rw starts at c.breach.ensures))
