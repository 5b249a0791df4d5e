-- What arguments and subcommands make of a command.
use Rattle.fbl_program.proofs.Common.{◌≡◌, ◌∙◌, ◌||◌, false}
use Rattle.clap.specs.Words.{AddsArg, AddsSubcommand, App, Rule, app_of, rule_of, with_rule, with_subcommand}
use Rattle.clap.specs.declared.builder.arg.Arg.{Arg}
use Rattle.clap.specs.declared.builder.command.Command.{Command}
use Rattle.clap.specs.declared.builder.command.Command.TheViews.{out-Command as fields_of}

-- a command with one more argument, which has this rule
pub with_arg : (old new : Command) (arg : Arg) (rule : Rule) (app : App) → AddsArg old arg new → arg.global ≡ false → rule_of arg ≡ rule → app_of old ≡ app → app_of new ≡ with_rule app rule
with_arg old new arg rule app h local ruled is = h.shape local ∙ (λ i. with_rule (is i) (ruled i))

-- it has no global argument, if it had none
pub none_global : (old new : Command) (arg : Arg) → AddsArg old arg new → (fields_of old).has_globals ≡ false → arg.global ≡ false → (fields_of new).has_globals ≡ false
none_global old new arg h none local = h.globals ∙ (λ i. none i || local i)

-- a command with one more subcommand
pub with_sub : (old sub new : Command) (app below : App) → AddsSubcommand old sub new → (fields_of sub).has_globals ≡ false → app_of old ≡ app → app_of sub ≡ below → app_of new ≡ with_subcommand app below.top
with_sub old sub new app below h none is beneath = h.shape none ∙ (λ i. with_subcommand (is i) (beneath i).top)
