use Rattle.fbl_program.proofs.Common.{◌≡◌, ◌∙◌, IfOk-weaker, Some, ap, codes, false, refl}
use Rattle.clap.specs.Words.{AddsArg, app_of, rule_of}
use Rattle.clap.specs.declared.builder.arg.Arg.{Arg}
use Rattle.clap.specs.declared.builder.command.Command.TheViews.{out-Command as fields_of}
use Rattle.fbl_program.specs.CommandLines.{flag_rule, output_rule, with_shared}
use Rattle.fbl_program.proofs.Apps.{none_global, with_arg}
use Rattle.fbl_program.proofs.command_line.with_shared_args.Goals as goal

pub returns-clause-app : goal.returns-clause-app
returns-clause-app c =
    let local : c.short.result.global ≡ false = ap (λ (a : Arg). a.global) c.short.ensures ∙ c.option.ensures.local in
    let rule : rule_of c.short.result ≡ output_rule = ap rule_of c.short.ensures ∙ (λ i. record (c.option.ensures.rule i) { short = Some 111 }) in
    let read = with_arg c.args.sub c.in_ok-sub.sub c.args.read (rule_of c.args.read) (app_of c.args.sub) c.in_ok-sub.ensures c.requires.local refl refl in
    let output = with_arg c.in_ok-sub.sub c.in_ok-sub-2.sub c.short.result output_rule _ c.in_ok-sub-2.ensures local rule read in
    IfOk-weaker c.arg-3.result (AddsArg c.in_ok-sub-2.sub c.flag.result) (λ r. app_of r ≡ with_shared (rule_of c.args.read) (app_of c.args.sub))
    (λ r h. with_arg c.in_ok-sub-2.sub r c.flag.result (flag_rule (codes "explain")) _ h c.flag.ensures.local c.flag.ensures.rule output) c.arg-3.ensures

pub returns-clause-no_globals : goal.returns-clause-no_globals
returns-clause-no_globals c =
    let local : c.short.result.global ≡ false = ap (λ (a : Arg). a.global) c.short.ensures ∙ c.option.ensures.local in
    let read = none_global c.args.sub c.in_ok-sub.sub c.args.read c.in_ok-sub.ensures c.requires.globals c.requires.local in
    let output = none_global c.in_ok-sub.sub c.in_ok-sub-2.sub c.short.result c.in_ok-sub-2.ensures read local in
    IfOk-weaker c.arg-3.result (AddsArg c.in_ok-sub-2.sub c.flag.result) (λ r. (fields_of r).has_globals ≡ false)
    (λ r h. none_global c.in_ok-sub-2.sub r c.flag.result h output c.flag.ensures.local) c.arg-3.ensures
