use Rattle.fbl_scripts.proofs.Common.{◌≡◌, ◌++◌, ◌∙◌, ap, arith, member_line, of_members}
use Rattle.fbl_trace.specs.Configs.{Settings}
use Rattle.fbl_scripts.specs.Texts.{total_lines}
use Rattle.fbl_scripts.proofs.answer.report_text.Goals as goal

pub returns : goal.returns
returns g c =
    let totals = c.in_ok-totals.totals in
    let r = c.args.group.now in
    let all : c.loop-number.number ≡ r.config.members =
    omega (arith, c.loop-number-test.false, c.loop-number.auto.number-end, c.members-number-end.ensures.value, ap (λ (s : Settings _). s.members) c.config.ensures) in
    (totals, c.in_ok-totals.ensures, c.in_ok-push_totals.ensures ∙ ap (λ xs. xs ++ total_lines totals) (c.loop-number.invariant ∙ ap (of_members (member_line r)) all))
