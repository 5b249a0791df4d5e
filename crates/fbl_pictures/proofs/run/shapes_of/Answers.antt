use Rattle.fbl_pictures.proofs.Common.{ℕ, ◌≡◌, ◌++◌, ◌∙◌, ap, option_to_list, subst, ArePathsDrawn, drawn, entry_arrow, entry_stub, members_drawn, moment_drawn, range_with_len}
use Rattle.fbl_runs.specs.Logs.{RunParts}
use Rattle.fbl_pictures.specs.RunShapes.{lines_and_arrows, shown_entries}
use Rattle.fbl_pictures.proofs.run.shapes_of.Goals as goal

pub returns : goal.returns
returns c =
    let run = c.args.pasts.now in
    let lines = c.args.lines.now in
    let es = c.shown_entries-entries.result.now in
    let n = c.members-members.result in
    let members : n ≡ run.members = c.members-members.ensures ∙ ap (λ (r : RunParts). r.members) c.run.ensures.run in
    let entries : es ≡ shown_entries run = c.shown_entries-entries.ensures in
    let led = c.in_ok-push_paths.ensures in
    let w = c.args.window.now in
    let numbered = c.in_ok-push_any.ensures ∙ (λ i. c.new-shapes.ensures.items i ++ option_to_list (c.numbers.ensures i)) in
    let standing = c.args.standing.now in
    let sources = c.in_ok-sources.sources.items in
    let at_first = c.in_ok-push_members.ensures ∙ (λ i. numbered i ++ members_drawn n w es lines) in
    let with_arrows = c.in_ok-push_arrows.ensures ∙ (λ i. at_first i ++ drawn (entry_arrow w es (c.as_slice.ensures.value i) standing lines.moment) 0 es) in
    let with_stubs = c.in_ok-push_stubs.ensures ∙ (λ i. with_arrows i ++ drawn (entry_stub w (c.as_slice-2.ensures.value i) standing lines.moment) 0 es) in
    let all = led.2 ∙ ap (λ s. s ++ led.0) (c.in_ok-push_moment.ensures ∙ ap (λ s. s ++ moment_drawn n w lines.moment) with_stubs) in
    let same : lines_and_arrows n w es sources standing lines ++ led.0 ≡ lines_and_arrows run.members w (shown_entries run) sources standing lines ++ led.0 =
    λ i. lines_and_arrows (members i) w (entries i) sources standing lines ++ led.0 in
    (sources, c.in_ok-sources.ensures, led.0, subst (λ (m : ℕ). ArePathsDrawn run w c.args.finding.now (range_with_len 0 m) led.0) members led.1, all ∙ same)
