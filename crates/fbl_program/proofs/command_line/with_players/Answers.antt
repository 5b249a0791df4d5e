use Rattle.fbl_program.proofs.Common.{◌≡◌, ◌∙◌, IfOk-weaker, ap, codes}
use Rattle.clap.specs.Words.{app_of}
use Rattle.fbl_program.specs.CommandLines.{play_app, top_app, with_player, with_players}
use Rattle.fbl_program.proofs.Apps.{with_sub}
use Rattle.fbl_program.proofs.command_line.with_players.Goals as goal

pub returns : goal.returns
returns c =
    let play = with_sub c.top.result c.in_ok-play.field-0 c.in_ok-command.command top_app play_app c.in_ok-command.ensures c.in_ok-play.ensures.no_globals c.top.ensures c.in_ok-play.ensures.app in
    let show = c.in_ok-command-2.ensures ∙ ap (with_player (codes "show")) play in
    IfOk-weaker c.with_player-2.result (λ r. app_of r ≡ with_player (codes "record") (app_of c.in_ok-command-2.command)) (λ r. app_of r ≡ with_players)
    (λ r e. e ∙ ap (with_player (codes "record")) show) c.with_player-2.ensures
