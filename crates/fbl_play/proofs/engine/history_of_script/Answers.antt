use Rattle.fbl_play.proofs.Common.{ap, sym, ◌≡◌, ◌∙◌, None, Some, next_of}
use Rattle.fbl_play.proofs.Moments.{history_ends, stops_short}
use Rattle.fbl_play.specs.Transcripts.{history}
use Rattle.fbl_play.proofs.engine.history_of_script.Goals as goal

pub unreachable-requires : goal.unreachable-requires
unreachable-requires g c =
    let s = c.args.script in
    let last = history_ends (next_of s.behaviour) c.args.workers s.config s.commands.items _ c.in-Ok.ensures.0 in
    let none : history None ≡ history (Some last.0) = ap history (sym c.in-None.is ∙ c.take.ensures.value) ∙ last.1 in
    absurd cc

pub returns-in-Some : goal.returns-in-Some
returns-in-Some g c = rw (sym c.take.ensures.value ∙ c.in-Some.is) at c.in-Ok.ensures

pub returns : goal.returns
returns g c =
    let s = c.args.script in
    stops_short g.O.Observer.observes_before g.O.Observer.observes_after (next_of s.behaviour) c.args.workers s.config s.commands.items _ c.args.observer.now _ _ _ c.in-Err.ensures
