use Rattle.fbl_history.proofs.Common.{ap, refl, slice_index, IfOk-weaker, Recovery, ◌++◌, ◌∙◌, ◌∷◌, []}
use Rattle.fbl_history.proofs.Turning.{same-replays}
use Rattle.fbl_history.proofs.history.History.recover.Goals as goal

pub returns : goal.returns
returns g c =
    let now = c.args.group.now in
    let counts = c.as_slice.result.now in
    let replays = c.in_ok-replays.ensures ∙ same-replays now now (slice_index counts) c.args.members refl c.requires
    (λ m below. ap (λ xs. slice_index xs m) c.as_slice.ensures.value ∙ c.received_each-received.ensures.each m below) in
    IfOk-weaker c.with.result _ _ (λ history is.
    (Recovery c.in_ok-replays.replays, replays, is ∙ ap (λ xs. xs ++ Recovery c.in_ok-replays.replays ∷ []) c.in_ok-go_on.ensures)) c.with.ensures
