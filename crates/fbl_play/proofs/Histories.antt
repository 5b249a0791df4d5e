-- A history of a run stays one of its group.
use Rattle.fbl_trace.specs.declared.trace.Note.{Note}
use Rattle.fbl_play.proofs.Common.{◌≡◌, ℕ, List, [], ◌∷◌, ◌++◌, inl, inr, None, Ok, Err, Option, Result, Some, sym, subst, ap, ◌∙◌, ∥∥₁_map, Answer, Column, Command, GroupRecord, IsSound, Members, Next, Settings, Strike}
use Rattle.fbl_play.proofs.Common.{DrainRefusal, IsAdded, IsBegun, IsGroupStart, IsHistoryOf, IsLedOn, IsLedTo, IsOfGroup, RecordedDrain, RecordedDrains, turns_each, SendsWell, Step, Transcript, begins_at_start, follows_checkpoint}
use Rattle.fbl_play.proofs.Common.{follows_delivery, follows_recovery, follows_strike, history_led, turns_lead}
use Rattle.fbl_group.specs.declared.refusals.CheckpointRefusal.{CheckpointRefusal}
use Rattle.fbl_group.specs.declared.refusals.DeliverRefusal.{DeliverRefusal}
use Rattle.fbl_group.specs.declared.refusals.StrikeRefusal.{StrikeRefusal}
use Rattle.fbl_group.specs.Checkpoints.{checkpoint_refusal}
use Rattle.fbl_group.specs.Deliveries.{deliver_refusal}
use Rattle.fbl_group.specs.Strikes.{strike_refusal}
use Rattle.fbl_history.specs.Traces.{go_on_to, start_columns}
use Rattle.fbl_history.specs.declared.column.Column.TheVariants.{Checkpoint}
use Rattle.fbl_scripts.specs.declared.answer.Answer.TheVariants as answers
use Rattle.fbl_play.specs.Steps.{CheckpointBy, DeliveryBy, IsRecovered, IsRefused, IsRunAnswer, StrikeBy}
use Rattle.fbl_scripts.specs.declared.reason.RefusalReason.{RefusalReason}
use Rattle.fbl_play.specs.Transcripts.{history, text, GoesOn}
use Rattle.fbl_scripts.specs.declared.script.Command.TheVariants as commands
use Rattle.fbl_threads.specs.declared.drains.DrainRefusal.TheVariants as drain

-- the history of a new group is one of it
pub begun_told : (next : Next ℕ Note) (config : Settings Note) (r : GroupRecord ℕ Note) (had begun : Transcript) → IsGroupStart next config r → IsBegun next r had begun → IsOfGroup next r begun
begun_told next config r (text had) (text has) start is = tt
begun_told next config r (history had) (history None) start is = tt
begun_told next config r (history had) (history (Some columns)) start is =
    let same : columns ≡ start_columns r.config.starts = (let both : Some columns ≡ Some (start_columns r.config.starts) = is in cc) in
    subst (IsHistoryOf next r) (ap (λ (c : Settings Note). start_columns c.starts) (sym start.parameters) ∙ sym same) (begins_at_start next config r start)
begun_told next config r _ _ start is = absurd is

module _ (next : Next ℕ Note) (workers : ℕ) (old new : GroupRecord ℕ Note) where
  -- the turns of a run lead from the group before it
  run-led : (plan : List Strike) (drained : Result (RecordedDrain ℕ Note) DrainRefusal) (recorded : RecordedDrain ℕ Note) (made undone a b c d : ℕ) → RecordedDrains next workers turns_each plan old new drained
      → IsRunAnswer plan made undone new drained (answers.Run recorded a b c d) → (columns : List Column) → IsSound next old → IsHistoryOf next old columns → ∥ IsLedTo next columns recorded.turns.items new ∥₁
  run-led plan (Ok given) recorded made undone a b c d drains is columns sound told =
      let same : recorded ≡ given = (let both : answers.Run recorded a b c d ≡ answers.Run given made new.receipts_ever undone new.undone_ever = is.1 in cc) in
      rw same (∥∥₁_map drains.1.reached (λ run. record { old = old; sound = sound; history = told; lead = turns_lead next plan workers old new given.turns.items _ run }))
  run-led plan (Err drain.Memory) recorded made undone a b c d drains is columns sound told = absurd is
  run-led plan (Err refusal) recorded made undone a b c d drains is columns sound told = absurd is.2

  -- no other command answers a run
  no-run-deliver : (refusal : Option DeliverRefusal) (to from : ℕ) (recorded : RecordedDrain ℕ Note) (a b c d : ℕ) → ¬ (DeliveryBy refusal next old to from new (answers.Run recorded a b c d))
  no-run-deliver None to from recorded a b c d is = (let clash = is.2 in cc)
  no-run-deliver (Some refusal) to from recorded a b c d is = is.1

  no-run-strike : (refusal : Option StrikeRefusal) (members : Members) (recorded : RecordedDrain ℕ Note) (a b c d : ℕ) → ¬ (StrikeBy refusal next old members new (answers.Run recorded a b c d))
  no-run-strike None members recorded a b c d is = is
  no-run-strike (Some refusal) members recorded a b c d is = is.1

  no-run-checkpoint : (refusal : Option CheckpointRefusal) (p : ℕ) (recorded : RecordedDrain ℕ Note) (a b c d : ℕ) → ¬ (CheckpointBy refusal old p new (answers.Run recorded a b c d))
  no-run-checkpoint None p recorded a b c d is = (let clash = is.1 in cc)
  no-run-checkpoint (Some refusal) p recorded a b c d is = is.1

  led : (command : Command) (recorded : RecordedDrain ℕ Note) (a b c d : ℕ) → Step next workers old command new (answers.Run recorded a b c d) → (columns : List Column) → IsSound next old
      → IsHistoryOf next old columns → ∥ IsLedTo next columns recorded.turns.items new ∥₁
  led (commands.Run plan) recorded a b c d step columns sound told = run-led plan step.0 recorded old.receipts_ever old.undone_ever a b c d step.1 step.2 columns sound told
  led (commands.Deliver to from) recorded a b c d step columns sound told = absurd (no-run-deliver (deliver_refusal next old to from) to from recorded a b c d step)
  led commands.States recorded a b c d step columns sound told = absurd (let clash = step.1 in cc)
  led commands.Report recorded a b c d step columns sound told = absurd (let clash = step.1 in cc)
  led (commands.Strike members) recorded a b c d step columns sound told = absurd (no-run-strike (strike_refusal old members) members recorded a b c d step)
  led commands.Recover recorded a b c d (inl none) columns sound told = absurd none.2
  led commands.Recover recorded a b c d (inr some) columns sound told = absurd some.1
  led (commands.Dump strike) recorded a b c d (same, inl dumped) columns sound told = absurd (let clash = dumped.1 in cc)
  led (commands.Dump strike) recorded a b c d (same, inr refused) columns sound told = absurd refused.1
  led (commands.Checkpoint p) recorded a b c d step columns sound told = absurd (no-run-checkpoint (checkpoint_refusal old p) p recorded a b c d step)

  pub led_on : SendsWell next → IsSound next old → (command : Command) (answer : Answer) (t : Transcript) → Step next workers old command new answer → IsOfGroup next old t → IsLedOn next new answer t
  led_on well sound command (answers.Run recorded a b c d) (history (Some columns)) step told = led command recorded a b c d step columns sound told
  led_on well sound command (answers.Run recorded a b c d) (history None) step told = tt
  led_on well sound command (answers.Run recorded a b c d) (text had) step told = tt
  led_on well sound command _ t step told = tt

  -- ---- what each command leaves of a history

  module _ (well : SendsWell next) (sound : IsSound next old) (columns after : List Column) (told : IsHistoryOf next old columns) where
    -- a refused command adds nothing, and the group is as it was
    still : (answer : Answer) (command refusal : List ℕ) (why : RefusalReason) → new ≡ old → IsRefused command refusal why answer → GoesOn next new answer columns after → IsHistoryOf next new after
    still (answers.Refusal c r reason) command refusal why same is goes = rw (goes, same) told
    still _ command refusal why same is goes = absurd is

    delivered : (refusal : Option DeliverRefusal) (to from : ℕ) (answer : Answer) → DeliveryBy refusal next old to from new answer → GoesOn next new answer columns after → IsHistoryOf next new after
    delivered None to from answer (receipt, delivers, is) goes =
        let gone : after ≡ go_on_to next columns new = rw is at goes in
        rw gone (follows_delivery next old new delivers.0 well sound delivers.2.delivery columns told)
    delivered (Some refusal) to from answer (same, refused) goes = still answer _ _ _ same refused goes

    struck : (refusal : Option StrikeRefusal) (members : Members) (answer : Answer) → StrikeBy refusal next old members new answer → GoesOn next new answer columns after → IsHistoryOf next new after
    struck None members (answers.Strike named answered receipts before) (is, strikes, _, _) goes = rw (goes, is) (follows_strike next old new members columns strikes.0 told)
    struck None members _ is goes = absurd is
    struck (Some refusal) members answer (same, refused) goes = still answer _ _ _ same refused goes

    checkpointed : (refusal : Option CheckpointRefusal) (p : ℕ) (answer : Answer) → CheckpointBy refusal old p new answer → GoesOn next new answer columns after → IsHistoryOf next new after
    checkpointed None p answer (step, is) goes =
        let gone : after ≡ columns ++ Checkpoint p ∷ [] = rw is at goes in
        rw gone (follows_checkpoint next old new p columns step told)
    checkpointed (Some refusal) p answer (same, refused) goes = still answer _ _ _ same refused goes

    recovered : (answer : Answer) → IsRecovered next old new answer → GoesOn next new answer columns after → IsHistoryOf next new after
    recovered (answers.Recovery members counts undone) (is, recovers, _) goes = follows_recovery next old new members columns after sound recovers.recovery goes told
    recovered _ is goes = absurd is

    run : (plan : List Strike) (drained : Result (RecordedDrain ℕ Note) DrainRefusal) (answer : Answer) → RecordedDrains next workers turns_each plan old new drained
        → IsRunAnswer plan old.receipts_ever old.undone_ever new drained answer → GoesOn next new answer columns after → IsHistoryOf next new after
    run plan (Ok given) answer drains (memory, is) goes =
        let led : ∥ IsLedTo next columns given.turns.items new ∥₁ =
        ∥∥₁_map drains.1.reached (λ reached. record { old = old; sound = sound; history = told; lead = turns_lead next plan workers old new given.turns.items _ reached }) in
        history_led next new given.turns.items columns after well led (rw is at goes)
    run plan (Err drain.Memory) answer drains is goes = absurd is
    run plan (Err refusal) answer drains (reason, _, refused) goes = still answer _ _ reason drains.1.1 refused goes

    goes_on : (command : Command) (answer : Answer) → Step next workers old command new answer → GoesOn next new answer columns after → IsHistoryOf next new after
    goes_on (commands.Deliver to from) answer step goes = delivered (deliver_refusal next old to from) to from answer step goes
    goes_on commands.States answer (same, is) goes = (let gone : after ≡ columns = rw is at goes in rw (gone, same) told)
    goes_on commands.Report answer (same, is) goes = (let gone : after ≡ columns = rw is at goes in rw (gone, same) told)
    goes_on (commands.Strike members) answer step goes = struck (strike_refusal old members) members answer step goes
    goes_on commands.Recover answer (inl (none, same, refused)) goes = still answer _ _ _ same refused goes
    goes_on commands.Recover answer (inr (some, is)) goes = recovered answer is goes
    goes_on (commands.Dump strike) answer (same, inl (_, is)) goes = (let gone : after ≡ columns = rw is at goes in rw (gone, same) told)
    goes_on (commands.Dump strike) answer (same, inr (_, refused)) goes = still answer _ _ _ same refused goes
    goes_on (commands.Run plan) answer (drained, drains, is) goes = run plan drained answer drains is goes
    goes_on (commands.Checkpoint p) answer step goes = checkpointed (checkpoint_refusal old p) p answer step goes

  -- so each command leaves a history of the group that it leaves
  pub still_told : SendsWell next → IsSound next old → (command : Command) (answer : Answer) (had has : Transcript) → Step next workers old command new answer → IsOfGroup next old had
      → IsAdded next new answer had has → IsOfGroup next new has
  still_told well sound command answer (history (Some columns)) (history (Some after)) step told added = goes_on well sound columns after told command answer step added
  still_told well sound command answer had (text has) step told added = tt
  still_told well sound command answer had (history None) step told added = tt
  still_told well sound command answer _ _ step told added = absurd added
