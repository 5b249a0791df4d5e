-- A history goes on over turns as over the commands that do the same.
use Rattle.fbl_trace.specs.declared.trace.Note.{Note}
use Rattle.std.specs.FinSet as set
use Rattle.fbl_history.proofs.Common.{◌≡◌, ℕ, zero, suc, slice_get, ◌+◌, ◌-◌, ◌<◌, false, List, [], ◌∷◌, ◌++◌, length, Option, None, Some, refl, sym, ap, ◌∙◌, arith, nat_tests, filter_map, length-append}
use Rattle.fbl_history.proofs.Common.{AllBelow, Column, CrashLeads, CrashRecord, GroupRecord, IsAfterCrash, IsAfterRecoveryRecord, IsAfterTurn, IsAfterTurns, IsDelivery, IsHistoryOf, IsLedTo, IsRecoveryColumn, IsSound, IsStrike, MemberRecord, ReceiptsFollowSends}
use Rattle.fbl_history.proofs.Common.{Members, Message, Next, Outcome, Receipt, Recovery, RecoveryRecord, SendsWell, Settings, Strike, StrikeLeads, TurnLeads, TurnRecord, TurnsLead, channel-at, go_on_to, group_strike_keeps, length-numbered}
use Rattle.fbl_history.proofs.Common.{member, member_checkpoint, member_list, numbered, replays_of, send_column, slice_index, slice_index_or, blank, group_recovery_keeps, subst, step_events, step_of, strike_refusal, turn_columns, within-below}
use Rattle.fbl_history.specs.Laws.{FollowsTurns, IsAsByCommands, IsAsCrashed, IsAsStruck}
use Rattle.fbl_history.proofs.Deliveries as delivery
use Rattle.fbl_history.proofs.Recoveries as recovery
use Rattle.fbl_history.proofs.Following.{listed_at}
use Rattle.fbl_history.proofs.Parts.{map-agree}
use Rattle.fbl_history.proofs.Sends.{follow_on, follow_push, untruncated}
use Rattle.fbl_history.proofs.Steps.{follows_strike}
use Rattle.fbl_history.specs.contracts.column.Column as column
use Rattle.std.proofs.Math.Logic.{∥∥₁_elim, ∥∥₁_map}
use Rattle.std.specs.Coded.{Coded-set, codes}

-- ---- one step

module _ (next : Next ℕ Note) (old mid : GroupRecord ℕ Note) (t : TurnRecord ℕ Note) (well : SendsWell next) (sound : IsSound next old) (turn : TurnLeads next old t mid) where
  abbrev pub message : Message Note
  message = turn.commit.1.1.0

  pub commits : IsDelivery next old turn.between message
  commits = turn.commit.1.1.2.delivery

  abbrev step : Outcome ℕ Note
  step = next.step t.ticket.to t.ticket.n t.ticket.state t.ticket.note

  -- the message is that of the ticket
  ends : (message.from ≡ t.ticket.from) × (message.to ≡ t.ticket.to)
  ends = (let at = channel-at sound.causes t.ticket.from t.ticket.to 0 message turn.commit.1.1.1 in (at.0.1, at.0.2))

  same : message ≡ turn.commit.0.fresh.1.0
  same = (let one = turn.commit.1.1.1 in let other = turn.commit.0.fresh.1.1 in cc)

  steps-so : step_of next old message ≡ step
  steps-so =
      let current = turn.commit.0.fresh.1.2 in
      λ i. next.step (ends.1 i) (turn.commit.0.fresh.0 i) ((ap (λ m. (member old m).state) ends.1 ∙ current.state) i) ((ap (λ (v : Message Note). v.note) same ∙ current.note) i)

  sent-so : t.sent - length step.sends.items ≡ length (member old message.to).log
  sent-so =
      let receiver = delivery.receiver-now next old turn.between message well sound commits in
      let had = (member old message.to).log in
      let sends = (step_of next old message).sends.items in
      let after = turn.sent ∙ ap (λ m. length (member turn.between m).log) (sym ends.1) ∙ ap (λ (m : MemberRecord ℕ Note). length m.log) receiver in
      omega (arith, after, length-append had (numbered (length had) sends), length-numbered (length had) sends, ap (λ (o : Outcome ℕ Note). length o.sends.items) steps-so)

  pub turns-columns : delivery.columns_added next old turn.between message well sound commits ≡ turn_columns next t
  turns-columns =
      let current = turn.commit.0.fresh.1.2 in
      let rsn = ap (λ m. (member old m).received + 1) ends.1 ∙ current.rsn in
      let ssn = ap (λ (v : Message Note). v.ssn) same ∙ current.ssn in
      λ i. Receipt (ends.1 i) (rsn i) (ends.0 i) (ssn i) (steps-so i).state false ∷ filter_map send_column (step_events (ends.1 i) (sym sent-so i) (steps-so i).sends.items)

-- ---- crashes

-- the history after steps that lead from a group of which the other is one
record IsTurned (next : Next ℕ Note) (columns : List Column) (new : GroupRecord ℕ Note) (after : List Column) : Type 0 where
  pub history : IsHistoryOf next new after
  pub sound : IsSound next new
  pub sends : ReceiptsFollowSends columns → ReceiptsFollowSends after

-- the members of a group, and their checkpoints
abbrev kept : GroupRecord ℕ Note → Settings Note × List (MemberRecord ℕ Note) × ℕ
kept r = (r.config, r.checkpoints, r.outside)

-- which are the same in both groups
abbrev pub HaveSame : GroupRecord ℕ Note → GroupRecord ℕ Note → Type 0
HaveSame r now = kept r ≡ kept now

-- the replays are the same where the counts and the checkpoints are
pub same-replays : (r now : GroupRecord ℕ Note) (received : ℕ → ℕ) (members : Members) → HaveSame r now → AllBelow members now.config.members
    → ((m : ℕ) → m < now.config.members → received m ≡ (member now m).received) → replays_of r received members ≡ replays_of now (λ m. (member now m).received) members
same-replays r now received members have below counts = map-agree _ _ (member_list members) (λ i m here.
    (let within = below m (listed_at members i m here) in
    let saved : member_checkpoint r m ≡ member_checkpoint now m =
    λ j. slice_index_or (have j).1 m (blank (have j).2) in
    rw (counts m within, saved) refl))

same-recovery : (r now : GroupRecord ℕ Note) (received : ℕ → ℕ) (members : Members) (c : Column) → HaveSame r now → AllBelow members now.config.members
    → ((m : ℕ) → m < now.config.members → received m ≡ (member now m).received) → IsRecoveryColumn r received members c → IsRecoveryColumn now (λ m. (member now m).received) members c
same-recovery r now received members (Recovery replays) have below counts is = is ∙ same-replays r now received members have below counts
same-recovery r now received members _ have below counts is = absurd is

within-allowed : (r : GroupRecord ℕ Note) (members : Members) → strike_refusal r members ≡ None → AllBelow members r.config.members
within-allowed r members allowed = within-below members r.config.members (grind (arith, nat_tests))

module _ (next : Next ℕ Note) (r old new : GroupRecord ℕ Note) (members : Members) (sound : IsSound next old) (nobody_down : old.down ≡ set.empty) (have : HaveSame r new) where
  struck-sound : (down : GroupRecord ℕ Note) → strike_refusal old members ≡ None → IsStrike next old down members → IsSound next down
  struck-sound down allowed strike = group_strike_keeps next old down members strike (within-allowed old members allowed) (rw strike.down (grind (arith, nat_tests))) sound

  -- a strike, and a recovery where there was one
  struck : (given : Option RecoveryRecord) (columns after : List Column) → StrikeLeads next old members given new → IsHistoryOf next old columns
      → IsAfterRecoveryRecord r members given (columns ++ Strike members ∷ []) after → IsAsStruck next new members given columns after × IsTurned next columns new after
  struck None columns after led history is = (
    is,
    record {
      history = rw is (follows_strike next old new members columns led.1.1.0 history);
      sound = struck-sound new led.0 led.1.1.0;
      sends = λ follow. rw is (follow_push columns (Strike members) refl follow);
    },
  )
  struck (Some back) columns after (crash, told) history is =
      let down = crash.1.1.0 in
      let strike = crash.1.1.1.0 in
      let step = crash.1.1.2.recovery in
      let sound-down = struck-sound down crash.0 strike in
      let history-down = follows_strike next old down members columns strike history in
      let gone = recovery.gone_back next down new step sound-down (slice_index back.received.items) (slice_index back.sent.items) (λ m below. told.received.each m (rw step.rest.config below))
      (λ m below. told.sent.each m (rw step.rest.config below)) (columns ++ Strike members ∷ []) history-down in
      let column = same-recovery r new (slice_index back.received.items) members is.0 have (rw (step.rest.config, strike.config) (within-allowed old members crash.0)) told.received.each is.1 in
      let same-as : IsAsStruck next new members (Some back) columns after = (is.0, column, is.2 ∙ ap (λ xs. xs ++ is.0 ∷ []) (sym gone)) in
      let sound-new = group_recovery_keeps next down new step sound-down in (
        same-as,
        record {
          history = recovery.follows_recovery next down new members (columns ++ Strike members ∷ []) after sound-down step same-as history-down;
          sound = sound-new;
          sends = λ follow.
              (let lies = recovery.recovery-lies new (λ m. (member new m).received) members is.0 column in
              rw same-as.2 (follow_push _ is.0 lies.1 (follow_on next new (columns ++ Strike members ∷ []) sound-new (follow_push columns (Strike members) refl follow))));
        },
      )

-- a crash, where there was one
crashed : (next : Next ℕ Note) (r old new : GroupRecord ℕ Note) (given : Option CrashRecord) (columns after : List Column) → IsSound next old → old.down ≡ set.empty → HaveSame r new
    → CrashLeads next old given new → IsHistoryOf next old columns → IsAfterCrash r given columns after → IsAsCrashed next new given columns after × IsTurned next columns new after
crashed next r old new None columns after sound nobody have led history is = (is, record { history = rw (is, led) history; sound = rw led sound; sends = λ follow. rw is follow })
crashed next r old new (Some crash) columns after sound nobody have led history is = struck next r old new crash.set sound nobody have crash.recovery columns after led history is

-- ---- turns

-- a turn leaves the members and the checkpoints
strike-keeps : (next : Next ℕ Note) (old new : GroupRecord ℕ Note) (members : Members) (given : Option RecoveryRecord) → StrikeLeads next old members given new → HaveSame new old
strike-keeps next old new members None led = (let strike = led.1.1.0 in λ i. (strike.config i, strike.checkpoints i, strike.outside i))
strike-keeps next old new members (Some back) led =
    let strike = led.0.1.1.1.0 in
    let rest = led.0.1.1.2.recovery.rest in
    λ i. ((rest.config ∙ strike.config) i, (rest.checkpoints ∙ strike.checkpoints) i, (rest.outside ∙ strike.outside) i)

crash-keeps : (next : Next ℕ Note) (old new : GroupRecord ℕ Note) (given : Option CrashRecord) → CrashLeads next old given new → HaveSame new old
crash-keeps next old new None led = ap kept led
crash-keeps next old new (Some crash) led = strike-keeps next old new crash.set crash.recovery led

turn-keeps : (next : Next ℕ Note) (old mid : GroupRecord ℕ Note) (t : TurnRecord ℕ Note) → TurnLeads next old t mid → HaveSame mid old
turn-keeps next old mid t turn =
    (let step = turn.commit.1.1.2.delivery in crash-keeps next turn.between mid t.crash turn.crash ∙ λ i. (step.config i, step.checkpoints i, step.outside i))

turns-keep : (next : Next ℕ Note) (old new : GroupRecord ℕ Note) (turns : List (TurnRecord ℕ Note)) → TurnsLead next old turns new → HaveSame new old
turns-keep next old new [] lead = ap kept lead
turns-keep next old new (t ∷ turns) (mid, turn, more) = turns-keep next mid new turns more ∙ turn-keeps next old mid t turn

turned : (next : Next ℕ Note) (r old mid : GroupRecord ℕ Note) (t : TurnRecord ℕ Note) (columns after : List Column) → SendsWell next → IsSound next old → (turn : TurnLeads next old t mid) → HaveSame r mid
    → IsHistoryOf next old columns → IsAfterTurn next r t columns after → IsAsCrashed next mid t.crash (go_on_to next columns turn.between) after × IsTurned next columns mid after
turned next r old mid t columns after well sound turn have history is =
    let v = message next old mid t well sound turn in
    let step = commits next old mid t well sound turn in
    let gone = delivery.gone_on next old turn.between v well sound step columns history ∙ ap (λ xs. columns ++ xs) (turns-columns next old mid t well sound turn) in
    let sound-between = delivery.sound-new next old turn.between v well sound step in
    let rest = crashed next r turn.between mid t.crash (go_on_to next columns turn.between) after sound-between (step.down ∙ step.nobody_down) have turn.crash
    (delivery.follows_delivery next old turn.between v well sound step columns history) (subst (λ xs. IsAfterCrash r t.crash xs after) (sym gone) is) in
    (rest.0, record { history = rest.1.history; sound = rest.1.sound; sends = λ follow. rest.1.sends (follow_on next turn.between columns sound-between follow) })

all-turned : (next : Next ℕ Note) (r old new : GroupRecord ℕ Note) (turns : List (TurnRecord ℕ Note)) (columns after : List Column) → SendsWell next → IsSound next old → HaveSame r old
    → (lead : TurnsLead next old turns new) → IsHistoryOf next old columns → IsAfterTurns next r turns columns after
    → IsAsByCommands next old turns new lead columns after × IsTurned next columns new after
all-turned next r old new [] columns after well sound have lead history is = (is, record { history = rw (is, lead) history; sound = rw lead sound; sends = λ follow. rw is follow })
all-turned next r old new (t ∷ turns) columns after well sound have (mid, turn, more) history (middle, first, rest) =
    let now = have ∙ sym (turn-keeps next old mid t turn) in
    let one = turned next r old mid t columns middle well sound turn now history first in
    let later = all-turned next r mid new turns middle after well one.1.sound now more one.1.history rest in
    ((middle, one.0, later.0), record { history = later.1.history; sound = later.1.sound; sends = λ follow. later.1.sends (one.1.sends follow) })

pub follows_turns : FollowsTurns
follows_turns next old new turns columns after well sound lead history is =
    (let turned = all-turned next new old new turns columns after well sound (turns-keep next old new turns lead) lead history is in (turned.0, turned.1.history))

-- ---- turns that follow one another

pub after_more : (next : Next ℕ Note) (r : GroupRecord ℕ Note) (turns : List (TurnRecord ℕ Note)) (t : TurnRecord ℕ Note) (first mid last : List Column)
    → IsAfterTurns next r turns first mid → IsAfterTurn next r t mid last → IsAfterTurns next r (turns ++ t ∷ []) first last
after_more next r [] t first mid last is one = (last, subst (λ xs. IsAfterTurn next r t xs last) is one, refl)
after_more next r (u ∷ turns) t first mid last (between, head, more) one = (between, head, after_more next r turns t between mid last more one)

-- a strike names members of the group
strike-within : (next : Next ℕ Note) (old new : GroupRecord ℕ Note) (members : Members) (given : Option RecoveryRecord) → StrikeLeads next old members given new → AllBelow members old.config.members
strike-within next old new members None led = within-allowed old members led.0
strike-within next old new members (Some back) led = within-allowed old members led.0.0

crashes-within : (next : Next ℕ Note) (old new : GroupRecord ℕ Note) (turns : List (TurnRecord ℕ Note)) → TurnsLead next old turns new
    → (i : ℕ) (t : TurnRecord ℕ Note) (crash : CrashRecord) → slice_get turns i ≡ Some t → t.crash ≡ Some crash → AllBelow crash.set new.config.members
crashes-within next old new [] lead i t crash here is = absurd cc
crashes-within next old new (u ∷ turns) (mid, turn, more) zero t crash here is =
    let same : u.crash ≡ Some crash = ap (λ (v : TurnRecord ℕ Note). v.crash) (let heads : u ≡ t = cc in heads) ∙ is in
    let same-config = turns-keep next mid new turns more ∙ crash-keeps next turn.between mid u.crash turn.crash in
    subst (λ k. AllBelow crash.set k.0.members) (sym same-config) (strike-within next turn.between mid crash.set crash.recovery (rw same at turn.crash))
crashes-within next old new (u ∷ turns) (mid, turn, more) (suc i) t crash here is = crashes-within next mid new turns more i t crash here is

-- ---- where turns led from some group to this one

pub crash_led : (next : Next ℕ Note) (new : GroupRecord ℕ Note) (turns : List (TurnRecord ℕ Note)) (columns : List Column) → ∥ IsLedTo next columns turns new ∥₁
    → (i : ℕ) (t : TurnRecord ℕ Note) (crash : CrashRecord) → slice_get turns i ≡ Some t → t.crash ≡ Some crash → AllBelow crash.set new.config.members
crash_led next new turns columns led i t crash here is = ∥∥₁_elim led (Prim.hlevel (Coded-set, codes)) (λ from. crashes-within next from.old new turns from.lead i t crash here is)

module _ (next : Next ℕ Note) (new : GroupRecord ℕ Note) (turns : List (TurnRecord ℕ Note)) (columns after : List Column) (well : SendsWell next)
    (led : ∥ IsLedTo next columns turns new ∥₁) (is : IsAfterTurns next new turns columns after) where
  led-on : IsLedTo next columns turns new → IsTurned next columns new after
  led-on from = (all-turned next new from.old new turns columns after well from.sound (turns-keep next from.old new turns from.lead) from.lead from.history is).1

  pub history_led : IsHistoryOf next new after
  history_led = ∥∥₁_elim led (Prim.hlevel (Coded-set, codes, column.the_row.coded)) (λ from. (led-on from).history)

  pub sends_led : ReceiptsFollowSends columns → ReceiptsFollowSends after
  sends_led follow = untruncated after (∥∥₁_map led (λ from. (led-on from).sends follow))
