-- Turns that are recorded, each of which made a receipt: what they do to a group.
use Rattle.std.specs.Prelude.{◌≡◌, ℕ, ◌<◌, List, [], ◌∷◌, length, slice_index, Option, Some, None}
use Rattle.fbl_trace.specs.Fold.{Next}
use Rattle.fbl_trace.specs.MemberSets.{Members}
use Rattle.fbl_trace.specs.declared.ticket.Ticket.{Ticket}
use Rattle.fbl_law.specs.Groups.{GroupRecord, knowledge, member}
use Rattle.fbl_law.specs.Promises.{KeepsHolders}
use Rattle.fbl_group.specs.declared.answers.Receipted.{Receipted}
use Rattle.fbl_group.specs.declared.answers.Recovered.{Recovered}
use Rattle.fbl_group.specs.declared.answers.Struck.{Struck}
use Rattle.fbl_group.specs.declared.answers.CrashRecord.{CrashRecord}
use Rattle.fbl_group.specs.declared.answers.RecoveryRecord.{RecoveryRecord}
use Rattle.fbl_group.specs.declared.answers.TurnRecord.{TurnRecord}
use Rattle.fbl_group.specs.Deliveries.{Delivers, MayCommit}
use Rattle.fbl_group.specs.Strikes.{strike_refusal, Crashes, IsStrikeAlone}

-- the commit of the step with this ticket leads from old to new
abbrev pub Commits : {S N : Type 0} → Next S N → GroupRecord S N → GroupRecord S N → Ticket S N → Type 0
Commits {S} next old new ticket = MayCommit next old ticket × ((answer : Receipted S) × Delivers next old new ticket.to ticket.from answer)

-- the crash of the members leads from old to new, and whoever held a receipt that is left holds it still
abbrev pub IsPlannedCrash : {S N : Type 0} → Next S N → GroupRecord S N → GroupRecord S N → Members → Recovered → Type 0
IsPlannedCrash next old new members recovered =
    (strike_refusal old members ≡ None) × ((struck : Struck) × Crashes next old new members struck recovered) × KeepsHolders (knowledge old) (knowledge new)

-- these are, by the members' numbers, so many receipts as each has, or so many messages as each has sent
pub record CountsEach {S N : Type 0} (r : GroupRecord S N) (count : ℕ → ℕ) (counts : List ℕ) : Type 0 where
  pub size : length counts ≡ r.config.members
  pub each : (m : ℕ) → m < r.config.members → slice_index counts m ≡ count m

-- the recovery of this crash, which led to new, is recorded so
pub record IsRecoveryRecord {S N : Type 0} {next : Next S N} {old new : GroupRecord S N} {set : Members} {answer : Recovered}
    (crash : IsPlannedCrash next old new set answer) (r : RecoveryRecord) : Type 0 where
  pub struck : r.struck ≡ crash.1.0
  pub recovered : r.recovered ≡ answer
  pub received : CountsEach new (λ m. (member new m).received) r.received.items
  pub sent : CountsEach new (λ m. length (member new m).log) r.sent.items

-- the strike of these members with this recovery leads from old to new; where there is none, the strike alone does
abbrev pub StrikeLeads : {S N : Type 0} → Next S N → GroupRecord S N → Members → Option RecoveryRecord → GroupRecord S N → Type 0
StrikeLeads next old set None new = IsStrikeAlone next old new set
StrikeLeads next old set (Some r) new = (crash : IsPlannedCrash next old new set r.recovered) × IsRecoveryRecord crash r

-- this crash leads from old to new; where there is none nothing changes
abbrev pub CrashLeads : {S N : Type 0} → Next S N → GroupRecord S N → Option CrashRecord → GroupRecord S N → Type 0
CrashLeads next old None new = new ≡ old
CrashLeads next old (Some crash) new = StrikeLeads next old crash.set crash.recovery new

-- the turn with this record leads from old to new: its commit leads to a group between the two, and its crash from there on
pub record TurnLeads {S N : Type 0} (next : Next S N) (old : GroupRecord S N) (t : TurnRecord S N) (new : GroupRecord S N) : Type 0 where
  pub between : GroupRecord S N
  pub commit : Commits next old between t.ticket
  pub sent : t.sent ≡ length (member between t.ticket.to).log
  pub crash : CrashLeads next between t.crash new

-- the turns with these records, in this order, lead from old to new
abbrev pub TurnsLead : {S N : Type 0} → Next S N → GroupRecord S N → List (TurnRecord S N) → GroupRecord S N → Type 0
TurnsLead next old [] new = new ≡ old
TurnsLead {S} {N} next old (t ∷ turns) new = (mid : GroupRecord S N) × TurnLeads next old t mid × TurnsLead next mid turns new
