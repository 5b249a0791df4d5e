-- Turns that are recorded lead from one group to the other.
use Rattle.fbl_turns.proofs.Common.{ℕ, ◌∷◌, ◌++◌, [], Bool, List, Some, refl, subst, append-nil, Next, Strike, GroupRecord, Members, Ticket, Counts, Recovered, RecoveryRecord}
use Rattle.fbl_turns.proofs.Common.{Turn, commits, crashes, strikes, TurnRecord, IsPlannedCrash, IsRecordedAs, IsRecoveryRecord, begins, goes_on, RecordedTurnsLead, StrikeLeads, TurnLeads, TurnsLead}

module _ {S N : Type 0} where
  -- one turn more, behind those that led so far
  one_more : {next : Next S N} (old mid new : GroupRecord S N) (list : List (TurnRecord S N)) (t : TurnRecord S N)
      → TurnsLead next old list mid → TurnLeads next mid t new → TurnsLead next old (list ++ t ∷ []) new
  one_more {next} old mid new [] t led turn = (new, subst (λ r. TurnLeads next r t new) led turn, refl)
  one_more old mid new (u ∷ list) t led turn = (led.0, led.1, one_more led.0 mid new list t led.2 turn)

  -- a crash leads by its record
  pub as_recorded : {next : Next S N} (old new : GroupRecord S N) (set : Members) (recovered : Recovered) (r : RecoveryRecord) (crash : IsPlannedCrash next old new set recovered)
      → IsRecoveryRecord crash r → StrikeLeads next old set (Some r) new
  as_recorded old new set recovered r crash told = (
    (crash.0, (crash.1.0, (crash.1.1.0, crash.1.1.1, rw told.recovered crash.1.1.2)), crash.2),
    record { struck = told.struck; recovered = refl; received = told.received; sent = told.sent },
  )

  -- a turn leads by its record, if it has one, and else changes nothing
  one_turn : {next : Next S N} {plan : List Strike} {w : ℕ} {ticket : Ticket S N} (start old new : GroupRecord S N) (before after : Counts) {ends : Bool} (list more : List (TurnRecord S N))
      → (turn : Turn next plan w ticket old before new after ends) → IsRecordedAs turn more → TurnsLead next start list old → TurnsLead next start (list ++ more) new
  one_turn start old new before after list more (commits _ commit none) (t, is, receipt, no_crash) led =
      rw is (one_more start old new list t led (record { between = new; commit = rw receipt.ticket commit; sent = rw receipt.ticket receipt.sent; crash = rw no_crash refl }))
  one_turn start old new before after list more (crashes between _ set recovered commit at crash) (t, is, receipt, (r, is_crash, told)) led =
      rw is (one_more start old new list t led (record { between = between; commit = rw receipt.ticket commit; sent = rw receipt.ticket receipt.sent; crash = rw is_crash (as_recorded between new set recovered r crash told) }))
  one_turn start old new before after list more (strikes between _ set commit at strike) (t, is, receipt, is_crash) led =
      rw is (one_more start old new list t led (record { between = between; commit = rw receipt.ticket commit; sent = rw receipt.ticket receipt.sent; crash = rw is_crash strike }))
  one_turn start old new before after list more refused is led = rw (is, append-nil list) led

pub turns_lead : {S N : Type 0} → RecordedTurnsLead S N
turns_lead next plan workers start new list counts begins = refl
turns_lead next plan workers start new list counts (goes_on old _ before _ w ticket front more run below turn is) =
    one_turn start old new before counts front more turn is (turns_lead next plan workers start old front before run)
