-- The rules of a log with restarts: an entry that breaks one does not obey them.
use Rattle.fbl_runs.proofs.Common.{ℕ, ◌∙◌, inl, inr, List, sym, arith, take, Mark, Entry, named_life}
use Rattle.fbl_trace.specs.Configs.{IsFirstBreach}
use Rattle.fbl_runs.specs.declared.entry.Restart as restart
use Rattle.fbl_runs.specs.declared.fault.LifeFault.{LifeFault}
use Rattle.fbl_runs.specs.declared.fault.LifeRule.{LifeRule}
use Rattle.fbl_runs.specs.declared.fault.LifeRule.TheVariants.{ControlMessages, NotDue, NotLater, OtherReceipts, Outside, Stood, ToItself, TooMany, TooManyRestarts, WrongNumber}
use Rattle.fbl_runs.specs.Rules.{BreaksEvent, BreaksLife, BreaksRestart, FollowsAt, IsFirstLifeFault, MayFollow, MayHappen, MayRestart}
use Rattle.fbl_runs.proofs.ControlLaws.{breaks_control}

breaks_event : (n : ℕ) (before : List Entry) (m : Mark) (life : ℕ) (rule : LifeRule) → BreaksEvent n before m life rule → ¬ (MayHappen n before m life)
breaks_event n before m life TooMany broken may = (let few = may.0 in omega (arith, few, broken))
breaks_event n before m life (Outside outsider) broken may = elim broken.1 [
  | inl from ↦ (let b = may.1.0 in let o = from.2 in omega (arith, b, o))
  | inr to ↦ (let b = may.1.1 in let o = to.1.2 in omega (arith, b, o))
]
breaks_event n before m life ToItself broken may = may.1.2 broken.3
breaks_event n before m life (WrongNumber wanted) broken may = broken.3 (may.2 ∙ sym broken.2)
breaks_event n before m life NotDue broken may = broken.3 may.3
breaks_event n before m life x broken may = broken

breaks_restart : (n : ℕ) (before : List Entry) (r : restart.Restart) (rule : LifeRule) → BreaksRestart n before r rule → ¬ (MayRestart n before r)
breaks_restart n before r TooManyRestarts broken may = (let few = may.0 in omega (arith, few, broken))
breaks_restart n before r (Outside outsider) broken may = (let b = may.1 in let o = broken.1.2 in omega (arith, b, o))
breaks_restart n before r (NotLater life) broken may = (let later = may.2 in let is = broken.2 in let past = broken.3 in omega (arith, later, is, past))
breaks_restart n before r (Stood count) broken may = (let within = may.3 in let is = broken.3 in let past = broken.4 in omega (arith, within, is, past))
breaks_restart n before r OtherReceipts broken may = broken.4 may.4
breaks_restart n before r x broken may = broken

pub breaks_life : (n : ℕ) (before : List Entry) (e : Entry) (rule : LifeRule) → BreaksLife n before e rule → ¬ (MayFollow n before e)
breaks_life n before e (ControlMessages rule) broken may = breaks_control n before e rule broken may.2
breaks_life n before e rule broken may = elim broken [
  | inl event ↦ breaks_event n before event.0 (named_life e) rule event.2 (may.0 event.0 event.1)
  | inr restart' ↦ breaks_restart n before restart'.0 rule restart'.2 (may.1 restart'.0 restart'.1)
]

-- so the first one that is found is the first that does not
pub first_life_breach : (n : ℕ) (entries : List Entry) (fault : LifeFault) → IsFirstLifeFault n entries fault → IsFirstBreach (FollowsAt n entries) fault.place
first_life_breach n entries fault first = (first.0, λ follows. breaks_life n (take fault.place entries) fault.entry fault.rule first.2 (follows fault.entry first.1))
