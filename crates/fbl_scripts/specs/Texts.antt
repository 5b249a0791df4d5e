-- What commands print.
use Rattle.std.specs.Prelude.{◌≡◌, ℕ, zero, suc, ◌↔◌, true, List, [], ◌∷◌, ◌++◌, length, codes, decimal, if◌then◌else◌}
use Rattle.std.specs.FinSet as set
use Rattle.fbl_trace.specs.declared.trace.Note.{Note}
use Rattle.fbl_trace.specs.Losses.{IsDumpOrphan, lost_determinants}
use Rattle.fbl_group.specs.declared.answers.Receipted.{Receipted}
use Rattle.fbl_group.specs.declared.answers.Recovered.{Recovered}
use Rattle.fbl_law.specs.Groups.{GroupRecord, member, messages_in_flight}
use Rattle.fbl_law.specs.Promises.{dump_of}
use Rattle.fbl_records.specs.DumpLines.{dump_line}
use Rattle.fbl_input.specs.Lines.{lost_line, orphans_line}
use Rattle.fbl_input.specs.Lines.{line}
use Rattle.fbl_input.specs.Lines.{set_words}
use Rattle.fbl_turns.specs.declared.counted.Drained.{Drained}
use Rattle.fbl_scripts.specs.declared.answer.Answer.{Answer}
use Rattle.fbl_scripts.specs.declared.answer.Answer.TheVariants as answers
use Rattle.fbl_scripts.specs.declared.answer.Totals.{Totals}
use Rattle.fbl_scripts.specs.declared.reason.RefusalReason.{RefusalReason}
use Rattle.fbl_scripts.specs.declared.reason.RefusalReason.TheVariants.{BadPlan}

-- what is said of each of so many members, from the first one on
abbrev pub of_members : (ℕ → List ℕ) → ℕ → List ℕ
of_members said zero = []
of_members said (suc n) = of_members said n ++ said n

-- a member's state, or `-` for one that is down
abbrev pub state_word : GroupRecord ℕ Note → ℕ → List ℕ
state_word r m = if set.contains r.down m then codes " -" else codes " " ++ decimal (member r m).state

abbrev pub states_line : GroupRecord ℕ Note → List ℕ
states_line r = line (codes "states" ∷ of_members (state_word r) r.config.members ∷ [])

-- one member's line of a report
abbrev pub member_line : GroupRecord ℕ Note → ℕ → List ℕ
member_line r m = if set.contains r.down m then line (codes "member " ∷ decimal m ∷ codes " down" ∷ [])
    else line (codes "member " ∷ decimal m ∷ codes " up state " ∷ decimal (member r m).state ∷ codes " received " ∷ decimal (member r m).received
    ∷ codes " sent " ∷ decimal (length (member r m).log) ∷ codes " held " ∷ decimal (length (member r m).table) ∷ [])

-- these totals are the group's: messages in flight, length of the trace, and the audit of its dump with those that are down
pub record AreTotals (r : GroupRecord ℕ Note) (t : Totals) : Type 0 where
  pub flight : t.flight ≡ messages_in_flight r
  pub trace : t.trace ≡ length r.trace
  pub lost : t.lost ≡ length (lost_determinants (dump_of r r.down))
  pub orphans : (q : ℕ) → (set.contains t.orphans q ≡ true) ↔ IsDumpOrphan (dump_of r r.down) q

-- the end of a report
abbrev pub total_lines : Totals → List ℕ
total_lines t = line (codes "flight " ∷ decimal t.flight ∷ []) ++ line (codes "trace " ∷ decimal t.trace ∷ []) ++ lost_line t.lost ++ orphans_line t.orphans

-- the lines of a report of the group
abbrev pub IsReport : GroupRecord ℕ Note → List ℕ → Type 0
IsReport r text = (totals : Totals) × AreTotals r totals × (text ≡ of_members (member_line r) r.config.members ++ total_lines totals)

-- how a run ended: quiet, with a worker that met the end of the trace's room, or neither
abbrev pub end_word : Drained → List ℕ
end_word d = if d.quiet then codes "quiet" else (if d.full then codes "full" else codes "stopped")

-- a refused command, by its name and the refusal's; a plan with the place of its bad entry
abbrev pub refusal_line : List ℕ → List ℕ → RefusalReason → List ℕ
refusal_line command refusal (BadPlan fault) = line (command ∷ codes " refused " ∷ refusal ∷ codes " " ∷ decimal fault.place ∷ [])
refusal_line command refusal reason = line (command ∷ codes " refused " ∷ refusal ∷ [])

abbrev pub delivery_line : ℕ → ℕ → Receipted ℕ → List ℕ
delivery_line to from receipt =
    line (codes "deliver " ∷ decimal to ∷ codes " " ∷ decimal from ∷ codes " receipt " ∷ decimal receipt.rsn ∷ codes " carried " ∷ decimal receipt.carried ∷ codes " state " ∷ decimal receipt.state ∷ [])

abbrev pub recovery_line : Recovered → List ℕ
recovery_line recovered =
    line (codes "recover replayed " ∷ decimal recovered.replayed ∷ codes " resent " ∷ decimal recovered.resent ∷ codes " undone " ∷ decimal recovered.undone ∷ [])

-- the text of a command's answer, where the command left the group like this
abbrev pub IsText : GroupRecord ℕ Note → Answer → List ℕ → Type 0
IsText r (answers.Delivery to from receipt) text = text ≡ delivery_line to from receipt
IsText r answers.States text = text ≡ states_line r
IsText r answers.Report text = IsReport r text
IsText r (answers.Strike members struck receipts before) text = text ≡ line (codes "strike " ∷ set_words members ∷ codes " lost " ∷ decimal struck.lost ∷ [])
IsText r (answers.Recovery members recovered undone) text = text ≡ recovery_line recovered
IsText r (answers.Dump dump) text = text ≡ dump_line dump
IsText r (answers.Run recorded _ _ _ _) text = text ≡ line (codes "run " ∷ end_word recorded.drained ∷ [])
IsText r (answers.Checkpoint p received) text = text ≡ line (codes "checkpoint " ∷ decimal p ∷ codes " receipt " ∷ decimal received ∷ [])
IsText r (answers.Refusal command refusal reason) text = text ≡ refusal_line command.now refusal.now reason
