use Rattle.fbl_runs.proofs.Common.{false, sym, subst, inl, inr, refl, ℕ, List, Entry}
use Rattle.fbl_trace.specs.declared.dump.refusal.DumpRefusal.TheVariants.{BadEvent}
use Rattle.fbl_runs.specs.declared.fault.LogBreach.TheVariants.{Record}
use Rattle.fbl_runs.specs.ControlMessages.{AreTold, IsFirstUntold}
use Rattle.fbl_runs.specs.Lawful.{IsFirstBad, ObeysAt}
use Rattle.fbl_runs.specs.Logs.{parts_of_log}
use Rattle.fbl_runs.specs.Rules.{AreLawful}
use Rattle.fbl_runs.proofs.ControlLaws.{first_untold_breach}
use Rattle.fbl_runs.proofs.RunLaws.{breach_by, first_bad_breach, is_log, lawful_plain, refuses_by, rules_by}
use Rattle.fbl_runs.proofs.lawful.plain_refusal.Goals as goal
use Rattle.fbl_runs.proofs.lawful.plain_refusal.Goals.{In-Ok-None}

pub returns-in-Ok-Some-clause-log : goal.returns-in-Ok-Some-clause-log
returns-in-Ok-Some-clause-log c =
    let raw = c.args.raw.now in
    let untold = subst (λ (es : List Entry). IsFirstUntold raw.members es c.in-Ok-Some.fault) c.as_slice.ensures.value (rw c.in-Ok-Some.field-0-is at c.in-Ok-Some.ensures) in
    refuses_by (parts_of_log raw) false (BadEvent c.in-Ok-Some.fault.place) c.requires (inr (inl (c.in_default.ensures.trace, first_untold_breach raw.members raw.entries.items c.in-Ok-Some.fault untold)))

told : (c : In-Ok-None) → AreTold c.args.raw.now.members c.args.raw.now.entries.items
told c = subst (λ (es : List Entry). AreTold c.args.raw.now.members es) c.as_slice.ensures.value (rw c.in-Ok-None.field-0-is at c.in-Ok-None.ensures)

pub first_bad-requires : goal.first_bad-requires
first_bad-requires c =
    let raw = c.args.raw.now in
    let lawful = lawful_plain raw.members raw.entries.items c.requires c.in_default.ensures.trace.events (told (goal.at.first_bad-requires c).In-Ok-None) in
    (raw.members, subst (AreLawful raw.members) (sym c.as_slice-2.ensures.value) lawful)

pub returns-in-Ok-None-first_bad-clause-log : goal.returns-in-Ok-None-first_bad-clause-log
returns-in-Ok-None-first_bad-clause-log c =
    let log = parts_of_log c.args.raw.now in
    let trace = c.in_default.ensures.trace in
    let good = (rw c.in-Ok-None-first_bad.field-0-is at c.in-Ok-None-first_bad.ensures) in
    is_log log trace.members trace.f trace.strike (rules_by log false c.requires (trace.events, told (goal.at.returns-in-Ok-None-first_bad-clause-log c).In-Ok-None))
    (subst (λ (es : List Entry). (i : ℕ) → ObeysAt log.members es i) c.as_slice-2.ensures.value good)

pub returns-in-Ok-Some-first_bad-clause-log : goal.returns-in-Ok-Some-first_bad-clause-log
returns-in-Ok-Some-first_bad-clause-log c =
    let raw = c.args.raw.now in
    let bad = subst (λ (es : List Entry). IsFirstBad raw.members es c.in-Ok-Some-first_bad.fault) c.as_slice-2.ensures.value (rw c.in-Ok-Some-first_bad.field-0-is at c.in-Ok-Some-first_bad.ensures) in
    refuses_by (parts_of_log raw) false (BadEvent c.in-Ok-Some-first_bad.fault.place) c.requires
    (inr (inr (c.in_default.ensures.trace, told (goal.at.returns-in-Ok-Some-first_bad-clause-log c).In-Ok-None, first_bad_breach raw.members raw.entries.items c.in-Ok-Some-first_bad.fault bad)))

pub returns-in-Ok-Some-first_bad-clause-breach : goal.returns-in-Ok-Some-first_bad-clause-breach
returns-in-Ok-Some-first_bad-clause-breach c =
    let raw = c.args.raw.now in
    breach_by (parts_of_log raw) false (BadEvent c.in-Ok-Some-first_bad.fault.place) (Record c.in-Ok-Some-first_bad.fault) c.requires
    (refl, subst (λ (es : List Entry). IsFirstBad raw.members es c.in-Ok-Some-first_bad.fault) c.as_slice-2.ensures.value (rw c.in-Ok-Some-first_bad.field-0-is at c.in-Ok-Some-first_bad.ensures))
