use Rattle.fbl_runs.proofs.Common.{arith, true, sym, subst, inl, inr, refl, ℕ, List, Entry}
use Rattle.fbl_trace.specs.MemberSets.{AllBelow}
use Rattle.fbl_trace.specs.declared.dump.refusal.DumpRefusal.TheVariants.{BadEvent, BadStrike}
use Rattle.fbl_runs.specs.declared.fault.LogBreach.TheVariants.{Life, Record}
use Rattle.fbl_runs.specs.Lawful.{IsFirstBad, ObeysAt}
use Rattle.fbl_runs.specs.Logs.{parts_of_log}
use Rattle.fbl_runs.specs.Rules.{AreLawful, FollowsAt, IsFirstLifeFault}
use Rattle.fbl_runs.proofs.RuleLaws.{first_life_breach}
use Rattle.fbl_runs.proofs.RunLaws.{breach_by, first_bad_breach, is_log, lawful_lives, refuses_by, rules_by}
use Rattle.fbl_runs.proofs.lawful.lived_refusal.Goals as goal
use Rattle.fbl_runs.proofs.lawful.lived_refusal.Goals.{In-Ok-None}

pub returns-in-Ok-Some-clause-log : goal.returns-in-Ok-Some-clause-log
returns-in-Ok-Some-clause-log c =
    let raw = c.args.raw.now in
    let fault = c.in-Ok-Some.fault in
    let first = subst (λ (es : List Entry). IsFirstLifeFault raw.members es fault) c.as_slice.ensures.value (rw c.in-Ok-Some.field-0-is at c.in-Ok-Some.ensures) in
    refuses_by (parts_of_log raw) true (BadEvent fault.place) c.requires (c.in-None.ensures.0, c.in-None.ensures.1, inl (first_life_breach raw.members raw.entries.items fault first))

pub returns-in-Ok-Some-clause-breach : goal.returns-in-Ok-Some-clause-breach
returns-in-Ok-Some-clause-breach c =
    let raw = c.args.raw.now in
    let fault = c.in-Ok-Some.fault in
    breach_by (parts_of_log raw) true (BadEvent fault.place) (Life fault) c.requires
    (refl, subst (λ (es : List Entry). IsFirstLifeFault raw.members es fault) c.as_slice.ensures.value (rw c.in-Ok-Some.field-0-is at c.in-Ok-Some.ensures))

follows : (c : In-Ok-None) (i : ℕ) → FollowsAt c.args.raw.now.members c.args.raw.now.entries.items i
follows c = subst (λ (es : List Entry). (i : ℕ) → FollowsAt c.args.raw.now.members es i) c.as_slice.ensures.value (rw c.in-Ok-None.field-0-is at c.in-Ok-None.ensures)

pub returns-in-Some-clause-log : goal.returns-in-Some-clause-log
returns-in-Some-clause-log c =
    let raw = c.args.raw.now in
    refuses_by (parts_of_log raw) true BadStrike c.requires
    (c.in-None.ensures.0, c.in-None.ensures.1, follows (goal.at.returns-in-Some-clause-log c).In-Ok-None, λ below. outside below) where
      outside : AllBelow c.args.raw.now.strike c.args.raw.now.members → ⊥
      outside below = (let out = c.in-Some.ensures in let within = below c.in-Some.outsider.member out.0 in let past = out.1.2 in omega (arith, within, past))

pub first_bad-requires : goal.first_bad-requires
first_bad-requires c =
    let raw = c.args.raw.now in
    let lawful = lawful_lives raw.members raw.entries.items (follows (goal.at.first_bad-requires c).In-Ok-None) in
    (raw.members, subst (AreLawful raw.members) (sym c.as_slice-2.ensures.value) lawful)

pub returns-in-Ok-None-first_bad-clause-log : goal.returns-in-Ok-None-first_bad-clause-log
returns-in-Ok-None-first_bad-clause-log c =
    let log = parts_of_log c.args.raw.now in
    let good = (rw c.in-Ok-None-first_bad.field-0-is at c.in-Ok-None-first_bad.ensures) in
    is_log log c.in-None.ensures.0 c.in-None.ensures.1 c.in_default.ensures (rules_by log true c.requires (follows (goal.at.returns-in-Ok-None-first_bad-clause-log c).In-Ok-None))
    (subst (λ (es : List Entry). (i : ℕ) → ObeysAt log.members es i) c.as_slice-2.ensures.value good)

pub returns-in-Ok-Some-first_bad-clause-log : goal.returns-in-Ok-Some-first_bad-clause-log
returns-in-Ok-Some-first_bad-clause-log c =
    let raw = c.args.raw.now in
    let fault = c.in-Ok-Some-first_bad.fault in
    let bad = subst (λ (es : List Entry). IsFirstBad raw.members es fault) c.as_slice-2.ensures.value (rw c.in-Ok-Some-first_bad.field-0-is at c.in-Ok-Some-first_bad.ensures) in
    refuses_by (parts_of_log raw) true (BadEvent fault.place) c.requires
    (c.in-None.ensures.0, c.in-None.ensures.1, inr (follows (goal.at.returns-in-Ok-Some-first_bad-clause-log c).In-Ok-None, c.in_default.ensures, first_bad_breach raw.members raw.entries.items fault bad))

pub returns-in-Ok-Some-first_bad-clause-breach : goal.returns-in-Ok-Some-first_bad-clause-breach
returns-in-Ok-Some-first_bad-clause-breach c =
    let raw = c.args.raw.now in
    let fault = c.in-Ok-Some-first_bad.fault in
    breach_by (parts_of_log raw) true (BadEvent fault.place) (Record fault) c.requires
    (refl, subst (λ (es : List Entry). IsFirstBad raw.members es fault) c.as_slice-2.ensures.value (rw c.in-Ok-Some-first_bad.field-0-is at c.in-Ok-Some-first_bad.ensures))
