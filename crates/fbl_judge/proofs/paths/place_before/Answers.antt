use Rattle.fbl_judge.proofs.Common.{arith, ℕ, ◌≡◌, ◌+◌, ◌∙◌, cond, max, Option, Some, None, ap, subst, refl, eqb-self, length, cut_of, log_of, Entry, List}
use Rattle.fbl_judge.specs.Dependents.{IsDependentSend}
use Rattle.fbl_judge.proofs.PathLaws.{by_send, by_stood}
use Rattle.fbl_judge.proofs.Places.{member_is, number_within, read_at}
use Rattle.fbl_judge.proofs.paths.place_before.Goals as goal

pub returns-in-Some : goal.returns-in-Some
returns-in-Some c =
    let run = c.args.pasts.now in
    let d = c.requires.depends in
    let is = subst (λ (o : Option ℕ). IsDependentSend run.entries d.0 d.1 o) c.in-Some.is (c.dependent_send.ensures d.0 d.1 d.2 d.3) in
    by_send run run.members c.entries-entries.ensures.rules.lawful.lawful c.args.receipt c.args.place d c.in-Some.send is

no_send : (o : Option ℕ) → ((p : ℕ) → ¬ (o ≡ Some p)) → o ≡ None
no_send None none = refl
no_send (Some p) none = absurd (none p refl)

pub returns : goal.returns
returns c =
    let run = c.args.pasts.now in
    let d = c.requires.depends in
    let own = c.member-member.ensures ∙ member_is run.entries c.args.place c.index-entries-place.result d.1 (read_at run.entries c.entries-entries.result.now c.args.place c.index-entries-place.result c.entries-entries.ensures.entries c.requires.place c.index-entries-place.is) d.3 in
    let no = subst (λ (o : Option ℕ). IsDependentSend run.entries d.0 d.1 o) (no_send c.dependent_send.result c.in_default.not-Some) (c.dependent_send.ensures d.0 d.1 d.2 d.3) in
    let m = c.member-member.result in
    let none = c.none.ensures m in
    let number = c.number-number.ensures d.1 d.3 in
    let reach : cut_of c.reaching-stood.result m ≡ max (cut_of c.none.result m) (c.number-number.result + 1) = c.reaching-stood.ensures m ∙ ap (λ b. max (cut_of c.none.result m) (cond b (c.number-number.result + 1) 0)) (eqb-self m) in
    by_stood run run.members c.entries-entries.ensures.rules.lawful.lawful c.args.receipt c.args.place d c.if-place-receipt.false no (cut_of c.reaching-stood.result) m own
    (omega (arith, reach, none, number)) c.first_dependent_place.result (c.first_dependent_place.ensures d.0 d.2)

pub prove-unreachable-requires : goal.prove-unreachable-requires
prove-unreachable-requires c =
    let es = c.args.pasts.now.entries in
    let d = c.requires.depends in
    let own = c.member-member.ensures ∙ member_is es c.args.place c.index-entries-place.result d.1 (read_at es c.entries-entries.result.now c.args.place c.index-entries-place.result c.entries-entries.ensures.entries c.requires.place c.index-entries-place.is) d.3 in
    let number = c.number-number.ensures d.1 d.3 in
    let within = number_within es c.args.place d.1 d.3 in
    let count : c.count-count.result ≡ length (log_of es d.1.member) = c.count-count.ensures ∙ ap (λ (es : List Entry). length (log_of es c.member-member.result)) c.index.ensures ∙ ap (λ (m : ℕ). length (log_of es m)) own in
    let past = c.if-prove.true in
    absurd (omega (arith, number, within, count, past))
