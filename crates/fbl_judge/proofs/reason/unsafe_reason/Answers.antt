use Rattle.fbl_judge.proofs.Common.{refl, cut_of}
use Rattle.fbl_judge.specs.Reasons.{IsUnsafeReason}
use Rattle.fbl_judge.proofs.Places.{place_within}
use Rattle.fbl_judge.proofs.ReasonLaws.{ok_both, said_within, same_reason, shown_depends}
use Rattle.fbl_judge.proofs.reason.unsafe_reason.Goals as goal

pub reason_at-requires-clause-place : goal.reason_at-requires-clause-place
reason_at-requires-clause-place c = place_within c.args.pasts.now.entries c.args.receipt.now.place c.requires.0 c.requires.1.place

pub reason_at-requires-clause-within : goal.reason_at-requires-clause-within
reason_at-requires-clause-within c = said_within c.args.pasts.now c.requires.0 c.args.receipt.now c.requires.1

pub returns : goal.returns
returns c =
    let run = c.args.pasts.now in
    let said = c.args.receipt.now in
    let i = c.requires.0 in
    let says = c.requires.1 in
    ok_both _ _ (IsUnsafeReason run said) c.reason_at.result c.reason_at.ensures.receipt (c.reason_at.ensures.reason i says.place) (λ reason is why. record {
      place = is.0;
      determinant = is.1;
      at = is.2;
      strike = is.3;
      receipt = i;
      says = says;
      why = same_reason run i (cut_of said.moment) (cut_of said.moment) _ _ reason refl (λ q. (λ h. h.0, λ h. (h, shown_depends run i said says q h))) why;
    })
