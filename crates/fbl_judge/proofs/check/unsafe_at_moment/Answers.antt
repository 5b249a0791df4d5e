use Rattle.fbl_judge.proofs.Common.{ap, at, entry_member, log_of, refl, slice_get_within, ◌∙◌}
use Rattle.fbl_runs.specs.Clocks.{cut_of, seen}
use Rattle.fbl_runs.proofs.LeadsLaws.{here_stands}
use Rattle.std.specs.FinSet as set
use Rattle.fbl_judge.proofs.DependLaws.{least_within}
use Rattle.fbl_judge.proofs.check.unsafe_at_moment.Goals as goal

pub returns-in_err-candidate : goal.returns-in_err-candidate
returns-in_err-candidate c i stands = rw c.from_residual.ensures (c.in_err-candidate.ensures i stands)

pub named_place-requires-clause-receipt : goal.named_place-requires-clause-receipt
named_place-requires-clause-receipt c = slice_get_within c.args.pasts.now.entries c.args.place c.requires.receipt.0 c.requires.receipt.1

pub named_place-requires-clause-depends : goal.named_place-requires-clause-depends
named_place-requires-clause-depends c i stands = (c.in_ok-candidate.ensures i stands).0.is.moment.depends

pub orphans_at-requires-clause-place : goal.orphans_at-requires-clause-place
orphans_at-requires-clause-place c = slice_get_within c.args.pasts.now.entries c.args.place c.requires.receipt.0 c.requires.receipt.1

pub orphans_at-requires-clause-within : goal.orphans_at-requires-clause-within
orphans_at-requires-clause-within c q =
    let es = c.args.pasts.now.entries in
    let e = c.requires.receipt.0 in
    let i = at (entry_member e) (seen es c.args.place (entry_member e)) in
    let first = c.in_ok-candidate.ensures i (here_stands es c.args.place e c.requires.receipt.1) in
    least_within (log_of es) i c.in_ok-candidate.candidate.orphan (cut_of c.in_ok-candidate.candidate.moment) first.0.is.moment q

pub returns : goal.returns
returns c i stands =
    let candidate = c.in_ok-candidate.candidate in
    let first = c.in_ok-candidate.ensures i stands in
    let is = first.0.is in (
      candidate,
      first,
      record {
        at = c.named_place.result;
        listed = refl;
        named = c.named_place.ensures i stands;
        shown = c.with.ensures ∙ ap (λ s. set.insert s candidate.orphan) c.empty.ensures;
        strike = refl;
        says = record {
          place = refl;
          determinant = refl;
          moment = refl;
          stands = is.stands;
          strike = is.least;
          orphans = c.orphans_at.ensures i stands;
          some = (candidate.orphan, (c.orphans_at.ensures i stands candidate.orphan).1 (is.left, is.moment.depends));
        };
      },
    )
