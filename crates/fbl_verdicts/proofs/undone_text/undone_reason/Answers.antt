use Rattle.fbl_verdicts.proofs.Common.{true, ◌≡◌, refl, subst}
use Rattle.std.specs.FinSet as set
use Rattle.fbl_runs.specs.Clocks.{cut_of}
use Rattle.fbl_runs.specs.Entries.{log_of}
use Rattle.fbl_runs.specs.Moments.{Cut, last_cut}
use Rattle.fbl_judge.specs.Paths.{ArePathsFrom, DependsIn}
use Rattle.fbl_judge.proofs.Places.{place_within}
use Rattle.fbl_judge.proofs.PathLaws.{same_paths}
use Rattle.fbl_verdicts.proofs.undone_text.undone_reason.Goals as goal

pub moment_of-moment-requires : goal.moment_of-moment-requires
moment_of-moment-requires c = (let r = c.requires.1.restart in place_within c.args.pasts.now.entries c.args.receipt.now.at r.0 r.1)

pub paths_to-requires : goal.paths_to-requires
paths_to-requires c = place_within c.args.pasts.now.entries c.args.receipt.now.place c.requires.0 c.requires.1.place

pub returns : goal.returns
returns c =
    let run = c.args.pasts.now in
    let said = c.args.receipt.now in
    let i = c.requires.0 in
    let says = c.requires.1 in
    let r = says.restart in
    let logs = log_of run.entries in
    let cut = cut_of c.moment_of-moment.result in
    let end : cut_of c.last-last.result ≡ last_cut logs = (λ x q. c.last-last.ensures q x) in
    let paths = subst (λ (cut : Cut). ArePathsFrom run i cut (DependsIn run i cut said.orphans) 0 c.in_ok-paths.paths.items) end (c.in_ok-paths.ensures i says.place) in
    record {
      receipt = refl;
      position = i;
      says = says;
      restart = r.0;
      at = r.1;
      cut = cut;
      moment = c.moment_of-moment.ensures r.0 r.1;
      stored = c.recorded_at-recorded.ensures.stored;
      holders = c.recorded_at-recorded.ensures.holders;
      paths = same_paths run i (last_cut logs) (DependsIn run i (last_cut logs) said.orphans) (λ q. set.contains said.orphans q ≡ true)
          (λ q. (λ h. h.0, λ h. (h, ((says.orphans q).0 h).1))) 0 c.in_ok-paths.paths.items paths;
    }
