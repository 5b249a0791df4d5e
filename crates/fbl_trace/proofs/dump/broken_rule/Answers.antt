use Rattle.fbl_trace.proofs.Common.{◌∙◌, arith, false≢true, sym}
use Rattle.fbl_trace.proofs.DumpLaws.{Decides-is_received}
use Rattle.fbl_trace.proofs.dump.broken_rule.Goals as goal

pub returns-then-not-contains : goal.returns-then-not-contains
returns-then-not-contains c =
    let received = Decides-is_received c.args.raw.now.events.items c.args.pair.now.1 in
    (omega arith, omega arith, c.receipt.ensures, λ has. false≢true (sym c.if-not-contains.true ∙ c.contains.ensures ∙ c.requires c.args.pair.now.1 ∙ received.1 (rw c.receipt.ensures at has)))

pub returns : goal.returns
returns c =
    (omega arith, omega arith, (Decides-is_received c.args.raw.now.events.items c.args.pair.now.1).0 (sym (c.contains.ensures ∙ c.requires c.args.pair.now.1) ∙ c.if-not-contains.false))
