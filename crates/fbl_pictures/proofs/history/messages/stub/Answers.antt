use Rattle.fbl_pictures.proofs.Common.{◌≡◌, ◌∙◌, refl, same_message, sym, true}
use Rattle.std.specs.HashSet as hash_set
use Rattle.fbl_pictures.proofs.history.messages.stub.Goals as goal

pub returns-then-undone : goal.returns-then-undone
returns-then-undone c = rw (c.in-Send.is, c.if-undone.true) refl

pub returns-then-contains : goal.returns-then-contains
returns-then-contains c =
    let has : hash_set.contains same_message c.args.received.now (record { from = c.in-Send.from; ssn = c.in-Send.ssn }) ≡ true = sym c.contains.ensures ∙ c.if-contains.true in
    rw (c.in-Send.is, c.if-undone.false, has) refl
