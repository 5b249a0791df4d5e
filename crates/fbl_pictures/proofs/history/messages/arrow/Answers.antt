use Rattle.fbl_pictures.proofs.Common.{◌≡◌, ◌∙◌, refl, rules, same_message, sym}
use Rattle.std.specs.HashMap as hash_map
use Rattle.fbl_pictures.proofs.history.messages.arrow.Goals as goal

pub returns-in_ok-sent-in-Receipt : goal.returns-in_ok-sent-in-Receipt
returns-in_ok-sent-in-Receipt c =
    let place : c.copied.result ≡ hash_map.get same_message c.args.places.now (record { from = c.in-Receipt.from; ssn = c.in-Receipt.ssn }) = search rules in
    let sent = sym place ∙ c.copied.ensures ∙ sym c.in_ok-sent-in-Receipt.ensures in
    rw (c.in-Receipt.is, sent, c.kind_of_arrow.ensures, c.last_sent-start.ensures, c.comeback_of.ensures) refl
