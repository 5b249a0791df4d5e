use Rattle.fbl_records.proofs.Common.{◌∙◌, ap, sym, number_data, option_map}
use Rattle.fbl_input.specs.Shapes.{byte_shape}
use Rattle.fbl_input.specs.declared.key.Key.TheVariants as keys
use Rattle.fbl_records.proofs.TokenLaws.{events_put, f_put, held_put, members_put, named, number_next, some_found, strike_put}
use Rattle.fbl_records.proofs.dump_tokens.Fields.take.Goals as goal

pub returns-then-eq : goal.returns-then-eq
returns-then-eq c = λ is.
    let found = some_found c.next_byte-self.result _ c.next_byte-self.ensures (sym c.is_some.ensures ∙ is) in
    let d = number_data found.0 in (
      d,
      number_next 126 byte_shape _ _ found.0 found.2,
      λ ms h. named c.args.key.now c.name.result.now keys.Members d ms _ c.if-eq.ensures c.name.ensures (members_put ms _ h d c.next_byte-self.result (found.2.3 ∙ sym found.1)),
    )

pub returns-then-eq-2 : goal.returns-then-eq-2
returns-then-eq-2 c = λ is.
    let found = some_found c.next_byte-self-then-eq-2.result _ c.next_byte-self-then-eq-2.ensures (sym c.is_some-then-eq-2.ensures ∙ is) in
    let d = number_data found.0 in (
      d,
      number_next 126 byte_shape _ _ found.0 found.2,
      λ ms h. named c.args.key.now c.name-2.result.now keys.F d ms _ c.if-eq-2.ensures c.name-2.ensures (f_put ms _ h d c.next_byte-self-then-eq-2.result (found.2.3 ∙ sym found.1)),
    )

pub returns-then-eq-3 : goal.returns-then-eq-3
returns-then-eq-3 c = λ is.
    let found = some_found c.in_ok-self.field-0 _ c.in_ok-self.ensures (sym c.is_some-then-eq-3.ensures ∙ is) in
    let d = found.2.0 in (
      d,
      found.2.1,
      λ ms h. named c.args.key.now c.name-3.result.now keys.Events d ms _ c.if-eq-3.ensures c.name-3.ensures (events_put ms _ h d c.in_ok-self.field-0 (found.2.2 ∙ ap (option_map (λ v. v.items)) (sym found.1))),
    )

pub returns-then-eq-4 : goal.returns-then-eq-4
returns-then-eq-4 c = λ is.
    let found = some_found c.in_ok-self-2.field-0 _ c.in_ok-self-2.ensures (sym c.is_some-then-eq-4.ensures ∙ is) in
    let d = found.2.0 in (
      d,
      found.2.1,
      λ ms h. named c.args.key.now c.name-4.result.now keys.Held d ms _ c.if-eq-4.ensures c.name-4.ensures (held_put ms _ h d c.in_ok-self-2.field-0 (found.2.2 ∙ ap (option_map (λ v. v.items)) (sym found.1))),
    )

pub returns-then-eq-5 : goal.returns-then-eq-5
returns-then-eq-5 c = λ is.
    let found = some_found c.in_ok-self-3.field-0 _ c.in_ok-self-3.ensures (sym c.is_some-then-eq-5.ensures ∙ is) in
    let d = found.2.0 in (
      d,
      found.2.1,
      λ ms h. named c.args.key.now c.name-5.result.now keys.Strike d ms _ c.if-eq-5.ensures c.name-5.ensures (strike_put ms _ h d c.in_ok-self-3.field-0 (found.2.2 ∙ sym found.1)),
    )
