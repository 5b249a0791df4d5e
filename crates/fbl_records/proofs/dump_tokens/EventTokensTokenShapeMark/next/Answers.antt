use Rattle.fbl_records.proofs.Common.{◌∷◌, arith, elements_of, list_data}
use Rattle.std.proofs.lemmas.Option.{IfSome_then}
use Rattle.serde_json.specs.Data.{string}
use Rattle.fbl_records.proofs.TokenLaws.{list_next, string_item}
use Rattle.fbl_records.proofs.dump_tokens.EventTokensTokenShapeMark.next.Goals as goal

pub returns-then-eq : goal.returns-then-eq
returns-then-eq c =
    let name = c.in-String.name.now in
    let token = rw c.in-String.is at c.in_ok-name.ensures.value in
    IfSome_then c.next_send.result c.next_send.ensures (λ event h. (
      list_data (string name ∷ h.0),
      list_next 125 _ _ _ (string name ∷ h.0) (omega arith) c.in_ok-begin_list.ensures (string_item 124 _ _ _ _ h.0 token h.1),
      rw (elements_of h.0, ← c.if-eq.ensures, h.2),
    ))

pub returns-then-eq-2 : goal.returns-then-eq-2
returns-then-eq-2 c =
    let name = c.in-String.name.now in
    let token = rw c.in-String.is at c.in_ok-name.ensures.value in
    IfSome_then c.next_receipt.result c.next_receipt.ensures (λ event h. (
      list_data (string name ∷ h.0),
      list_next 125 _ _ _ (string name ∷ h.0) (omega arith) c.in_ok-begin_list.ensures (string_item 124 _ _ _ _ h.0 token h.1),
      rw (elements_of h.0, ← c.if-eq.ensures, ← c.if-eq-2.ensures, h.2),
    ))
