use Rattle.fbl_order.proofs.Common.{List, Entry, ◌≡◌, ◌∙◌, ap, inr, items_at, parts_of_log, placed_of, record_given, slice_get_within, with_entries}
use Rattle.fbl_order.proofs.Independence.{answers_alike}
use Rattle.fbl_order.proofs.MergeLaws.{entries-kept, entries-order}
use Rattle.fbl_order.proofs.logs.order_log.Goals as goal

pub items_at-requires : goal.items_at-requires
items_at-requires c k p there =
    let e = c.in_ok-places.ensures.merges.places.each k p (rw c.as_slice.ensures.value at there) in slice_get_within c.as_slice-given.result.now p e.0 e.2

-- the entries in the order
are : (c : goal.After-drop-raw-in-Ok) → c.in_ok-entries.entries.items ≡ placed_of c.as_slice-given.result.now c.in_ok-places.field-0
are c = c.in_ok-entries.ensures ∙ ap (items_at c.as_slice-given.result.now) c.as_slice.ensures.value

pub returns-in-Ok-clause-rules : goal.returns-in-Ok-clause-rules
returns-in-Ok-clause-rules c = c.in-Ok.ensures.rules

pub returns-in-Ok-clause-order : goal.returns-in-Ok-clause-order
returns-in-Ok-clause-order c =
    let order = (entries-order c.args.raw.members c.args.raw.entries.items c.as_slice-given.result.now c.in_ok-entries.entries.items
    c.as_slice-given.ensures.value c.in_ok-places.field-0 c.in_ok-places.ensures.merges c.in_ok-places.ensures.all (are c)).0 in
    rw c.in-Ok.ensures.log order

pub returns-in-Ok-clause-kept : goal.returns-in-Ok-clause-kept
returns-in-Ok-clause-kept c stand =
    c.in-Ok.ensures.log ∙ ap (λ (es : List Entry). with_entries es (parts_of_log c.args.raw)) (entries-kept c.args.raw.members c.args.raw.entries.items
    c.as_slice-given.result.now c.in_ok-entries.entries.items c.as_slice-given.ensures.value c.in_ok-places.field-0 c.in_ok-places.ensures.merges
    c.in_ok-places.ensures.all (are c) stand)

pub returns-in-Ok-clause-answers : goal.returns-in-Ok-clause-answers
returns-in-Ok-clause-answers c entries other =
    answers_alike (parts_of_log c.args.raw) c.in-Ok.run' c.in_ok-entries.entries.items c.in-Ok.ensures.log (entries-order c.args.raw.members
    c.args.raw.entries.items c.as_slice-given.result.now c.in_ok-entries.entries.items c.as_slice-given.ensures.value c.in_ok-places.field-0
    c.in_ok-places.ensures.merges c.in_ok-places.ensures.all (are c)).0.logs entries other.logs

pub returns-clause-refused : goal.returns-clause-refused
returns-clause-refused c =
    let order = entries-order c.args.raw.members c.args.raw.entries.items c.as_slice-given.result.now c.in_ok-entries.entries.items
    c.as_slice-given.ensures.value c.in_ok-places.field-0 c.in_ok-places.ensures.merges c.in_ok-places.ensures.all
    (c.in_ok-entries.ensures ∙ ap (items_at c.as_slice-given.result.now) c.as_slice.ensures.value) in
    rw c.refusal_as_given.ensures (inr (
      c.in_default.ensures,
      inr (record {
        ordered = c.in_ok-entries.entries.items;
        order = order.0;
        places = c.in_ok-places.field-0.places.items;
        are_places = order.1;
        refusal = c.in-Err.refusal;
        broken = c.in-Err.breach;
        refuses = c.in-Err.ensures.refused;
        breaks = c.in-Err.ensures.breach;
        given = ap (λ places. record_given places c.in-Err.refusal c.in-Err.breach) c.as_slice-in-Err.ensures.value;
      }),
    ))
