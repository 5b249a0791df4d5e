-- The items of the lists that scripts and dumps have, and the keys of both.
use Rattle.std.specs.Prelude.{ℕ, List, [], ◌∷◌, Bool, true, false, not, Option, Some, None, is_some, option_and_then, option_map, codes, if◌then◌else◌}
use Rattle.std.specs.List.{position}
use Rattle.serde_json.specs.Data.{Data}
use Rattle.serde_json.specs.Find.{as_object, get}
use Rattle.fbl_trace.specs.declared.trace.Note.{Note}
use Rattle.fbl_trace.specs.declared.trace.Start.{Start}
use Rattle.fbl_trace.specs.declared.trace.Determinant.{Determinant}
use Rattle.fbl_trace.specs.declared.trace.Mark.{Mark}
use Rattle.fbl_trace.specs.declared.trace.Mark.TheVariants.{Send, Receipt}
use Rattle.fbl_runs.specs.declared.entry.Entry.{Entry}
use Rattle.fbl_runs.specs.declared.entry.Entry.TheVariants.{Event, Hold, LaterReceipt, Restart, Store, Tell, Told}
use Rattle.fbl_input.specs.declared.key.Key.{Key}
use Rattle.fbl_input.specs.declared.key.Key.TheVariants as keys
use Rattle.fbl_input.specs.declared.input_kind.InputKind.{InputKind}
use Rattle.fbl_input.specs.declared.input_kind.InputKind.TheVariants as kinds
use Rattle.fbl_input.specs.Shapes.{as_list, byte_shape, count_shape, is_text, member_shape, name_of, other_key}

-- `[from, to, value, hops]`
abbrev pub start_from : List Data → Option (Start Note)
start_from (from ∷ to ∷ value ∷ hops ∷ []) =
    option_and_then (λ p. option_and_then (λ q. option_and_then (λ v. option_map (λ h.
    record { from = p; to = q; note = record { value = v; hops = h } })
    (byte_shape hops)) (count_shape value)) (member_shape to)) (member_shape from)
start_from _ = None

abbrev pub start_shape : Data → Option (Start Note)
start_shape d = option_and_then start_from (as_list d)

-- `[holder, from, ssn, to, rsn]`
abbrev pub pair_from : List Data → Option (ℕ × Determinant)
pair_from (holder ∷ from ∷ ssn ∷ to ∷ rsn ∷ []) =
    option_and_then (λ h. option_and_then (λ p. option_and_then (λ s. option_and_then (λ q. option_map (λ r.
    (h, record { from = p; ssn = s; to = q; rsn = r }))
    (count_shape rsn)) (member_shape to)) (count_shape ssn)) (member_shape from)) (member_shape holder)
pair_from _ = None

abbrev pub pair_shape : Data → Option (ℕ × Determinant)
pair_shape d = option_and_then pair_from (as_list d)

-- `from, ssn, to` of a send
abbrev pub send_from : List Data → Option Entry
send_from (from ∷ ssn ∷ to ∷ []) =
    option_and_then (λ p. option_and_then (λ s. option_map (λ q. Event (Send p s q))
    (member_shape to)) (count_shape ssn)) (member_shape from)
send_from _ = None

-- `to, rsn, from, ssn` of a receipt
abbrev pub receipt_from : List Data → Option Entry
receipt_from (to ∷ rsn ∷ from ∷ ssn ∷ []) =
    option_and_then (λ p. option_and_then (λ r. option_and_then (λ q. option_map (λ s. Event (Receipt p r q s))
    (count_shape ssn)) (member_shape from)) (count_shape rsn)) (member_shape to)
receipt_from _ = None

-- `to, rsn, from, ssn, life` of a receipt that names a life of its sender
abbrev pub later_receipt_from : List Data → Option Entry
later_receipt_from (to ∷ rsn ∷ from ∷ ssn ∷ life ∷ []) =
    option_and_then (λ p. option_and_then (λ r. option_and_then (λ q. option_and_then (λ s. option_map (λ l.
    LaterReceipt (record { from = q; ssn = s; to = p; rsn = r }) l)
    (count_shape life)) (count_shape ssn)) (member_shape from)) (count_shape rsn)) (member_shape to)
later_receipt_from _ = None

-- those of a receipt that names a life or none
abbrev pub receipt_named : List Data → Option Entry
receipt_named (to ∷ rsn ∷ from ∷ ssn ∷ life ∷ []) = later_receipt_from (to ∷ rsn ∷ from ∷ ssn ∷ life ∷ [])
receipt_named rest = receipt_from rest

-- `member, life, receipts, sends` of a restart
abbrev pub restart_from : List Data → Option Entry
restart_from (member ∷ life ∷ receipts ∷ sends ∷ []) =
    option_and_then (λ m. option_and_then (λ l. option_and_then (λ r. option_map (λ s.
    Restart (record { member = m; life = l; receipts = r; sends = s }))
    (count_shape sends)) (count_shape receipts)) (count_shape life)) (member_shape member)
restart_from _ = None

-- `from, to, id` of a tell
abbrev pub tell_from : List Data → Option Entry
tell_from (from ∷ to ∷ id ∷ []) =
    option_and_then (λ p. option_and_then (λ q. option_map (λ i. Tell (record { from = p; to = q; id = i }))
    (count_shape id)) (member_shape to)) (member_shape from)
tell_from _ = None

-- `to, from, id` of what a member is told
abbrev pub told_from : List Data → Option Entry
told_from (to ∷ from ∷ id ∷ []) =
    option_and_then (λ q. option_and_then (λ p. option_map (λ i. Told (record { from = p; to = q; id = i }))
    (count_shape id)) (member_shape from)) (member_shape to)
told_from _ = None

-- the entry with the name, if it is a tell or a told: `["tell", from, to, id]` or `["told", to, from, id]`
abbrev pub control_named : Data → List Data → Option Entry
control_named name rest = if is_text (codes "tell") name then tell_from rest else (if is_text (codes "told") name then told_from rest else None)

-- the entry with the name: `["send", from, ssn, to]`, `["receipt", to, rsn, from, ssn]`, `["receipt", to, rsn, from, ssn, life]`,
-- `["restart", member, life, receipts, sends]`, `["hold", holder, from, ssn, to, rsn]`, `["store", member, from, ssn, to, rsn]`, or a
-- control message
abbrev pub entry_named : Data → List Data → Option Entry
entry_named name rest =
    if is_text (codes "send") name then send_from rest
    else (if is_text (codes "receipt") name then receipt_named rest
    else (if is_text (codes "restart") name then restart_from rest
    else (if is_text (codes "hold") name then option_map (λ h. Hold h.0 h.1) (pair_from rest)
    else (if is_text (codes "store") name then option_map (λ h. Store h.0 h.1) (pair_from rest) else control_named name rest))))

abbrev pub entry_from : List Data → Option Entry
entry_from [] = None
entry_from (name ∷ rest) = entry_named name rest

-- an entry of a recorded run
abbrev pub entry_shape : Data → Option Entry
entry_shape d = option_and_then entry_from (as_list d)

-- the send or receipt that the entry is, if it names no life
abbrev pub event_in : Entry → Option Mark
event_in (Event e) = Some e
event_in e = None

-- a send or a receipt, which names no life
abbrev pub event_shape : Data → Option Mark
event_shape d = option_and_then event_in (entry_shape d)

-- whether the value is an event of an input of this kind
abbrev pub is_event : InputKind → Data → Bool
is_event kinds.Log d = is_some (entry_shape d)
is_event kind d = is_some (event_shape d)

-- whether the value may stand in the list at the key; what a command is depends on the version, and is said elsewhere
abbrev pub is_item : InputKind → Key → Data → Bool
is_item kind keys.Start d = is_some (start_shape d)
is_item kind keys.Events d = is_event kind d
is_item kind keys.Held d = is_some (pair_shape d)
is_item kind keys.Strike d = is_some (member_shape d)
is_item kind key d = true

-- the keys that an input of this kind may have
abbrev pub known_keys : InputKind → List Key
known_keys kinds.Script = keys.Version ∷ keys.Members ∷ keys.F ∷ keys.Behaviour ∷ keys.Limit ∷ keys.Start ∷ keys.Commands ∷ []
known_keys kinds.Dump = keys.Members ∷ keys.F ∷ keys.Events ∷ keys.Held ∷ keys.Strike ∷ []
known_keys kinds.Log = keys.Version ∷ keys.Members ∷ keys.F ∷ keys.Events ∷ keys.Strike ∷ []

-- the first key of the value that an input of this kind may not have
abbrev pub unknown_key : InputKind → Data → Option (List ℕ)
unknown_key kind d = option_and_then (other_key (known_keys kind)) (as_object d)

-- the first place of the list at the key where something else stands
abbrev pub bad_place : InputKind → Key → Data → Option ℕ
bad_place kind key d = option_and_then (position (λ item. not (is_item kind key item))) (option_and_then as_list (get (name_of key) d))

-- whether it is a script, and not a dump of either version
abbrev pub is_script : InputKind → Bool
is_script kinds.Script = true
is_script kind = false
