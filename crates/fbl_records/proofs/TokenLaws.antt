-- What comes next of a dump, a token at a time.
use Rattle.fbl_records.proofs.Common.{◌≡◌, ◌∙◌, ◌<◌, ◌-◌, ◌==◌, ℕ, List, [], ◌∷◌, Bool, true, false, not, cond, Some, None, IfSome, Option, length, ap, arith, refl, subst, sym, option_and_then, option_map, nat_cmp}
use Rattle.fbl_records.proofs.Common.{Determinant, Mark, event_shape, list_data, list_of, name_of, number_data, pair_shape, set_shape}
use Rattle.std.proofs.Common.{◌^◌, is_some, slice_index, lt-ltb, ne_eqb, eq-eqb, Vec, Global}
use Rattle.std.specs.Ordering.{match_ordering}
use Rattle.std.specs.Str.{bytes_eq}
use Rattle.std.proofs.lemmas.Slice.Eq.{bytes_eq-Decides}
use Rattle.std.specs.Cmp.Lexicographic.{slice_cmp}
use Rattle.std.specs.FinSet as set
use Rattle.std.specs.declared.cmp.Ordering.{Ordering}
use Rattle.std.specs.declared.cmp.Ordering.TheVariants.{Equal, Greater, Less}
use Rattle.fast_float.specs.Text.{digits_of, scan}
use Rattle.json.specs.Json as json
use Rattle.json.specs.Json.{after_end_array, parse_map, read_key}
use Rattle.json.specs.Lex.{tokens}
use Rattle.json.specs.Token.{Token}
use Rattle.json.proofs.Grammar.{after_end_array-shorter, items_end, items_more, members_end, members_more, read_key-shorter, value-begin_array, value-begin_object, value_is}
use Rattle.serde_json.specs.Data.{Data, Members, member, no_members, object, put, string, unsigned}
use Rattle.serde_json.specs.Find.{get_member}
use Rattle.serde_json.specs.Read.{number_of, read}
use Rattle.serde_json.proofs.Views.{get_member-put, get_member-put_other}
use Rattle.fbl_input.specs.Items.{known_keys}
use Rattle.fbl_input.specs.Shapes.{byte_shape, is_key_of, other_key}
use Rattle.fbl_input.specs.declared.input_kind.InputKind.TheVariants as kinds
use Rattle.fbl_input.specs.declared.key.Key.{Key}
use Rattle.fbl_input.specs.declared.key.Key.TheVariants as keys
use Rattle.fbl_records.specs.declared.dump_tokens.Fields.{Fields}
use Rattle.fbl_records.specs.DumpTokens.{AreFieldsOf, AreMembersNext, AreNext, IsNext, IsNumberNext, field_of}

-- ---- numbers

-- digits that no sign, point or exponent stands by
pub number_spelled : (s : List ℕ) (n : ℕ) → (slice_index s 0 ≡ 45 → ⊥) → (0 < length (scan s).whole) × ((scan s).point ≡ false) × (length (scan s).exponent ≡ 0) → digits_of (scan s) ≡ n → n < 2 ^ 64
    → number_of s ≡ Some (unsigned n)
unfolding number_of
number_spelled s n positive whole is fits = rw (ne_eqb _ _ positive) (rw (lt-ltb _ _ whole.0, whole.1, eq-eqb _ 0 whole.2, is, lt-ltb _ _ fits))

-- ---- lists

pub list_over : (depth : ℕ) (old new : List Token) → after_end_array old ≡ Some new → AreNext depth old [] new
list_over depth old new e = (json.no_items, λ n enough. items_end (json.value depth) n old new enough e, refl, after_end_array-shorter old new e)

pub list_item : (depth : ℕ) (old mid new : List Token) (d : Data) (ds : List Data) → after_end_array old ≡ None → IsNext depth old d mid → AreNext depth mid ds new → AreNext depth old (d ∷ ds) new
list_item depth old mid new d ds going next rest = (
  json.item next.0 rest.0,
  λ n enough. items_more (json.value depth) n old mid next.0 (omega (arith, next.3, enough)) going next.1 ∙ ap (parse_map (json.item next.0)) (rest.1 (n - 1) (omega (arith, next.3, enough))),
  rw (next.2, rest.2),
  omega (arith, next.3, rest.3),
)

pub number_next : (depth : ℕ) (shape : Data → Option ℕ) (old new : List Token) (n : ℕ) → IsNumberNext shape old n new → IsNext depth old (number_data n) new
number_next depth shape old new n h = (json.number h.0, rw (h.1, value_is depth (Token.number h.0 ∷ new)), rw h.2, rw h.1 (omega arith))

pub number_item : (depth : ℕ) (shape : Data → Option ℕ) (old mid new : List Token) (n : ℕ) (ds : List Data) → IsNumberNext shape old n mid → AreNext depth mid ds new → AreNext depth old (number_data n ∷ ds) new
number_item depth shape old mid new n ds h = list_item depth old mid new (number_data n) ds (rw h.1) (number_next depth shape old mid n h)

pub string_item : (depth : ℕ) (old mid new : List Token) (s : List ℕ) (ds : List Data) → old ≡ Token.string s ∷ mid → AreNext depth mid ds new → AreNext depth old (string s ∷ ds) new
string_item depth old mid new s ds e = list_item depth old mid new (string s) ds (rw e) (json.string s, rw (e, value_is depth (Token.string s ∷ mid)), refl, rw e (omega arith))

pub list_next : (depth : ℕ) (old mid new : List Token) (ds : List Data) → 0 < depth → old ≡ Token.begin_array ∷ mid → AreNext (depth - 1) mid ds new → IsNext depth old (list_data ds) new
list_next depth old mid new ds some e rest = (
  json.array rest.0,
  ap (json.value depth) e ∙ value-begin_array depth mid some ∙ ap (parse_map json.array) (rest.1 (length mid) (omega arith)),
  rw rest.2,
  rw e (omega (arith, rest.3)),
)

-- ---- objects

pub object_over : (depth : ℕ) (old new : List Token) (ms : Members) → read_key old ≡ Some (None, new) → AreMembersNext depth old ms ms new
object_over depth old new ms e = (json.no_members, λ n enough. members_end (json.value depth) n old new enough e, refl, read_key-shorter old None new e)

pub object_member : (depth : ℕ) (old mid behind new : List Token) (k : List ℕ) (d : Data) (found ms : Members) → read_key old ≡ Some (Some k, mid) → IsNext depth mid d behind
    → AreMembersNext depth behind (put k d found) ms new → AreMembersNext depth old found ms new
object_member depth old mid behind new k d found ms e next rest =
    let shorter = read_key-shorter old (Some k) mid e in (
      json.member k next.0 rest.0,
      λ n enough. members_more (json.value depth) n k old mid behind next.0 (omega (arith, shorter, enough)) e next.1 ∙ ap (parse_map (json.member k next.0)) (rest.1 (n - 1) (omega (arith, shorter, next.3, enough))),
      rw (next.2, rest.2),
      omega (arith, shorter, next.3, rest.3),
    )

pub object_next : (depth : ℕ) (old mid new : List Token) (ms : Members) → 0 < depth → old ≡ Token.begin_object ∷ mid → AreMembersNext (depth - 1) mid no_members ms new → IsNext depth old (object ms) new
object_next depth old mid new ms some e rest = (
  json.object rest.0,
  ap (json.value depth) e ∙ value-begin_object depth mid some ∙ ap (parse_map json.object) (rest.1 (length mid) (omega arith)),
  rw rest.2,
  rw e (omega (arith, rest.3)),
)

-- what comes first of a text is its value where nothing comes behind
pub text_read : (text : List ℕ) (d : Data) (old new : List Token) → old ≡ tokens text → IsNext 127 old d new → new ≡ [] → read text ≡ Some d
text_read text d old new e next over = rw (← e, next.1, over) next.2

-- ---- fields

abbrev known : List Key
known = known_keys kinds.Dump

is_first : (is : Bool) (k : List ℕ) (rest : Option (List ℕ)) → cond (not is) (Some k) rest ≡ None → (is ≡ true) × (rest ≡ None)
is_first true k rest e = (refl, e)
is_first false k rest e = absurd (cc)

known_put_at : (o : Ordering) (k l : List ℕ) (d x : Data) (ms : Members) → is_key_of known k ≡ true → other_key known (member l x ms) ≡ None → other_key known (put k d ms) ≡ None
    → other_key known (match_ordering o (member k d (member l x ms)) (member l d ms) (member l x (put k d ms))) ≡ None
known_put_at Less k l d x ms is e later = rw is e
known_put_at Equal k l d x ms is e later = e
known_put_at Greater k l d x ms is e later = rw (is_first (is_key_of known l) l (other_key known ms) e).0 later

known_put : (k : List ℕ) (d : Data) (ms : Members) → is_key_of known k ≡ true → other_key known ms ≡ None → other_key known (put k d ms) ≡ None
known_put k d no_members is e = rw is
known_put k d (member l x ms) is e = known_put_at (slice_cmp nat_cmp k l) k l d x ms is e (known_put k d ms is (is_first (is_key_of known l) l (other_key known ms) e).1)

kept : (q k : List ℕ) (d : Data) (ms : Members) → (slice_index q 0 == slice_index k 0) ≡ false → get_member q (put k d ms) ≡ get_member q ms
kept q k d ms apart = get_member-put_other q k d ms (λ e. let same = eq-eqb (slice_index q 0) (slice_index k 0) (ap (λ s. slice_index s 0) e) in absurd (cc))

module _ (ms : Members) (fields : Fields) (h : AreFieldsOf ms fields) (d : Data) where
  abbrev others : Key → Members
  others k = put (name_of k) d ms

  abbrev IsApart : Key → Key → Type 0
  IsApart q k = (slice_index (name_of q) 0 == slice_index (name_of k) 0) ≡ false

  other : {A : Type 0} (q k : Key) (shape : Data → Option A) → IsApart q k → field_of q shape ms ≡ field_of q shape (others k)
  other q k shape apart = ap (option_and_then shape) (sym (kept (name_of q) (name_of k) d ms apart))

  version_kept : (k : Key) → IsApart keys.Version k → get_member (name_of keys.Version) (others k) ≡ None
  version_kept k apart = kept (name_of keys.Version) (name_of k) d ms apart ∙ h.version

  new : {A : Type 0} (k : Key) (shape : Data → Option A) (x : Option A) → shape d ≡ x → x ≡ field_of k shape (others k)
  new k shape x is = sym (ap (option_and_then shape) (get_member-put (name_of k) d ms) ∙ is)

  pub members_put : (r : Option ℕ) → byte_shape d ≡ r → AreFieldsOf (others keys.Members) (record fields { members = r })
  members_put r is = record {
    members = new keys.Members byte_shape r is;
    f = h.f ∙ other keys.F keys.Members byte_shape refl;
    events = h.events ∙ other keys.Events keys.Members (list_of event_shape) refl;
    held = h.held ∙ other keys.Held keys.Members (list_of pair_shape) refl;
    strike = h.strike ∙ other keys.Strike keys.Members set_shape refl;
    version = version_kept keys.Members refl;
    others = known_put (name_of keys.Members) d ms refl h.others;
  }

  pub f_put : (r : Option ℕ) → byte_shape d ≡ r → AreFieldsOf (others keys.F) (record fields { f = r })
  f_put r is = record {
    members = h.members ∙ other keys.Members keys.F byte_shape refl;
    f = new keys.F byte_shape r is;
    events = h.events ∙ other keys.Events keys.F (list_of event_shape) refl;
    held = h.held ∙ other keys.Held keys.F (list_of pair_shape) refl;
    strike = h.strike ∙ other keys.Strike keys.F set_shape refl;
    version = version_kept keys.F refl;
    others = known_put (name_of keys.F) d ms refl h.others;
  }

  pub events_put : (r : Option (Vec Mark Global)) → list_of event_shape d ≡ option_map (λ v. v.items) r → AreFieldsOf (others keys.Events) (record fields { events = r })
  events_put r is = record {
    members = h.members ∙ other keys.Members keys.Events byte_shape refl;
    f = h.f ∙ other keys.F keys.Events byte_shape refl;
    events = new keys.Events (list_of event_shape) _ is;
    held = h.held ∙ other keys.Held keys.Events (list_of pair_shape) refl;
    strike = h.strike ∙ other keys.Strike keys.Events set_shape refl;
    version = version_kept keys.Events refl;
    others = known_put (name_of keys.Events) d ms refl h.others;
  }

  pub held_put : (r : Option (Vec (ℕ × Determinant) Global)) → list_of pair_shape d ≡ option_map (λ v. v.items) r → AreFieldsOf (others keys.Held) (record fields { held = r })
  held_put r is = record {
    members = h.members ∙ other keys.Members keys.Held byte_shape refl;
    f = h.f ∙ other keys.F keys.Held byte_shape refl;
    events = h.events ∙ other keys.Events keys.Held (list_of event_shape) refl;
    held = new keys.Held (list_of pair_shape) _ is;
    strike = h.strike ∙ other keys.Strike keys.Held set_shape refl;
    version = version_kept keys.Held refl;
    others = known_put (name_of keys.Held) d ms refl h.others;
  }

  pub strike_put : (r : Option (set.FinSet nat_cmp)) → set_shape d ≡ r → AreFieldsOf (others keys.Strike) (record fields { strike = r })
  strike_put r is = record {
    members = h.members ∙ other keys.Members keys.Strike byte_shape refl;
    f = h.f ∙ other keys.F keys.Strike byte_shape refl;
    events = h.events ∙ other keys.Events keys.Strike (list_of event_shape) refl;
    held = h.held ∙ other keys.Held keys.Strike (list_of pair_shape) refl;
    strike = new keys.Strike set_shape r is;
    version = version_kept keys.Strike refl;
    others = known_put (name_of keys.Strike) d ms refl h.others;
  }

-- what is found
pub some_found : {A : Type 0} (r : Option A) (P : A → Type 0) → IfSome r P → is_some r ≡ true → (x : A) × (r ≡ Some x) × P x
some_found None P h is = absurd (cc)
some_found (Some x) P h is = (x, refl, h)

-- a member whose name is that of the key
pub named : (k name : List ℕ) (key : Key) (d : Data) (ms : Members) (fields : Fields) → true ≡ bytes_eq k name → name ≡ name_of key → AreFieldsOf (put (name_of key) d ms) fields → AreFieldsOf (put k d ms) fields
named k name key d ms fields same is h = subst (λ x. AreFieldsOf (put x d ms) fields) (sym ((bytes_eq-Decides k name).0 (sym same) ∙ is)) h

-- of an object without members nothing is read
pub no_fields : AreFieldsOf no_members (record { members = None; f = None; events = None; held = None; strike = None })
no_fields = record { members = refl; f = refl; events = refl; held = refl; strike = refl; version = refl; others = refl }
