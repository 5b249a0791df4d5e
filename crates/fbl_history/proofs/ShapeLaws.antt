-- Each event of a history has its mark, each receipt its arrow from the send of its message, and a member's line is dashed exactly
-- while the member is down.
use Rattle.fbl_trace.specs.MemberSets.{member_list}
use Rattle.fbl_history.specs.declared.column.Column.TheVariants as columns
use Rattle.fbl_history.specs.declared.shape.Shape.TheVariants as shapes
use Rattle.fbl_history.specs.HistoryShapes.{history_marks}
use Rattle.fbl_history.specs.ShapeLaws.{is_arrow_to, is_before, is_dashed, is_mark_in, leads_to, ComesFromItsSend, HasArrowFromItsSend, IsDashedWhileDown, IsDownBefore}
use Rattle.fbl_history.specs.ShapeLaws.{IsLastSend, IsRecoveredAt, IsSentAgainAt, IsSentAt, IsStruckAt, MarksEachEvent}
use Rattle.fbl_history.proofs.Common.{ℕ, zero, suc, ◌+◌, ◌<◌, ◌≤◌, ◌≡◌, ◌⊎◌, ◌↔◌, not, Bool, true, false, cond, inl, inr, List, [], ◌∷◌, length, take, get_or, Option, Some, None}
use Rattle.fbl_history.proofs.Common.{slice_get, beq, fold, slice_get-get_or, get_or_from_slice_get, subst, filter, max, refl, sym, ap, ◌∙◌, append-nil, arith, cases_lt, lt-ltb, le-ltb, eqb-self, ne_eqb}
use Rattle.fbl_history.proofs.Common.{or_left, or_right, option_to_list, Decides-and, Decides-not, Decides-or, Column, Shape, ReceiptsFollowSends, arrow_between, arrow_kind}
use Rattle.fbl_history.proofs.Common.{back_before, brings_back, column_marks, history_member_shapes, is_back, is_comeback, is_down_after, label_and_names, last_sent, later, line_kind_of, line_parts}
use Rattle.fbl_history.proofs.Common.{event_mark, receipt_arrow, recovery_mark, sends, sent_before, strike_mark, strikes}
use Rattle.fbl_history.proofs.Common.{◌==◌, ◌++◌, ◌≢◌, booleans_Decides, not-false, take_more, fold_push, Decides, Decides-eqb, same_message, MessageName}
use Rattle.fbl_history.proofs.Lasts.{last_is, last_some, later_is}
use Rattle.fbl_history.proofs.Layers.{arrow_none, arrows_none, drawn_one, filter_map_none, filter_none, filter_nothing, layers, members_none, names_none, numbers_one, parts_none, stubs_none}

-- ---- one column more, and messages that have one name

-- what is folded up to a column of a history
fold_more : (columns : List Column) (i : ℕ) (c : Column) → i < length columns → c ≡ get_or columns i c → {B : Type 0} (f : B → Column → B) (b : B)
    → fold f b (take (i + 1) columns) ≡ f (fold f b (take i columns)) c
fold_more columns i c within is f b = ap (fold f b) (take_more columns i c within ∙ ap (λ x. take i columns ++ x ∷ []) (sym is)) ∙ fold_push f b (take i columns) c

agree : (a b : Bool) → not (beq a b) ≡ false → a ≡ b
agree a b test = (booleans_Decides a b).0 (not-false (beq a b) test)

pub Decides-same_message : (a b : MessageName) → Decides (same_message a b) (a ≡ b)
Decides-same_message a b =
    let both = Decides-and (a.from == b.from) _ (Decides-eqb a.from b.from) (Decides-eqb a.ssn b.ssn) in (
      λ h. (let e = both.0 h in λ i. record { from = e.0 i; ssn = e.1 i }),
      λ e. both.1 (ap (λ (m : MessageName). m.from) e, ap (λ (m : MessageName). m.ssn) e),
    )

-- ---- events

marks-here : (place : ℕ) (c : Column) → filter (is_mark_in place) (column_marks place c) ≡ option_to_list (event_mark place c)
marks-here place (columns.Strike struck) = filter_map_none (is_mark_in place) (strike_mark place) (member_list struck) (λ q. rw (eqb-self place) refl)
marks-here place (columns.Recovery replays) = filter_map_none (is_mark_in place) (recovery_mark place) replays.items (λ q. rw (eqb-self place) refl)
marks-here place m = rw (eqb-self place) refl

-- and in another column no mark is one of these
marks-elsewhere : (place i : ℕ) → i ≢ place → (c : Column) → filter (is_mark_in place) (column_marks i c) ≡ []
marks-elsewhere place i apart (columns.Strike struck) = filter_map_none (is_mark_in place) (strike_mark i) (member_list struck) (λ q. rw (ne_eqb i place apart) refl)
marks-elsewhere place i apart (columns.Recovery replays) = filter_map_none (is_mark_in place) (recovery_mark i) replays.items (λ q. rw (ne_eqb i place apart) refl)
marks-elsewhere place i apart m = rw (ne_eqb i place apart) refl

pub marks_each_event : (history : List Column) → MarksEachEvent history
unfolding history_marks
marks_each_event history place column at =
    let here : place ≡ 0 + place = omega arith in
    drawn_one (is_mark_in place) column_marks place (λ i c apart. marks-elsewhere place i apart c) 0 place history column at here ∙ marks-here place column

-- ---- messages

-- whether a column sends a message tells whether it is a send of it
sends-at : (history : List Column) (from ssn k : ℕ) (o : Option Column) → slice_get history k ≡ o → sends (record { from = from; ssn = ssn }) o ≡ true → IsSentAt history from ssn k
sends-at history from ssn k (Some (columns.Send q s to undone)) at same =
    let e = (Decides-same_message (record { from = q; ssn = s }) (record { from = from; ssn = ssn })).0 same in
    (to, undone, at ∙ (λ i. Some (columns.Send (e i).from (e i).ssn to undone)))
sends-at history from ssn k _ at same = absurd cc

at-sends : (history : List Column) (from ssn k : ℕ) → IsSentAt history from ssn k → sends (record { from = from; ssn = ssn }) (slice_get history k) ≡ true
at-sends history from ssn k sent = rw sent.2 ((Decides-same_message (record { from = from; ssn = ssn }) (record { from = from; ssn = ssn })).1 refl)

-- whether a column brings a member back tells whether it is a recovery of it
comeback-at : (history : List Column) (m k : ℕ) (o : Option Column) → slice_get history k ≡ o → is_comeback m o ≡ true
    → (replays : _) × (slice_get history k ≡ Some (columns.Recovery replays)) × (is_back m replays.items ≡ true)
comeback-at history m k (Some (columns.Recovery replays)) at back = (replays, at, back)
comeback-at history m k _ at back = absurd cc

module _ (history : List Column) (from ssn to place : ℕ) (undone : Bool) where
  -- the last recovery of an end before the receipt
  again-at : (t : ℕ) → later (back_before history place from) (back_before history place to) ≡ Some t → (t < place) × IsSentAgainAt history from to t
  again-at t is = elim (later_is (back_before history place from) (back_before history place to) t is) [
    | inl by_from ↦
        let known = last_is (λ k. is_comeback from (slice_get history k)) place t by_from in
        let at = comeback-at history from t (slice_get history t) refl known.1 in
        (known.0, (at.0, at.1, or_left _ _ at.2))
    | inr by_to ↦
        let known = last_is (λ k. is_comeback to (slice_get history k)) place t by_to in
        let at = comeback-at history to t (slice_get history t) refl known.1 in
        (known.0, (at.0, at.1, or_right _ _ at.2))
  ]

  -- where the message was sent the arrow starts, or where it was sent again
  abbrev Arrives : Option ℕ → Option ℕ → Type 0
  Arrives sent back = (start : ℕ) × (again : Bool) × ComesFromItsSend history from ssn to place start again
      × (filter (is_arrow_to place) (option_to_list (arrow_between sent back from to place undone))
      ≡ shapes.Arrow from start to place (arrow_kind again undone) ∷ [])

  arrives : (s : ℕ) (b : Option ℕ) → IsLastSend history from ssn place s → ((t : ℕ) → b ≡ Some t → (t < place) × IsSentAgainAt history from to t) → Arrives (Some s) b
  arrives s b last back = elim (cases_lt s (last_sent s b)) [
    | inl behind ↦
        let again = sent-again s b behind back in
        (last_sent s b, true, (s, last, inr (refl, behind, again.0, again.1)), rw (eqb-self place, lt-ltb s (last_sent s b) behind) refl)
    | inr past ↦
        let same : last_sent s b ≡ s = omega (arith, past, no-earlier s b) in
        (s, false, (s, last, inl (refl, refl)), rw (eqb-self place, le-ltb s (last_sent s b) past, same) refl)
  ] where
    no-earlier : (s : ℕ) (b : Option ℕ) → s ≤ last_sent s b
    no-earlier s None = omega arith
    no-earlier s (Some t) = grind arith

    sent-again : (s : ℕ) (b : Option ℕ) → s < last_sent s b → ((t : ℕ) → b ≡ Some t → (t < place) × IsSentAgainAt history from to t)
        → (last_sent s b < place) × IsSentAgainAt history from to (last_sent s b)
    sent-again s None behind back = absurd (omega (arith, behind))
    sent-again s (Some t) behind back = (let top : t ≡ max s t = grind (arith, behind) in rw (← top) (back t refl))

  -- a message that is received was sent before
  was_sent : (sent : ℕ) → sent < place → IsSentAt history from ssn sent
      → (t : ℕ) × (sent_before history place (record { from = from; ssn = ssn }) ≡ Some t) × IsLastSend history from ssn place t
  was_sent sent before at =
      let test : ℕ → Bool = λ k. sends (record { from = from; ssn = ssn }) (slice_get history k) in
      let last = last_some test place sent before (at-sends history from ssn sent at) in
      let known = last_is test place last.0 last.1 in (
        last.0,
        last.1,
        (
          known.0,
          sends-at history from ssn last.0 (slice_get history last.0) refl known.1,
          λ k behind below sent_later. (let clash = at-sends history from ssn k sent_later in let none = known.2 k behind below in cc),
        ),
      )

pub has_arrow_from_its_send : (members : ℕ) (history : List Column) → ReceiptsFollowSends history → HasArrowFromItsSend members history
has_arrow_from_its_send members history follow place to rsn from ssn state undone at =
    let p = is_arrow_to place in
    let before = follow place to rsn from ssn state undone at in
    let sent = was_sent history from ssn to place undone before.0 before.1 (to, before.2, before.3) in
    let back = later (back_before history place from) (back_before history place to) in
    let arrow = arrives history from ssn to place undone sent.0 back sent.2 (again-at history from ssn to place undone) in
    let here : place ≡ 0 + place = omega arith in (
      arrow.0,
      arrow.1,
      arrow.2,
      rw (
        layers p history members,
        members_none p history (λ m s. refl) (λ i m. refl) (λ m s e k. refl) members,
        stubs_none p history (λ f s t a u. refl),
      )
          (simp append-nil (drawn_one p (receipt_arrow history) place (λ i c apart. arrow_none p i (λ f s t k. ne_eqb i place apart) (sent_before history i) (back_before history i) c)
          0 place history (columns.Receipt to rsn from ssn state undone) at here
          ∙ ap (λ o. filter p (option_to_list (arrow_between o back from to place undone))) sent.1
          ∙ arrow.3)),
    )

-- ---- the parts of a line

module _ (member place : ℕ) where
  dashed-is : (start : Option ℕ) (end : ℕ) (down : Bool) → is_dashed (shapes.Line member start end (line_kind_of down)) ≡ down
  dashed-is start end true = refl
  dashed-is start end false = refl

  -- parts that start at the column or behind it don't lead there
  late : (start i : ℕ) (down : Bool) (xs : List Column) → place ≤ start → start < i
      → filter (leads_to member place) (line_parts member (Some start) down i xs) ≡ []
  late start i down [] from below = rw (eqb-self member, le-ltb start place from) refl
  late start i down (x ∷ xs) from below =
      let turned = late i (i + 1) (is_down_after member down x) xs (omega (arith, from, below)) (omega arith) in
      let same = late start (i + 1) down xs from (omega (arith, below)) in
      grind (arith, eqb-self member, le-ltb start place from, turned, same)

  -- one of the parts leads to the column, dashed where the member is down before it
  abbrev Leads : List Shape → Bool → Type 0
  Leads parts down = (part : Shape) × (filter (leads_to member place) parts ≡ part ∷ []) × (is_dashed part ≡ down)

  by_turn : (b : Bool) (turned same : List Shape) (down : Bool) → (b ≡ true → Leads turned down) → (b ≡ false → Leads same down) → Leads (cond b turned same) down
  by_turn true turned same down f g = f refl
  by_turn false turned same down f g = g refl

  -- the next part, which does not end before it
  here : (start : Option ℕ) (down : Bool) (i : ℕ) (xs : List Column) → is_before place start ≡ true → place ≤ i → Leads (line_parts member start down i xs) down
  here start down i [] before past =
      (shapes.Line member start i (line_kind_of down), rw (eqb-self member, before, le-ltb i place past) refl, dashed-is start i down)
  here start down i (x ∷ xs) before past =
      let after = is_down_after member down x in
      by_turn (not (beq after down)) _ _ down (λ _. (
        shapes.Line member start i (line_kind_of down),
        rw (eqb-self member, before, le-ltb i place past) (ap (λ s. shapes.Line member start i (line_kind_of down) ∷ s) (late i (i + 1) after xs past (omega arith))),
        dashed-is start i down,
      )) (λ _. here start down (i + 1) xs before (omega (arith, past)))

  -- a later one
  leads : (n : ℕ) (start : Option ℕ) (down : Bool) (i : ℕ) (xs : List Column) → is_before place start ≡ true → place ≡ i + n → n ≤ length xs
      → Leads (line_parts member start down i xs) (fold (is_down_after member) down (take n xs))
  leads zero start down i xs before is within = here start down i xs before (omega (arith, is))
  leads (suc n) start down i [] before is within = absurd (omega (arith, within))
  leads (suc n) start down i (x ∷ xs) before is within =
      let after = is_down_after member down x in
      by_turn (not (beq after down)) _ _ _ (λ _. let next = leads n (Some i) after (i + 1) xs (lt-ltb i place (omega (arith, is))) (omega (arith, is)) (omega (arith, within)) in
      (next.0, rw (eqb-self member, before, lt-ltb i place (omega (arith, is))) next.1, next.2))
      (λ stays. subst (λ d. Leads (line_parts member start down (i + 1) xs) (fold (is_down_after member) d (take n xs))) (sym (agree after down stays))
      (leads n start down (i + 1) xs before (omega (arith, is)) (omega (arith, within))))

-- ---- when a member is down

some-is : (a b : Column) → Some a ≡ Some b → a ≡ b
some-is a b e = cc

module _ (history : List Column) (member : ℕ) where
  struck-at : (k : ℕ) (c : Column) → slice_get history k ≡ Some c → (strikes member c ≡ true) ↔ IsStruckAt history member k
  struck-at k c at = (by c at, λ s. rw (some-is c (columns.Strike s.0) (sym at ∙ s.1)) s.2) where
    by : (c : Column) → slice_get history k ≡ Some c → strikes member c ≡ true → IsStruckAt history member k
    by (columns.Strike struck) at has = (struck, at, has)
    by _ at has = absurd cc

  back-at : (k : ℕ) (c : Column) → slice_get history k ≡ Some c → (brings_back member c ≡ true) ↔ IsRecoveredAt history member k
  back-at k c at = (by c at, λ s. rw (some-is c (columns.Recovery s.0) (sym at ∙ s.1)) s.2) where
    by : (c : Column) → slice_get history k ≡ Some c → brings_back member c ≡ true → IsRecoveredAt history member k
    by (columns.Recovery replays) at back = (replays, at, back)
    by _ at back = absurd cc

  -- who is down behind a column is struck there, or was down and is not recovered there
  down-next : (k : ℕ) → (IsStruckAt history member k ⊎ (IsDownBefore history member k × ¬ (IsRecoveredAt history member k))) ↔ IsDownBefore history member
      (k + 1)
  down-next k = (
    λ so. elim so [
      | inl struck ↦ (k, omega arith, struck, λ j behind below. absurd (omega (arith, behind, below)))
      | inr stays ↦ (
        stays.0.0,
        omega (arith, stays.0.1),
        stays.0.2,
        λ j behind below. elim (cases_lt j k) [
          | inl before ↦ stays.0.3 j behind before
          | inr past ↦ (let same : k ≡ j = omega (arith, past, below) in subst (λ i. ¬ (IsRecoveredAt history member i)) same stays.1)
        ],
      )
    ],
    λ down. elim (cases_lt down.0 k) [
      | inl before ↦ inr ((down.0, before, down.2, λ j behind below. down.3 j behind (omega (arith, below))), down.3 k before (omega arith))
      | inr past ↦ (let same : down.0 ≡ k = omega (arith, down.1, past) in inl (subst (IsStruckAt history member) same down.2))
    ],
  )

  down-is : (place : ℕ) → place ≤ length history → (fold (is_down_after member) false (take place history) ≡ true) ↔ IsDownBefore history member place
  down-is zero within = (λ down. absurd cc, λ down. absurd (omega (arith, down.1)))
  down-is (suc k) within =
      let c : Column = get_or history k (columns.Checkpoint 0) in
      let at : slice_get history k ≡ Some c = slice_get-get_or history k (columns.Checkpoint 0) (omega (arith, within)) in
      let on : k + 1 ≡ suc k = omega arith in
      let more = fold_more history k c (omega (arith, within)) (sym (get_or_from_slice_get history k c c at)) (is_down_after member) false in
      let step = Decides-or (strikes member c) _ (struck-at k c at) (Decides-and (fold (is_down_after member) false (take k history)) _
      (down-is k (omega (arith, within))) (Decides-not (brings_back member c) (back-at k c at))) in
      subst (λ n. (fold (is_down_after member) false (take n history) ≡ true) ↔ IsDownBefore history member n) on
      (λ down. (down-next k).0 (step.0 (sym more ∙ down)), λ down. more ∙ step.1 ((down-next k).1 down))

-- ---- the whole

pub is_dashed_while_down : (members : ℕ) (history : List Column) → IsDashedWhileDown members history
is_dashed_while_down members history member place below within =
    let p : Shape → Bool = leads_to member place in
    let parts = leads member place place None false 0 history refl (omega arith) within in
    let down = down-is history member place within in
    let names : (q : ℕ) → filter p (label_and_names (length history) q None) ≡ [] = λ q. names_none p (λ m s. refl) (λ i m. refl) (length history) q None in (
      parts.0,
      rw (
        layers p history members,
        arrows_none p history (λ f s t r k. refl),
        stubs_none p history (λ f s t a u. refl),
      )
          (simp append-nil (numbers_one p (history_member_shapes history) member (λ q apart. filter_nothing p (label_and_names (length history) q None) (line_parts q None false 0 history) (names q)
          (parts_none p q (λ s e k. rw (ne_eqb q member apart) refl) None false 0 history)) members below
          ∙ filter_none p (label_and_names (length history) member None) (line_parts member None false 0 history) (names member)
          ∙ parts.1)),
      (λ dashed. down.0 (sym parts.2 ∙ dashed), λ is. parts.2 ∙ down.1 is),
    )
