-- What a test leaves of shapes that are drawn one after another, and of each layer of a history's picture: nothing, where it passes
-- none of the layer's shapes.
use Rattle.fbl_history.specs.declared.column.Column.TheVariants as columns
use Rattle.fbl_history.specs.HistoryShapes.{history_shapes}
use Rattle.fbl_history.specs.declared.shape.ArrowKind.{ArrowKind}
use Rattle.fbl_history.specs.declared.shape.LineKind.{LineKind}
use Rattle.fbl_history.specs.declared.shape.Shape.TheVariants as shapes
use Rattle.fbl_history.specs.declared.shape.Status.{Status}
use Rattle.std.specs.Prelude.{◌-◌}
use Rattle.fbl_history.proofs.Common.{ℕ, zero, suc, ◌+◌, ◌*◌, ◌/◌, ◌<◌, ◌≡◌, ◌≢◌, Bool, true, false, cond, List, [], ◌∷◌, ◌++◌, map, Option, Some, None, slice_get, filter, filter-append}
use Rattle.std.proofs.lemmas.List.FromFn.{length-range_with_len}
use Rattle.fbl_history.proofs.Common.{append-nil, slice_get-get_or, flat_map, range_with_len, refl, ap, ◌∙◌, arith, length, option_to_list, Column, Shape, MessageName, arrow_between, arrow_from, back_before}
use Rattle.fbl_history.proofs.Common.{drawn, has_standing_receipt, history_member_shapes, is_down_after, label_and_names, last_sent, line_kind_of, line_parts, members_shapes}
use Rattle.fbl_history.proofs.Common.{nat_lt, arrow_kind, receipt_arrow, sent_before, stub, stub_where}

-- what is drawn of each number, seen as drawn in columns
numbers-drawn : (f : ℕ → List Shape) (k n : ℕ) → flat_map f (range_with_len k n) ≡ drawn (λ q _. f q) k (range_with_len k n)
numbers-drawn f k zero = refl
numbers-drawn f k (suc n) = ap (λ s. f k ++ s) (numbers-drawn f (k + 1) n)

module _ {S : Type 0} (p : S → Bool) where
  -- what none of the first ones passes, the others alone leave
  pub filter_none : (first others : List S) → filter p first ≡ [] → filter p (first ++ others) ≡ filter p others
  filter_none first others none = filter-append p first others ∙ ap (λ s. s ++ filter p others) none

  pub filter_nothing : (first others : List S) → filter p first ≡ [] → filter p others ≡ [] → filter p (first ++ others) ≡ []
  filter_nothing first others none_first none = filter_none first others none_first ∙ none

  -- and where none of the others passes, the first ones alone
  pub filter_only : (first others : List S) → filter p others ≡ [] → filter p (first ++ others) ≡ filter p first
  filter_only first others none = filter-append p first others ∙ ap (λ s. filter p first ++ s) none ∙ append-nil (filter p first)

  pub filter_map_none : {A : Type 0} (f : A → S) (xs : List A) → ((x : A) → p (f x) ≡ false) → filter p (map f xs) ≡ []
  filter_map_none f [] none = refl
  filter_map_none f (x ∷ xs) none = rw (none x) (filter_map_none f xs none)

  pub drawn_none : {A : Type 0} (draw : ℕ → A → List S) (i : ℕ) (xs : List A) → ((j : ℕ) (x : A) → filter p (draw j x) ≡ []) → filter p (drawn draw i xs) ≡ []
  drawn_none draw i [] none = refl
  drawn_none draw i (x ∷ xs) none = filter_none (draw i x) (drawn draw (i + 1) xs) (none i x) ∙ drawn_none draw (i + 1) xs none

  -- what is drawn at one place alone
  module _ {A : Type 0} (draw : ℕ → A → List S) (place : ℕ) (others : (j : ℕ) (x : A) → j ≢ place → filter p (draw j x) ≡ []) where
    drawn-behind : (i : ℕ) (xs : List A) → place < i → filter p (drawn draw i xs) ≡ []
    drawn-behind i [] behind = refl
    drawn-behind i (x ∷ xs) behind =
        filter_none (draw i x) (drawn draw (i + 1) xs) (others i x (λ same. omega (arith, same, behind))) ∙ drawn-behind (i + 1) xs (omega (arith, behind))

    pub drawn_one : (i k : ℕ) (xs : List A) (x : A) → slice_get xs k ≡ Some x → place ≡ i + k → filter p (drawn draw i xs) ≡ filter p (draw place x)
    drawn_one i k [] x at is = absurd cc
    drawn_one i zero (y ∷ xs) x at is =
        let here : i ≡ place = omega (arith, is) in
        let same : y ≡ x = cc in
        filter_only (draw i y) (drawn draw (i + 1) xs) (drawn-behind (i + 1) xs (omega (arith, is))) ∙ (λ j. filter p (draw (here j) (same j)))
    drawn_one i (suc k) (y ∷ xs) x at is =
        filter_none (draw i y) (drawn draw (i + 1) xs) (others i y (λ same. omega (arith, same, is))) ∙ drawn_one (i + 1) k xs x at (omega (arith, is))

module _ (p : Shape → Bool) where
  pub numbers_none : (f : ℕ → List Shape) (n : ℕ) → ((q : ℕ) → filter p (f q) ≡ []) → filter p (flat_map f (range_with_len 0 n)) ≡ []
  numbers_none f n none = ap (filter p) (numbers-drawn f 0 n) ∙ drawn_none p (λ q _. f q) 0 (range_with_len 0 n) (λ q _. none q)

  -- what is drawn of one number alone
  pub numbers_one : (f : ℕ → List Shape) (member : ℕ) → ((q : ℕ) → q ≢ member → filter p (f q) ≡ []) → (n : ℕ) → member < n
      → filter p (flat_map f (range_with_len 0 n)) ≡ filter p (f member)
  numbers_one f member others n below =
      ap (filter p) (numbers-drawn f 0 n) ∙ drawn_one p (λ q _. f q) member (λ q _ apart. others q apart) 0 member (range_with_len 0 n) _
      (slice_get-get_or (range_with_len 0 n) member 0 (omega (arith, length-range_with_len 0 n, below))) (omega arith)

  -- ---- the layers

  pub arrow_none : (i : ℕ) → ((from sent to : ℕ) (kind : ArrowKind) → p (shapes.Arrow from sent to i kind) ≡ false)
      → (sent : MessageName → Option ℕ) (back : ℕ → Option ℕ) (c : Column) → filter p (option_to_list (arrow_from sent back i c)) ≡ []
  arrow_none i none sent back (columns.Receipt to rsn from ssn state undone) = between (sent (record { from = from; ssn = ssn })) _ where
    between : (s b : Option ℕ) → filter p (option_to_list (arrow_between s b from to i undone)) ≡ []
    between None b = refl
    between (Some s) b = rw (none from (last_sent s b) to (arrow_kind (nat_lt s (last_sent s b)) undone)) refl
  arrow_none i none sent back _ = refl

  stub_none : ((from sent to : ℕ) (again undone : Bool) → p (shapes.InFlight from sent to again undone) ≡ false)
      → (received : MessageName → Bool) (back : ℕ → Option ℕ) (i : ℕ) (c : Column) → filter p (option_to_list (stub_where received back i c)) ≡ []
  stub_none none received back i (columns.Send from ssn to true) = rw (none from i to false true) refl
  stub_none none received back i (columns.Send from ssn to false) = at (received (record { from = from; ssn = ssn })) _ where
    at : (b again : Bool) → filter p (option_to_list (cond b None (Some (shapes.InFlight from i to again false)))) ≡ []
    at true again = refl
    at false again = rw (none from i to again false) refl
  stub_none none received back i _ = refl

  pub names_none : ((m : ℕ) (s : Option Status) → p (shapes.Label m s) ≡ false) → ((i m : ℕ) → p (shapes.Name i m) ≡ false)
      → (columns member : ℕ) (s : Option Status) → filter p (label_and_names columns member s) ≡ []
  names_none label name columns member s =
      rw (label member s) (filter_map_none p (λ group. shapes.Name (24 * (group + 1)) member) (range_with_len 0 ((columns - 9) / 24))
      (λ group. name (24 * (group + 1)) member))

  pub parts_none : (member : ℕ) → ((s : Option ℕ) (e : ℕ) (k : LineKind) → p (shapes.Line member s e k) ≡ false)
      → (start : Option ℕ) (down : Bool) (i : ℕ) (xs : List Column) → filter p (line_parts member start down i xs) ≡ []
  parts_none member line start down i [] = rw (line start i (line_kind_of down)) refl
  parts_none member line start down i (x ∷ xs) =
      let turned = parts_none member line (Some i) (is_down_after member down x) (i + 1) xs in
      let same = parts_none member line start down (i + 1) xs in
      grind (arith, line start i (line_kind_of down), turned, same)

  module _ (history : List Column) where
    pub arrows_none : ((from sent to received : ℕ) (kind : ArrowKind) → p (shapes.Arrow from sent to received kind) ≡ false)
        → filter p (drawn (receipt_arrow history) 0 history) ≡ []
    arrows_none none = drawn_none p (receipt_arrow history) 0 history (λ i. arrow_none i (λ f s t k. none f s t i k) (sent_before history i) (back_before history i))

    pub stubs_none : ((from sent to : ℕ) (again undone : Bool) → p (shapes.InFlight from sent to again undone) ≡ false) → filter p (drawn (stub history) 0 history) ≡ []
    stubs_none none = drawn_none p (stub history) 0 history (stub_none none (has_standing_receipt history) (back_before history (length history)))

    pub members_none : ((m : ℕ) (s : Option Status) → p (shapes.Label m s) ≡ false) → ((i m : ℕ) → p (shapes.Name i m) ≡ false)
        → ((m : ℕ) (s : Option ℕ) (e : ℕ) (k : LineKind) → p (shapes.Line m s e k) ≡ false) → (members : ℕ) → filter p (members_shapes members history) ≡ []
    members_none label name line members = numbers_none (history_member_shapes history) members (λ m.
        filter_nothing p (label_and_names (length history) m None) (line_parts m None false 0 history) (names_none label name (length history) m None)
        (parts_none m (line m) None false 0 history))

    -- what is left of all layers, one after another
    pub layers : (members : ℕ) → filter p (history_shapes members history)
        ≡ (filter p (members_shapes members history) ++ filter p (drawn (receipt_arrow history) 0 history)) ++ filter p (drawn (stub history) 0 history)
    unfolding history_shapes
    layers members = simp filter-append
