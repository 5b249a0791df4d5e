-- A pass over the entries keeps their clocks.
use Rattle.fbl_runs.proofs.Common.{ℕ, zero, suc, cond, ◌≡◌, ◌==◌, ◌<◌, ◌≤◌, ◌+◌, ◌++◌, ◌↔◌, inl, inr, List, [], ◌∷◌, length, max, Option, Some, None, slice_get, refl, sym, ap, subst, ◌∙◌, arith}
use Rattle.fbl_runs.proofs.Common.{nat_tests, cases_eq, cases_lt, At-push, length-append, slice_get_within}
use Rattle.fbl_runs.proofs.Common.{Causality, Cut, Dependence, Entry, HappenedBefore, Position, Precedes, at, entry_member, log_of}
use Rattle.fbl_runs.specs.declared.clock.Clock.{Clock}
use Rattle.fbl_runs.specs.declared.clocks.Clocks.{Clocks}
use Rattle.fbl_runs.specs.declared.clocks.Predecessors.{Predecessors}
use Rattle.fbl_runs.specs.declared.links.Link.{Link}
use Rattle.fbl_runs.specs.Clocks.{StandsAt, cut_of, seen}
use Rattle.fbl_runs.specs.Links.{AreLinks}
use Rattle.fbl_runs.specs.Precedence.{AreBelow, AreClocks, HasColumn, HasSeen, IsAmong, IsBelow, IsClock, IsEntryClock, IsJoined, IsPast, IsPredecessorClock, Shares, arrival_at, arrival_in, column, cut_in, kept_cut, reached_cut, predecessors_of}
use Rattle.fbl_runs.proofs.ClockLaws.{before_among, clock_joined}
use Rattle.fbl_runs.proofs.LeadsLaws.{one_position}
use Rattle.fbl_runs.proofs.Listing.{seen-le, some_item, stands_at}

-- a clock by the same cut in other words
pub same_clock : (c : Causality) (entries : List Entry) (links : List Link) (j : Position) (cut other : Cut) → ((q : ℕ) → other q ≡ cut q) → IsClock c entries links j cut → IsClock c entries links j other
same_clock c entries links j cut other same is = (let equal : cut ≡ other = λ i q. sym (same q) i in subst (λ (cut : Cut). IsClock c entries links j cut) equal is)

-- ---- clocks that are kept stay as more are

front_get : (xs ys : List Clock) (i : ℕ) → i < length xs → slice_get (xs ++ ys) i ≡ slice_get xs i
front_get [] ys i below = absurd (omega (arith, below))
front_get (x ∷ xs) ys zero below = refl
front_get (x ∷ xs) ys (suc i) below = front_get xs ys i (omega (arith, below))

kept_front : (xs ys : List Clock) (o : Option ℕ) → IsBelow (length xs) o → (q : ℕ) → kept_cut (xs ++ ys) o q ≡ kept_cut xs o q
kept_front xs ys None within q = refl
kept_front xs ys (Some place) within q = ap (λ o. cut_in o q) (front_get xs ys place (within place refl))

clock_stays : (c : Causality) (entries : List Entry) (links : List Link) (xs ys : List Clock) (j : Position) (number : ℕ) (o : Option ℕ) → IsEntryClock c entries links xs j number o
    → IsEntryClock c entries links (xs ++ ys) j number o
clock_stays c entries links xs ys j number o is = record {
  column = is.column;
  room = is.room;
  within = λ place some. (let below = is.within place some in omega (arith, below, length-append xs ys));
  clock = same_clock c entries links j (reached_cut (kept_cut xs o) number (j.number + 1)) (reached_cut (kept_cut (xs ++ ys) o) number (j.number + 1))
      (λ q. ap (λ k. max k (cond (q == number) (j.number + 1) 0)) (kept_front xs ys o is.within q)) is.clock;
}

-- ---- one more entry

-- the entry at a place is counted with its column
pub has_column : (c : Causality) (entries : List Entry) (links : List Link) (p : ℕ) (j : Position) (e : Entry) (link : Link) → StandsAt entries p j → slice_get entries p ≡ Some e
    → slice_get links p ≡ Some link → HasColumn c entries links j (column c e link)
has_column HappenedBefore entries links p j e link stands here there = (let same : stands.0 ≡ e = (let s : Some stands.0 ≡ Some e = sym stands.1 ∙ here in cc) in sym stands.2 ∙ ap entry_member same)
has_column Dependence entries links p j e link stands here there = (p, link, stands, there, refl)

module _ (c : Causality) (entries : List Entry) (links : List Link) (are : AreLinks entries links) (p : ℕ) (old new : Clocks)
    (has : HasSeen c entries links p old) (e : Entry) (here : slice_get entries p ≡ Some e) (link : Link) (there : slice_get links p ≡ Some link)
    (number : ℕ) (is_number : number ≡ column c e link) (room : number < 24) (arrival : Option ℕ) (more : List Clock) (grown : new.kept.items ≡ old.kept.items ++ more)
    (within : IsBelow (length new.kept.items) arrival)
    (clock : (count : ℕ) → IsAmong entries (predecessors_of c e link).before count
    → (cut : Cut) × IsJoined c entries links (predecessors_of c e link) cut × ((q : ℕ) → reached_cut (kept_cut new.kept.items arrival) number count q ≡ reached_cut cut number count q))
    (causality : new.causality ≡ old.causality) (columns : new.columns.items ≡ old.columns.items ++ number ∷ []) (arrivals : new.arrivals.items ≡ old.arrivals.items ++ arrival ∷ []) where
  this : (j : Position) → StandsAt entries p j → IsEntryClock c entries links new.kept.items j number arrival
  this j stands =
      let at_j = stands_at entries p j e stands here in
      let is = are.each p j link stands there in
      let among : IsAmong entries (predecessors_of c e link).before (j.number + 1) = λ place i some at_i. (let less = before_among entries links are j e at_j link is c place i some at_i in omega (arith, less)) in
      let w = clock (j.number + 1) among in
      let counted : HasColumn c entries links j number = subst (HasColumn c entries links j) (sym is_number) (has_column c entries links p j e link stands here there) in
      record {
        column = counted;
        room = room;
        within = within;
        clock = clock_joined entries links are j e at_j link is c number w.0 (reached_cut (kept_cut new.kept.items arrival) number (j.number + 1)) counted w.1 w.2;
      }

  stays : (j : Position) (k : ℕ) (o : Option ℕ) → IsEntryClock c entries links old.kept.items j k o → IsEntryClock c entries links new.kept.items j k o
  stays j k o is = subst (λ (xs : List Clock). IsEntryClock c entries links xs j k o) (sym grown) (clock_stays c entries links old.kept.items more j k o is)

  each_next : (place : ℕ) (j : Position) (k : ℕ) (o : Option ℕ) → StandsAt entries place j → slice_get new.columns.items place ≡ Some k → slice_get new.arrivals.items place ≡ Some o
      → IsEntryClock c entries links new.kept.items j k o
  each_next place j k o stands at_k at_o =
      let count = has.columns in
      let count' = has.arrivals in
      elim (At-push old.columns.items number place k (rw columns at at_k)) [
        | inl old_k ↦ elim (At-push old.arrivals.items arrival place o (rw arrivals at at_o)) [
          | inl old_o ↦ stays j k o (has.each place j k o stands old_k old_o)
          | inr last ↦ absurd (let below = slice_get_within old.columns.items place k old_k in let last' = last.0 in omega (arith, below, last', count, count'))
        ]
        | inr last ↦ elim (At-push old.arrivals.items arrival place o (rw arrivals at at_o)) [
          | inl old_o ↦ absurd (let below = slice_get_within old.arrivals.items place o old_o in let last' = last.0 in omega (arith, below, last', count, count'))
          | inr last_o ↦
              let at_p : place ≡ p = (let last' = last.0 in omega (arith, last', count)) in
              let is = this j (subst (λ (x : ℕ). StandsAt entries x j) at_p stands) in
              subst (λ (x : Option ℕ). IsEntryClock c entries links new.kept.items j k x) last_o.1 (subst (λ (x : ℕ). IsEntryClock c entries links new.kept.items j x arrival) last.1 is)
        ]
      ]

  pub HasSeen-next : HasSeen c entries links (p + 1) new
  HasSeen-next = record {
    causality = causality ∙ has.causality;
    within = (let below = slice_get_within entries p e here in omega (arith, below));
    columns = ap length columns ∙ length-append old.columns.items (number ∷ []) ∙ (let count = has.columns in omega (arith, count));
    arrivals = ap length arrivals ∙ length-append old.arrivals.items (arrival ∷ []) ∙ (let count = has.arrivals in omega (arith, count));
    each = each_next;
  }

-- ---- what a pass knows

-- what stands at a place
pub some_position : (entries : List Entry) (place : ℕ) → place < length entries → (j : Position) × StandsAt entries place j
some_position entries place below = (let e = some_item entries place below in (at (entry_member e.0) (seen entries place (entry_member e.0)), (e.0, e.1, refl, refl)))

-- an entry's number is no more than its place
pub number_within : (entries : List Entry) (place : ℕ) (link : Link) → place < length entries → ((j : Position) → StandsAt entries place j → link.number ≡ j.number) → link.number ≤ place
number_within entries place link below same =
    let j = some_position entries place below in
    let few = seen-le entries place j.0.member in
    let number = j.1.3 in
    let is = same j.0 j.1 in
    omega (arith, few, number, is)

module _ (c : Causality) (entries : List Entry) (links : List Link) (are : AreLinks entries links) (p : ℕ) (clocks : Clocks) (has : HasSeen c entries links p clocks) where
  -- the clock of the entry at a place
  pub seen_at : (place : ℕ) (j : Position) (number : ℕ) → StandsAt entries place j → slice_get clocks.columns.items place ≡ Some number
      → IsEntryClock c entries links clocks.kept.items j number (arrival_at clocks.arrivals.items (Some place))
  seen_at place j number stands at_k =
      let count = has.columns in
      let count' = has.arrivals in
      let below = slice_get_within clocks.columns.items place number at_k in
      let arrival = some_item clocks.arrivals.items place (omega (arith, below, count, count')) in
      subst (λ (o : Option (Option ℕ)). IsEntryClock c entries links clocks.kept.items j number (arrival_in o)) (sym arrival.1) (has.each place j number arrival.0 stands at_k arrival.1)

  pub clock_at : (place : ℕ) (j : Position) (number : ℕ) (link : Link) (clock : Clock) → StandsAt entries place j → slice_get clocks.columns.items place ≡ Some number → slice_get links place ≡ Some link
      → ((q : ℕ) → cut_of clock q ≡ reached_cut (kept_cut clocks.kept.items (arrival_at clocks.arrivals.items (Some place))) number (link.number + 1) q) → IsClock c entries links j (cut_of clock)
  clock_at place j number link clock stands at_k there cut =
      let is = seen_at place j number stands at_k in
      let same : link.number ≡ j.number = (are.each place j link stands there).number in
      same_clock c entries links j (reached_cut (kept_cut clocks.kept.items (arrival_at clocks.arrivals.items (Some place))) number (j.number + 1)) (cut_of clock)
      (λ q. cut q ∙ ap (λ k. reached_cut (kept_cut clocks.kept.items (arrival_at clocks.arrivals.items (Some place))) number (k + 1) q) same) is.clock

  -- whether one entry precedes another
  pub precedes_at : (first second : ℕ) (i j : Position) (number other : ℕ) → StandsAt entries first i → StandsAt entries second j → slice_get clocks.columns.items first ≡ Some number
      → slice_get clocks.columns.items second ≡ Some other
      → (i.number < reached_cut (kept_cut clocks.kept.items (arrival_at clocks.arrivals.items (Some second))) other (j.number + 1) number) ↔ Precedes c (log_of entries) i j
  precedes_at first second i j number other at_i at_j at_k at_l = (seen_at second j other at_j at_l).clock i number (seen_at first i number at_i at_k).column

  -- a place that has been seen
  pub source_room : (place number : ℕ) → slice_get clocks.columns.items place ≡ Some number → number < 24
  source_room place number at_k =
      let count = has.columns in
      let all = has.within in
      let below = slice_get_within clocks.columns.items place number at_k in
      let j = some_position entries place (omega (arith, count, all, below)) in
      (seen_at place j.0 number j.1 at_k).room

  pub arrival_within : (o : Option ℕ) → IsBelow p o → IsBelow (length clocks.kept.items) (arrival_at clocks.arrivals.items o)
  arrival_within None below = λ place some. absurd cc
  arrival_within (Some place) below =
      let count = has.columns in
      let all = has.within in
      let less = below place refl in
      let j = some_position entries place (omega (arith, all, less)) in
      let number = some_item clocks.columns.items place (omega (arith, count, less)) in
      (seen_at place j.0 number.0 j.1 number.1).within

  -- where the clock is the one of the entry before
  pub shared : (predecessors : Predecessors) (number count : ℕ) → Shares clocks predecessors number → AreBelow p predecessors → IsAmong entries predecessors.before count
      → (cut : Cut) × IsJoined c entries links predecessors cut
      × ((q : ℕ) → reached_cut (kept_cut clocks.kept.items (arrival_at clocks.arrivals.items predecessors.before)) number count q ≡ reached_cut cut number count q)
  shared predecessors number count shares below among = by_before predecessors.before refl where
    nothing : Cut
    nothing q = 0

    none_predecessor : (o : Option ℕ) → o ≡ None → IsPredecessorClock c entries links o nothing
    none_predecessor None none = λ q. refl
    none_predecessor (Some place) none = absurd cc

    alone : (k : ℕ) → k ≡ max (max k 0) 0
    alone k = grind arith

    longer : (k number count less q : ℕ) → less < count → max k (cond (q == number) count 0) ≡ max (max k (cond (q == number) (less + 1) 0)) (cond (q == number) count 0)
    longer k number count less q below = grind (arith, nat_tests)

    by_before : (o : Option ℕ) → predecessors.before ≡ o
        → (cut : Cut) × IsJoined c entries links predecessors cut
        × ((q : ℕ) → reached_cut (kept_cut clocks.kept.items (arrival_at clocks.arrivals.items predecessors.before)) number count q ≡ reached_cut cut number count q)
    by_before None none = (
      nothing,
      (nothing, nothing, nothing, none_predecessor predecessors.before none, none_predecessor predecessors.message shares.0, none_predecessor predecessors.begins shares.1, λ q. refl),
      λ q. ap (λ o. reached_cut (kept_cut clocks.kept.items (arrival_at clocks.arrivals.items o)) number count q) none,
    )
    by_before (Some place) some =
        let all = has.within in
        let less = below.0 place some in
        let j = some_position entries place (omega (arith, all, less)) in
        let is = seen_at place j.0 number j.1 (shares.2 place some) in
        let kept = kept_cut clocks.kept.items (arrival_at clocks.arrivals.items (Some place)) in
        let cut : Cut = reached_cut kept number (j.0.number + 1) in
        let clock : IsPredecessorClock c entries links (Some place) cut = λ i stands. subst (λ (k : Position). IsClock c entries links k cut) (one_position entries place j.0 i j.1 stands) is.clock in (
          cut,
          (cut, nothing, nothing, subst (λ (o : Option ℕ). IsPredecessorClock c entries links o cut) (sym some) clock, none_predecessor predecessors.message shares.0, none_predecessor predecessors.begins shares.1, λ q. alone (cut q)),
          λ q. ap (λ o. reached_cut (kept_cut clocks.kept.items (arrival_at clocks.arrivals.items o)) number count q) some ∙ longer (kept q) number count j.0.number q (among place j.0 some j.1),
        )

-- whether one entry precedes another, by their numbers and the clock that is kept
module _ (c : Causality) (entries : List Entry) (clocks : Clocks) (are : AreClocks c entries clocks) (first second : ℕ) (i j : Position) (at_i : StandsAt entries first i)
    (at_j : StandsAt entries second j) (number : ℕ) (counted : slice_get clocks.columns.items first ≡ Some number) where
  other : (k : ℕ) × (slice_get clocks.columns.items second ≡ Some k)
  other = (let count = are.2.columns in let below = slice_get_within entries second at_j.0 at_j.1 in some_item clocks.columns.items second (omega (arith, count, below)))

  all : (k : ℕ) → slice_get clocks.columns.items second ≡ Some k
      → (i.number < reached_cut (kept_cut clocks.kept.items (arrival_at clocks.arrivals.items (Some second))) k (j.number + 1) number) ↔ Precedes c (log_of entries) i j
  all k at_k = precedes_at c entries are.0 are.1 (length entries) clocks are.2 first second i j number k at_i at_j counted at_k

  pub precedes_own : slice_get clocks.columns.items second ≡ Some number → i.number ≤ j.number → Precedes c (log_of entries) i j
  precedes_own same behind = (all number same).0 (grind (arith, nat_tests))

  pub precedes_kept : ¬ ((slice_get clocks.columns.items second ≡ Some number) × (i.number ≤ j.number))
      → (i.number < kept_cut clocks.kept.items (arrival_at clocks.arrivals.items (Some second)) number) ↔ Precedes c (log_of entries) i j
  precedes_kept not_own =
      let one : ¬ ((other.0 ≡ number) × (i.number ≤ j.number)) = λ own. not_own (other.1 ∙ ap Some own.0, own.1) in
      let same = kept_alone (kept_cut clocks.kept.items (arrival_at clocks.arrivals.items (Some second)) number) other.0 number i.number j.number one in
      (λ come. (all other.0 other.1).0 (same.0 come), λ p. same.1 ((all other.0 other.1).1 p)) where
        kept_alone : (k other number a b : ℕ) → ¬ ((other ≡ number) × (a ≤ b)) → (a < k) ↔ (a < max k (cond (number == other) (b + 1) 0))
        kept_alone k other number a b not_own = elim (cases_eq other number) [
          | inl same ↦ (let past : b < a = (elim (cases_lt b a) [ inl past ↦ past | inr behind ↦ absurd (not_own (same, behind)) ]) in grind (arith, nat_tests))
          | inr ne ↦ grind (arith, nat_tests)
        ]

-- what happened before the entry at a place
pub past_at : (entries : List Entry) (clocks : Clocks) → AreClocks HappenedBefore entries clocks → (place : ℕ) (j : Position) → StandsAt entries place j → (member number : ℕ) → member ≡ j.member
    → number ≡ j.number → (clock : Clock)
    → ((q : ℕ) → cut_of clock q ≡ reached_cut (kept_cut clocks.kept.items (arrival_at clocks.arrivals.items (Some place))) member (number + 1) q) → IsPast entries j (cut_of clock)
past_at entries clocks are place j stands member number is_member is_number clock cut =
    let count = are.2.columns in
    let below = slice_get_within entries place stands.0 stands.1 in
    let k = some_item clocks.columns.items place (omega (arith, count, below)) in
    let is = seen_at HappenedBefore entries are.0 are.1 (length entries) clocks are.2 place j k.0 stands k.1 in
    let kept = kept_cut clocks.kept.items (arrival_at clocks.arrivals.items (Some place)) in
    let same : member ≡ k.0 = is_member ∙ is.column in
    let whole = same_clock HappenedBefore entries are.0 j (reached_cut kept k.0 (j.number + 1)) (cut_of clock)
    (λ q. cut q ∙ ap (λ m. reached_cut kept m (number + 1) q) same ∙ ap (λ n. reached_cut kept k.0 (n + 1) q) is_number) is.clock in
    λ i. whole i i.member refl
