-- The views that a pass finds: each is one, and each moment has just the restarts of one.
use Rattle.fbl_judge.proofs.Common.{drop, ℕ, zero, suc, cond, ◌≡◌, ◌≢◌, ◌<◌, ◌≤◌, ◌+◌, ◌⊎◌, ◌↔◌, inl, inr, List, [], ◌∷◌, ◌++◌, max, At-front, At-push, Some, None, slice_get, length, take, refl, sym, ap, subst, ◌∙◌, arith, cases_eq, cases_lt, cases_order, slice_get_within}
use Rattle.fbl_judge.proofs.Common.{AreEntries, HappenedBefore, Entry, Restart, Logs, entry_member, log_of, restart_in, IsAt, Position, Precedes, at, Cut, HasCome, HasRestarted, IsMoment}
use Rattle.std.proofs.Common.{replicate, slice_index, slice_set}
use Rattle.fbl_trace.proofs.Gets.{At-seam, take-more}
use Rattle.std.proofs.lemmas.List.{length-take, take-append-drop, take-take}
use Rattle.std.proofs.lemmas.List.Sums.{count_by-le-length, sum_by-append}
use Rattle.fbl_runs.specs.declared.entry.Restart as restart
use Rattle.fbl_runs.specs.Clocks.{StandsAt, cut_of, seen}
use Rattle.fbl_runs.specs.Rules.{is_restart, restarts}
use Rattle.fbl_runs.proofs.Listing.{locate_all, seen-all, seen-later, seen-other, seen-own, seen_mono, some_entry, stands_at}
use Rattle.fbl_runs.proofs.RestartCounts.{restart_counted, restarts_next}
use Rattle.fbl_runs.proofs.LeadsLaws.{here_stands, one_place_of, places_order, precedes_before, same_position}
use Rattle.fbl_judge.specs.declared.view.View.{View}
use Rattle.fbl_judge.specs.declared.views.RestartPast.{RestartPast}
use Rattle.fbl_judge.specs.Unsafe.{restarts_at, restarts_below}
use Rattle.fbl_judge.specs.Views.{AreViews, AreViewsOf, AreWith, IsAmong, IsRestartPast, IsBase, IsLifeAt, IsNextRestart, IsPastAndStep, IsView, IsWith, MayHave}
use Rattle.fbl_judge.proofs.LifeLaws.{below_16}
use Rattle.fbl_judge.proofs.PastLaws.{joined_moment, joined_parts, joined_within, past_has, past_length, past_restart, past_within}

-- ---- counts of restarts

-- of the first b entries those behind the first a
restarts_split : (log : List Entry) (a b : ℕ) → a ≤ b → restarts (take b log) ≡ restarts (take a log) + restarts (drop a (take b log))
restarts_split log a b upto =
    ap restarts (sym (take-append-drop a (take b log))) ∙ sum_by-append (λ e. cond (is_restart e) 1 0) (take a (take b log)) (drop a (take b log))
    ∙ ap (λ l. restarts l + restarts (drop a (take b log))) (take-take a b log upto)

-- no fewer of more
count_more : (log : List Entry) (a b : ℕ) → a ≤ b → restarts (take a log) ≤ restarts (take b log)
count_more log a b upto = (let split = restarts_split log a b upto in omega (arith, split))

-- where no restart stands between, as many come
pub count_same : (log : List Entry) (a b : ℕ) → a ≤ b → ((k : ℕ) (r : restart.Restart) → a ≤ k → k < b → ¬ (slice_get log k ≡ Some (Restart r))) → restarts (take a log) ≡ restarts (take b log)
count_same log a zero upto none = (let same : a ≡ 0 = omega (arith, upto) in ap (λ k. restarts (take k log)) same)
count_same log a (suc b) upto none = elim (cases_eq a (suc b)) [
  | inl same ↦ ap (λ k. restarts (take k log)) same
  | inr less ↦
      let rest = count_same log a b (omega (arith, upto, less)) (λ k r after before. none k r after (omega (arith, before))) in
      elim (restarts_next log b) [
        | inl same ↦ rest ∙ sym same
        | inr more ↦ absurd (none b more.0 (omega (arith, upto, less)) (omega arith) more.1)
      ]
]

-- with a restart one more
count_one : (log : List Entry) (k : ℕ) (r : restart.Restart) → slice_get log k ≡ Some (Restart r) → restarts (take (suc k) log) ≡ restarts (take k log) + 1
count_one log k r here = ap restarts (take-more log k (Restart r) here) ∙ restart_counted (take k log) (Restart r)

-- no more than entries
pub count_few : (log : List Entry) (a : ℕ) → restarts (take a log) ≤ a
count_few log a = omega (arith, count_by-le-length is_restart (take a log), length-take a log)

-- where one has come that has not, fewer come
pub counts_apart : (log : List Entry) (a b k : ℕ) (r : restart.Restart) → slice_get log k ≡ Some (Restart r) → a ≤ k → k < b → restarts (take a log) < restarts (take b log)
counts_apart log a b k r here out come =
    let x = count_more log a k out in
    let y = count_one log k r here in
    let z = count_more log (suc k) b (omega (arith, come)) in
    omega (arith, x, y, z)

-- where as many of each member come, as many come in all
pub sum_same : (logs : Logs) (a b : Cut) (n : ℕ) → ((q : ℕ) → q < n → restarts_at logs a q ≡ restarts_at logs b q) → restarts_below logs a n ≡ restarts_below logs b n
sum_same logs a b zero same = refl
sum_same logs a b (suc n) same = (let rest = sum_same logs a b n (λ q below. same q (omega (arith, below))) in let own = same n (omega arith) in omega (arith, rest, own))

-- and where one more of one member
sum_more : (logs : Logs) (a b : Cut) (m n : ℕ) → m < n → ((q : ℕ) → q < n → q ≢ m → restarts_at logs a q ≡ restarts_at logs b q) → restarts_at logs b m ≡ restarts_at logs a m + 1
    → restarts_below logs b n ≡ restarts_below logs a n + 1
sum_more logs a b m zero within same more = absurd (omega (arith, within))
sum_more logs a b m (suc n) within same more = elim (cases_eq m n) [
  | inl last ↦
      let rest = sum_same logs a b n (λ q below. same q (omega (arith, below)) (λ e. omega (arith, e, last, below))) in
      let own : restarts_at logs b n ≡ restarts_at logs a n + 1 = subst (λ (x : ℕ). restarts_at logs b x ≡ restarts_at logs a x + 1) last more in
      omega (arith, rest, own)
  | inr ne ↦
      let rest = sum_more logs a b m n (omega (arith, within, ne)) (λ q below other. same q (omega (arith, below)) other) more in
      let own = same n (omega arith) (λ e. ne (sym e)) in
      omega (arith, rest, own)
]

-- ---- sets of arrays

index_set : (xs : List ℕ) (m v q : ℕ) → m < length xs → (q ≡ m → slice_index (slice_set xs m v) q ≡ v) × (q ≢ m → slice_index (slice_set xs m v) q ≡ slice_index xs q)
index_set [] m v q within = absurd (omega (arith, within))
index_set (x ∷ xs) zero v zero within = (λ same. refl, λ ne. absurd (ne refl))
index_set (x ∷ xs) zero v (suc q) within = (λ same. absurd (omega (arith, same)), λ ne. refl)
index_set (x ∷ xs) (suc m) v zero within = (λ same. absurd (omega (arith, same)), λ ne. refl)
index_set (x ∷ xs) (suc m) v (suc q) within = (let rest = index_set xs m v q (omega (arith, within)) in (λ same. rest.0 (omega (arith, same)), λ ne. rest.1 (λ e. ne (ap suc e))))

-- ---- the restarts of a list of entries

module _ (n : ℕ) (entries : List Entry) (are : AreEntries n entries) where
  abbrev logs : Logs
  logs = log_of entries

  pub nobody_beyond : (q : ℕ) → 16 ≤ q → length (log_of entries q) ≡ 0
  nobody_beyond q past = elim (cases_lt 0 (length (logs q))) [
    | inr none ↦ omega (arith, none)
    | inl some ↦ absurd (
        let e = some_entry (logs q) 0 some in
        let w = locate_all entries q 0 e.0 e.1 in
        let below = (rw w.3 at (are.members w.0 e.0 w.2)) in
        let size = are.size.1 in
        omega (arith, below, size, past))
  ]

  -- one entry more
  among_next : (p : ℕ) (e : Entry) (j : Position) → slice_get entries p ≡ Some e → StandsAt entries p j → (i : Position) → IsAmong entries (p + 1) i → IsAmong entries p i ⊎ (i ≡ j)
  among_next p e j here stands i among =
      let among' : i.number < seen entries (suc p) i.member = (let same : p + 1 ≡ suc p = omega arith in subst (λ (x : ℕ). i.number < seen entries x i.member) same among) in
      let own : entry_member e ≡ j.member = (let s : stands.0 ≡ e = (let some : Some stands.0 ≡ Some e = sym stands.1 ∙ here in cc) in ap entry_member (sym s) ∙ stands.2) in
      elim (cases_eq (entry_member e) i.member) [
        | inr other ↦ inl (let same = seen-other entries p e i.member here other in omega (arith, among', same))
        | inl mine ↦
            let one = seen-own entries p e i.member here mine in
            elim (cases_lt i.number (seen entries p i.member)) [
              | inl before ↦ inl before
              | inr last ↦ inr (
                  let member : i.member ≡ j.member = sym mine ∙ own in
                  same_position i j member (
                  let number = stands.3 in
                  let seen' : seen entries p i.member ≡ seen entries p j.member = ap (seen entries p) member in
                  omega (arith, among', one, last, number, seen')))
            ]
      ]

  among_more : (p : ℕ) (i : Position) → IsAmong entries p i → IsAmong entries (p + 1) i
  among_more p i among = (let more = seen_mono entries p (p + 1) i.member (omega arith) in omega (arith, more, among))

  -- an entry that is no restart changes nothing
  pub views_skip : (p : ℕ) (e : Entry) (views : List View) → slice_get entries p ≡ Some e → restart_in e ≡ None → AreViewsOf entries p views → AreViewsOf entries (p + 1) views
  views_skip p e views here none of = record {
    each = λ k view at_k. (let x = of.each k view at_k in (x.0, (let few = x.1 in omega (arith, few))));
    all = λ cut moment. (let x = of.all cut moment in (
      x.0,
      x.1,
      x.2,
      λ i. (
        λ h. (let y = (x.3 i).0 h in (y.0, among_more p i y.1)),
        λ h. elim (among_next p e (at (entry_member e) (seen entries p (entry_member e))) here stands i h.1) [
          | inl before ↦ (x.3 i).1 (h.0, before)
          | inr same ↦ absurd (
              let at_j : IsAt logs (at (entry_member e) (seen entries p (entry_member e))) (Restart h.0.0) = subst (λ (i : Position). IsAt logs i (Restart h.0.0)) same h.0.1 in
              let there = stands_at entries p (at (entry_member e) (seen entries p (entry_member e))) e stands here in
              let is : Some e ≡ Some (Restart h.0.0) = sym there ∙ at_j in
              let is' : e ≡ Restart h.0.0 = cc in
              let no' : None ≡ Some h.0.0 = sym none ∙ ap restart_in is' in
              cc)
        ],
      ),
    ));
  } where
    stands : StandsAt entries p (at (entry_member e) (seen entries p (entry_member e)))
    stands = here_stands entries p e here

  -- behind the last entry they are all
  pub views_all : (p : ℕ) (views : List View) → length entries ≤ p → AreViewsOf entries p views → AreViews logs views
  views_all p views all of = record {
    each = λ k view at_k. (of.each k view at_k).0;
    all = λ cut moment. (let x = of.all cut moment in (
      x.0,
      x.1,
      x.2,
      λ i. (
        λ h. ((x.3 i).0 h).0,
        λ h. (x.3 i).1 (
          h,
          let within = slice_get_within (logs i.member) i.number (Restart h.0) h.1 in
              let seen' = seen-all entries i.member in
              let more = seen_mono entries (length entries) p i.member all in
              omega (arith, within, seen', more),
        ),
      ),
    ));
  }

  -- no restarts
  pub views_none : (view : View) → ((q : ℕ) → cut_of view.base q ≡ 0) → ((q : ℕ) → q < 16 → slice_index view.starts q ≡ 0) → ((q : ℕ) → q < 16 → IsNextRestart (log_of entries q) 0 (slice_index view.tops q))
      → ((q : ℕ) → q < 16 → slice_index view.restarts.of_members q ≡ 0) → view.restarts.total ≡ 0 → AreViewsOf entries 0 (view ∷ [])
  views_none view none starts tops counts count = record {
    each = elim [ zero ↦ λ v at_k. (let same : view ≡ v = cc in subst (λ (v : View). IsView logs v × (v.restarts.total ≤ 0)) same (is_view, omega (arith, count))) | suc k ↦ λ v at_k. absurd cc ];
    all = λ cut moment. (0, view, refl, λ i. (λ h. absurd (let n = none i.member in let x = h.2 in omega (arith, n, x)), λ h. absurd (let x = h.1 in omega (arith, x))));
  } where
    zero_count : (q : ℕ) → restarts_at logs (cut_of view.base) q ≡ 0
    zero_count q = ap (λ (x : ℕ). restarts (take x (logs q))) (none q)

    zero_sum : (n : ℕ) → restarts_below logs (cut_of view.base) n ≡ 0
    zero_sum zero = refl
    zero_sum (suc n) = (let rest = zero_sum n in let own = zero_count n in omega (arith, rest, own))

    is_view : IsView logs view
    is_view = record {
      base = record {
        moment = record {
          consistent = λ i j leads come. absurd (let n = none j.member in omega (arith, n, come));
          whole = λ i j step come. absurd (let n = none i.member in omega (arith, n, come));
        };
        least = λ other moment has q. (let n = none q in omega (arith, n));
      };
      lives = λ q below. (let next = tops q below in record {
        begun = inl (starts q below);
        come = (let n = none q in omega (arith, n));
        within = next.within;
        last = λ k r before here. absurd (next.none k r (omega arith) before here);
        next = next.next;
      });
      restarts = record { each = λ q below. counts q below ∙ sym (zero_count q); total = count ∙ sym (zero_sum 16) };
    }

  -- ---- one restart more

  module _ (place : ℕ) (r : restart.Restart) (here : slice_get entries place ≡ Some (Restart r)) (back : RestartPast) (is_back : IsRestartPast entries place back) where
    at_j : IsAt logs (at back.member back.number) (Restart r)
    at_j = stands_at entries place (at back.member back.number) (Restart r) is_back.stands here

    abbrev past : Cut
    past = cut_of back.moment

    of_past : IsPastAndStep logs (at back.member back.number) past
    of_past = is_back.moment (at back.member back.number) (Restart r) is_back.stands at_j tt

    member_16 : back.member < 16
    member_16 = below_16 logs nobody_beyond (at back.member back.number) (Restart r) at_j

    -- what precedes the restart is among the entries up to it
    before_it : (i : Position) → Precedes HappenedBefore logs i (at back.member back.number) → (p : ℕ) × StandsAt entries p i × (p ≤ place)
    before_it i p =
        let x = precedes_before n entries are.lawful HappenedBefore i (at back.member back.number) p in
        let same = one_place_of entries x.1 place (at back.member back.number) x.3 is_back.stands in
        (x.0, x.2, (let le = x.4 in omega (arith, le, same)))

    -- a restart that precedes it is no later one of its member
    not_after : (i : Position) → i.member ≡ back.member → back.number < i.number → ¬ (Precedes HappenedBefore logs i (at back.member back.number))
    not_after i same after p =
        let x = before_it i p in
        let order = places_order entries place x.0 (at back.member back.number) i is_back.stands x.1 (sym same) after in
        let le = x.2 in omega (arith, order, le)

    -- it has restarted fewer times than it has entries
    pub restarts_few : (v : View) → IsView logs v → MayHave v back → slice_index v.restarts.of_members back.member < length (log_of entries back.member)
    restarts_few v is_view may =
        let known = is_view.lives back.member member_16 in
        let a = is_view.restarts.each back.member member_16 in
        let b = count_few (logs back.member) (cut_of v.base back.member) in
        let come = known.come in
        let top = (may back.member member_16).0 refl in
        let within = slice_get_within (logs back.member) back.number (Restart r) at_j in
        omega (arith, a, b, come, top, within)

    module _ (v : View) (is_view : IsView logs v) where
      abbrev base : Cut
      base = cut_of v.base

      -- what is known of each member
      life : (q : ℕ) → q < 16 → IsLifeAt logs base q (slice_index v.starts q) (slice_index v.tops q)
      life = is_view.lives

      module _ (may : MayHave v back) where
        -- the restarts in its past are the view's
        has_base : (i : Position) → HasRestarted logs past i → i ≢ at back.member back.number → HasCome base i
        has_base i has other =
            let below = below_16 logs nobody_beyond i (Restart has.0) has.1 in
            let known = life i.member below in
            let m = may i.member below in
            elim (cases_eq i.member back.member) [
              | inr ne ↦ (known.last i.number has.0 (let upto = m.1 ne in let come = has.2 in omega (arith, upto, come)) has.1).1
              | inl same ↦ elim (cases_order i.number back.number) [
                | inl number ↦ absurd (other (same_position i (at back.member back.number) same number))
                | inr (inl before) ↦ (known.last i.number has.0 (let top = m.0 same in omega (arith, top, before)) has.1).1
                | inr (inr after) ↦ absurd (not_after i same after (past_restart logs (at back.member back.number) (Restart r) at_j tt past of_past i has))
              ]
            ]

        module _ (w : View) (is_with : IsWith v back w) where
          parts : (i : Position) → HasCome (cut_of w.base) i ↔ HasCome base i ⊎ HasCome past i
          parts = joined_parts logs (at back.member back.number) (Restart r) at_j tt past of_past base (cut_of w.base) is_with.base

          it_has : HasCome (cut_of w.base) (at back.member back.number)
          it_has = (parts (at back.member back.number)).1 (inr (past_has logs (at back.member back.number) (Restart r) at_j tt past of_past))

          with_base : IsBase logs (cut_of w.base)
          with_base = record {
            moment = joined_moment logs (at back.member back.number) (Restart r) at_j tt past of_past base (cut_of w.base) is_view.base.moment is_with.base has_base;
            least = λ other moment has. joined_within logs (at back.member back.number) (Restart r) at_j tt past of_past base (cut_of w.base) other is_with.base
                (is_view.base.least other moment (λ i h. has i (h.0, h.1, (parts i).1 (inl h.2)))) moment (has (at back.member back.number) (r, at_j, it_has)).2;
          }

          -- no more than the member's next restart
          come_own : cut_of w.base back.member ≤ back.top
          come_own = elim (cases_lt back.top (cut_of w.base back.member)) [
            | inr fine ↦ fine
            | inl more ↦ absurd (elim ((parts (at back.member back.top)).0 more) [
              | inl x ↦ (let known = life back.member member_16 in let come = known.come in let top = (may back.member member_16).0 refl in let after = is_back.top.after in omega (arith, x, come, top, after))
              | inr x ↦
                  let upto = past_length logs (at back.member back.number) (Restart r) at_j tt past of_past back.member in
                  let next = is_back.top.next (omega (arith, x, upto)) in
                  not_after (at back.member back.top) refl (let after = is_back.top.after in omega (arith, after)) (past_restart logs (at back.member back.number) (Restart r) at_j tt past of_past (at back.member back.top) (next.0, next.1, x))
            ])
          ]

          own_life : IsLifeAt logs (cut_of w.base) back.member back.number back.top
          own_life = record {
            begun = inr (r, at_j, it_has);
            come = come_own;
            within = is_back.top.within;
            last = λ k r' before here'. elim (cases_lt back.number k) [
              | inr upto ↦ (upto, (let come = it_has in omega (arith, upto, come)))
              | inl after ↦ absurd (is_back.top.none k r' (omega (arith, after)) before here')
            ];
            next = is_back.top.next;
          }

          -- of another member no more restarts have come
          come_other : (q : ℕ) → q < 16 → q ≢ back.member → cut_of w.base q ≤ slice_index v.tops q
          come_other q below ne = elim (cases_lt (slice_index v.tops q) (cut_of w.base q)) [
            | inr fine ↦ fine
            | inl more ↦ absurd (elim ((parts (at q (slice_index v.tops q))).0 more) [
              | inl x ↦ (let come = (life q below).come in omega (arith, x, come))
              | inr x ↦ (let upto = (may q below).1 ne in omega (arith, x, upto))
            ])
          ]

          base_le : (q : ℕ) → base q ≤ cut_of w.base q
          base_le q = (let j = is_with.base q in at_most (base q) (past q) (cut_of w.base q) j) where
            at_most : (a b c : ℕ) → c ≡ max a b → a ≤ c
            at_most a b c is = grind arith

          other_life : (q : ℕ) → q < 16 → q ≢ back.member → IsLifeAt logs (cut_of w.base) q (slice_index v.starts q) (slice_index v.tops q)
          other_life q below ne =
              let known = life q below in
              record {
                begun = elim known.begun [ inl none ↦ inl none | inr h ↦ inr (h.0, h.1, (parts (at q (slice_index v.starts q))).1 (inl h.2)) ];
                come = come_other q below ne;
                within = known.within;
                last = λ k r' before here'. (let x = known.last k r' before here' in (x.0, (let y = x.1 in let le = base_le q in omega (arith, y, le))));
                next = known.next;
              }

          own_count : restarts_at logs (cut_of w.base) back.member ≡ restarts_at logs base back.member + 1
          own_count =
              let known = life back.member member_16 in
              let top = (may back.member member_16).0 refl in
              let come = known.come in
              let has = it_has in
              let upto = come_own in
              let a = count_same (logs back.member) (base back.member) back.number (omega (arith, come, top))
              (λ k r' after before here'. (let x = (known.last k r' (omega (arith, before, top)) here').1 in omega (arith, x, after))) in
              let b = count_one (logs back.member) back.number r at_j in
              let c = count_same (logs back.member) (suc back.number) (cut_of w.base back.member) (omega (arith, has))
              (λ k r' after before here'. is_back.top.none k r' (omega (arith, after)) (omega (arith, before, upto)) here') in
              omega (arith, a, b, c)

          other_count : (q : ℕ) → q < 16 → q ≢ back.member → restarts_at logs base q ≡ restarts_at logs (cut_of w.base) q
          other_count q below ne =
              let known = life q below in
              let upto = come_other q below ne in
              count_same (logs q) (base q) (cut_of w.base q) (base_le q) (λ k r' after before here'. (let x = (known.last k r' (omega (arith, before, upto)) here').1 in omega (arith, x, after)))

          pub with_view : IsView logs w
          with_view = record {
            base = with_base;
            lives = λ q below. elim (cases_eq q back.member) [
              | inl same ↦
                  let s : slice_index w.starts q ≡ back.number = ap (λ (xs : List ℕ). slice_index xs q) is_with.starts ∙ (index_set v.starts back.member back.number q (room v.starts v.starts_room)).0 same in
                  let t : slice_index w.tops q ≡ back.top = ap (λ (xs : List ℕ). slice_index xs q) is_with.tops ∙ (index_set v.tops back.member back.top q (room v.tops v.tops_room)).0 same in
                  let P : ℕ → ℕ → ℕ → Type 0 = λ q s t. IsLifeAt logs (cut_of w.base) q s t in
                  subst (λ (x : ℕ). P q x (slice_index w.tops q)) (sym s) (subst (λ (x : ℕ). P q back.number x) (sym t) (subst (λ (x : ℕ). P x back.number back.top) (sym same) own_life))
              | inr ne ↦
                  let s : slice_index w.starts q ≡ slice_index v.starts q = ap (λ (xs : List ℕ). slice_index xs q) is_with.starts ∙ (index_set v.starts back.member back.number q (room v.starts v.starts_room)).1 ne in
                  let t : slice_index w.tops q ≡ slice_index v.tops q = ap (λ (xs : List ℕ). slice_index xs q) is_with.tops ∙ (index_set v.tops back.member back.top q (room v.tops v.tops_room)).1 ne in
                  let P : ℕ → ℕ → Type 0 = λ s t. IsLifeAt logs (cut_of w.base) q s t in
                  subst (λ (x : ℕ). P x (slice_index w.tops q)) (sym s) (subst (λ (x : ℕ). P (slice_index v.starts q) x) (sym t) (other_life q below ne))
            ];
            restarts = record {
              each = λ q below. (
                  let counts = v.restarts.of_members in
                  let known = is_view.restarts.each q below in
                  let set' = index_set counts back.member (slice_index counts back.member + 1) q (room counts v.restarts.room) in
                  let is : slice_index w.restarts.of_members q ≡ slice_index (slice_set counts back.member (slice_index counts back.member + 1)) q = ap (λ (xs : List ℕ). slice_index xs q) is_with.restarts in
                  elim (cases_eq q back.member) [
                    | inl same ↦
                        let own = is_view.restarts.each back.member member_16 in
                        let s = set'.0 same in
                        let c = own_count in
                        let e : restarts_at logs (cut_of w.base) q ≡ restarts_at logs (cut_of w.base) back.member = ap (restarts_at logs (cut_of w.base)) same in
                        omega (arith, is, s, own, c, e)
                    | inr ne ↦ is ∙ set'.1 ne ∙ known ∙ other_count q below ne
                  ]);
              total = is_with.total ∙ ap (λ (x : ℕ). x + 1) is_view.restarts.total ∙ sym (sum_more logs base (cut_of w.base) back.member 16 member_16 other_count own_count);
            };
          } where
            room : (xs : List ℕ) → length xs ≡ 16 → back.member < length xs
            room xs is = (let below = member_16 in omega (arith, is, below))

    -- ---- all moments

    not_among : ¬ (IsAmong entries place (at back.member back.number))
    not_among among = (let number = is_back.stands.3 in omega (arith, number, among))

    -- what precedes it is it, or among the entries before it
    before_among : (i : Position) → Precedes HappenedBefore logs i (at back.member back.number) → IsAmong entries (place + 1) i
    before_among i p =
        let x = before_it i p in
        let later = seen-later entries x.0 (place + 1) i.member x.1.0 x.1.1 x.1.2 (let le = x.2 in omega (arith, le)) in
        let number = x.1.3 in
        omega (arith, later, number)

    -- the view of a moment that has it may have it
    module _ (cut : Cut) (moment : IsMoment logs cut) (has : HasCome cut (at back.member back.number)) (v : View) (is_view : IsView logs v)
        (just : (i : Position) → HasRestarted logs (cut_of v.base) i ↔ HasRestarted logs cut i × IsAmong entries place i) where
      own_top : slice_index v.tops back.member ≡ back.number
      own_top =
          let known = is_view.lives back.member member_16 in
          let come = known.come in
          elim (cases_order (slice_index v.tops back.member) back.number) [
            | inl same ↦ same
            | inr (inl before) ↦ absurd (
                let within = slice_get_within (logs back.member) back.number (Restart r) at_j in
                let next = known.next (omega (arith, before, within)) in
                let number = is_back.stands.3 in
                let back' = (just (at back.member (slice_index v.tops back.member))).1 ((next.0, next.1, omega (arith, before, has)), omega (arith, before, number)) in
                let x = back'.2 in
                omega (arith, x, come))
            | inr (inr after) ↦ absurd (
                let x = known.last back.number r after at_j in
                not_among ((just (at back.member back.number)).0 (r, at_j, x.1)).1)
          ]

      other_top : (q : ℕ) → q < 16 → q ≢ back.member → past q ≤ slice_index v.tops q
      other_top q below ne = elim (cases_lt (slice_index v.tops q) (past q)) [
        | inr fine ↦ fine
        | inl more ↦ absurd (
            let known = is_view.lives q below in
            let come = known.come in
            let upto = past_length logs (at back.member back.number) (Restart r) at_j tt past of_past q in
            let next = known.next (omega (arith, more, upto)) in
            let i = at q (slice_index v.tops q) in
            let p = past_restart logs (at back.member back.number) (Restart r) at_j tt past of_past (at q (slice_index v.tops q)) (next.0, next.1, more) in
            let in_cut = past_within logs (at back.member back.number) (Restart r) at_j tt past of_past cut moment has (at q (slice_index v.tops q)) more in
            elim (among_next place (Restart r) (at back.member back.number) here is_back.stands (at q (slice_index v.tops q)) (before_among (at q (slice_index v.tops q)) p)) [
              | inl among ↦ (let x = ((just (at q (slice_index v.tops q))).1 ((next.0, next.1, in_cut), among)).2 in omega (arith, x, come))
              | inr same ↦ ne (ap (λ (x : Position). x.member) same)
            ])
      ]

      pub may_have : MayHave v back
      may_have q below = (
        λ same. ap (slice_index v.tops) same ∙ own_top,
        λ ne. other_top q below ne,
      )

      -- and with it it has just the moment's restarts
      pub just_with : (w : View) → (is_with : IsWith v back w) → (i : Position) → HasRestarted logs (cut_of w.base) i ↔ HasRestarted logs cut i × IsAmong entries (place + 1) i
      just_with w is_with i = (
        λ h. elim ((parts v is_view may_have w is_with i).0 h.2) [
          | inl x ↦ (let y = (just i).0 (h.0, h.1, x) in (y.0, among_more place i y.1))
          | inr x ↦ (
            (h.0, h.1, past_within logs (at back.member back.number) (Restart r) at_j tt past of_past cut moment has i x),
            before_among i (past_restart logs (at back.member back.number) (Restart r) at_j tt past of_past i (h.0, h.1, x)),
          )
        ],
        λ h. elim (among_next place (Restart r) (at back.member back.number) here is_back.stands i h.1) [
          | inl among ↦ (let y = (just i).1 (h.0, among) in (y.0, y.1, (parts v is_view may_have w is_with i).1 (inl y.2)))
          | inr same ↦ (h.0.0, h.0.1, (let P : Position → Type 0 = λ x. HasCome (cut_of w.base) x in subst P (sym same) (it_has v is_view may_have w is_with)))
        ],
      )

    -- these views, and those with the restart
    pub views_next : (views more : List View) → AreWith views back more → AreViewsOf entries place views → AreViewsOf entries (place + 1) more
    views_next views more with' of = record { each = each; all = all } where
      each : (k : ℕ) (w : View) → slice_get more k ≡ Some w → IsView logs w × (w.restarts.total ≤ place + 1)
      each k w at_k =
          let x = with'.from k w at_k in
          let v = of.each x.0 x.1 x.2 in
          elim x.3 [
            | inl same ↦ subst (λ (w : View). IsView logs w × (w.restarts.total ≤ place + 1)) (sym same) (v.0, (let few = v.1 in omega (arith, few)))
            | inr added ↦ (with_view x.1 v.0 added.0 w added.1, (let few = v.1 in let count = added.1.total in omega (arith, few, count)))
          ]

      all : (cut : Cut) → IsMoment logs cut → (k : ℕ) × (view : View) × (slice_get more k ≡ Some view)
          × ((i : Position) → HasRestarted logs (cut_of view.base) i ↔ HasRestarted logs cut i × IsAmong entries (place + 1) i)
      all cut moment =
          let x = of.all cut moment in
          elim (cases_lt back.number (cut back.member)) [
            | inl has ↦
                let is_view = (of.each x.0 x.1 x.2).0 in
                let may = may_have cut moment has x.1 is_view x.3 in
                let added = with'.added x.0 x.1 x.2 may in
                (added.0, added.1, added.2, just_with cut moment has x.1 is_view x.3 added.1 added.3)
            | inr hasnt ↦
                let kept = with'.kept x.0 x.1 x.2 in (
                  kept.0,
                  x.1,
                  kept.1,
                  λ i. (
                    λ h. (let y = (x.3 i).0 h in (y.0, among_more place i y.1)),
                    λ h. elim (among_next place (Restart r) (at back.member back.number) here is_back.stands i h.1) [
                      | inl among ↦ (x.3 i).1 (h.0, among)
                      | inr same ↦ absurd (let come = h.0.2 in let y : back.number < cut back.member = (let P : Position → Type 0 = λ x. HasCome cut x in subst P same come) in omega (arith, y, hasnt))
                    ],
                  ),
                )
          ]

-- ---- the views with one restart more, one after the other

index_zeros : (n q : ℕ) → slice_index (replicate n 0) q ≡ 0
index_zeros zero q = refl
index_zeros (suc n) zero = refl
index_zeros (suc n) (suc q) = index_zeros n q

pub zeros_16 : (q : ℕ) → slice_index (replicate 16 0) q ≡ 0
zeros_16 q = index_zeros 16 q

-- a view that may not have it
pub with_kept : (views more : List View) (back : RestartPast) (k : ℕ) (v : View) → slice_get views k ≡ Some v → ¬ (MayHave v back) → AreWith (take k views) back more → AreWith (take (k + 1) views) back (more ++ v ∷ [])
with_kept views more back k v here may' are = (let s : k + 1 ≡ suc k = omega arith in rw (s, take-more views k v here) (record {
  from = λ i w at_i. elim (At-push more v i w at_i) [
    | inl old ↦ (let x = are.from i w old in (x.0, x.1, At-front (take k views) (v ∷ []) x.0 x.1 x.2, x.3))
    | inr new ↦ (length (take k views), v, At-seam (take k views) v [], inl (sym new.1))
  ];
  kept = λ j x at_j. elim (At-push (take k views) v j x at_j) [
    | inl old ↦ (let y = are.kept j x old in (y.0, At-front more (v ∷ []) y.0 x y.1))
    | inr new ↦ (length more, At-seam more v [] ∙ ap Some new.1)
  ];
  added = λ j x at_j may. elim (At-push (take k views) v j x at_j) [
    | inl old ↦ (let y = are.added j x old may in (y.0, y.1, At-front more (v ∷ []) y.0 y.1 y.2, y.3))
    | inr new ↦ absurd (may' (subst (λ (x : View). MayHave x back) (sym new.1) may))
  ];
}))

-- and one that may
pub with_added : (views more : List View) (back : RestartPast) (k : ℕ) (v w : View) → slice_get views k ≡ Some v → MayHave v back → IsWith v back w → AreWith (take k views) back more
    → AreWith (take (k + 1) views) back ((more ++ v ∷ []) ++ w ∷ [])
with_added views more back k v w here may with' are = (let s : k + 1 ≡ suc k = omega arith in rw (s, take-more views k v here) (record {
  from = λ i x at_i. elim (At-push (more ++ v ∷ []) w i x at_i) [
    | inl before ↦ elim (At-push more v i x before) [
      | inl old ↦ (let y = are.from i x old in (y.0, y.1, At-front (take k views) (v ∷ []) y.0 y.1 y.2, y.3))
      | inr new ↦ (length (take k views), v, At-seam (take k views) v [], inl (sym new.1))
    ]
    | inr new ↦ (length (take k views), v, At-seam (take k views) v [], inr (may, subst (λ (x : View). IsWith v back x) new.1 with'))
  ];
  kept = λ j x at_j. elim (At-push (take k views) v j x at_j) [
    | inl old ↦ (let y = are.kept j x old in (y.0, At-front (more ++ v ∷ []) (w ∷ []) y.0 x (At-front more (v ∷ []) y.0 x y.1)))
    | inr new ↦ (length more, At-front (more ++ v ∷ []) (w ∷ []) (length more) x (At-seam more v [] ∙ ap Some new.1))
  ];
  added = λ j x at_j may'. elim (At-push (take k views) v j x at_j) [
    | inl old ↦ (let y = are.added j x old may' in (y.0, y.1, At-front (more ++ v ∷ []) (w ∷ []) y.0 y.1 (At-front more (v ∷ []) y.0 y.1 y.2), y.3))
    | inr new ↦ (length (more ++ v ∷ []), w, At-seam (more ++ v ∷ []) w [], subst (λ (x : View). IsWith x back w) new.1 with')
  ];
}))
