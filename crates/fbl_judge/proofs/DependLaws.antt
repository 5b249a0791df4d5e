-- The least moment with a view's restarts at which a member depends on a receipt.
use Rattle.fbl_judge.proofs.Common.{ℕ, ◌≡◌, ◌<◌, ◌≤◌, List, max, length, sym, subst, arith, slice_get_within}
use Rattle.fbl_judge.proofs.Common.{AreEntries, Determinant, Dependence, Entry, IsArrival, Logs, log_of, IsAt, Position, Precedes, at, Cut, DependsAt, IsLeastDependent, IsReceiptAt, SameRestarts, last_cut}
use Rattle.std.proofs.Common.{min, slice_index}
use Rattle.fbl_runs.specs.Clocks.{StandsAt, cut_of}
use Rattle.fbl_runs.proofs.Listing.{stands_at}
use Rattle.fbl_runs.proofs.ClockLaws.{last_there}
use Rattle.fbl_judge.specs.declared.view.View.{View}
use Rattle.fbl_judge.specs.Candidates.{IsLeastIn, IsReceiptHere, IsWithin, NoneDepends}
use Rattle.fbl_judge.specs.Pasts.{IsFirstInLife}
use Rattle.fbl_judge.specs.Views.{IsBase, IsLifeAt, IsOneLife, IsPastAndStep, IsPastAndStepAt, IsView}
use Rattle.fbl_judge.proofs.LifeLaws.{first_arrives, first_least, first_none, none_depends, one_life, same_within, within_same}
use Rattle.fbl_judge.proofs.MomentLaws.{meet, min_and, stands_less, within_moment}
use Rattle.fbl_judge.proofs.PastLaws.{past_length}
use Rattle.fbl_judge.proofs.ViewLaws.{nobody_beyond}

min_left : (x y : ℕ) → min x y ≤ x
min_left x y = grind arith

min_right : (x y : ℕ) → min x y ≤ y
min_right x y = grind arith

-- up to the ends of the logs a cut has the same
same_upto : (logs : Logs) (cut : Cut) → SameRestarts logs cut (meet cut (last_cut logs))
same_upto logs cut r = (
  λ h. (h.0, h.1, (let x = slice_get_within (logs r.member) r.number _ h.1 in (min_and (cut r.member) (length (logs r.member)) r.number).1 (h.2, x))),
  λ h. (h.0, h.1, (let x = h.2 in let y = min_left (cut r.member) (length (logs r.member)) in omega (arith, x, y))),
)

depends_upto : (logs : Logs) (cut : Cut) (i : Position) (q : ℕ) → DependsAt logs cut i q → DependsAt logs (meet cut (last_cut logs)) i q
depends_upto logs cut i q depends =
    let there = last_there depends.1 in
    let within = slice_get_within (logs q) depends.0 there.0 there.1 in
    (depends.0, depends.1, stands_less (logs q) depends.0 (min (cut q) (length (logs q))) (cut q) ((min_and (cut q) (length (logs q)) depends.0).1 (depends.2.0, within)) (min_left (cut q) (length (logs q))) depends.2)

-- so the least has no more
pub least_within : (logs : Logs) (i : Position) (q : ℕ) (cut : Cut) → IsLeastDependent logs i q cut → (p : ℕ) → cut p ≤ length (logs p)
least_within logs i q cut least p =
    let upto = least.least (meet cut (last_cut logs)) (within_moment logs cut least.moment) (same_upto logs cut) (depends_upto logs cut i q least.depends) p in
    let right = min_right (cut p) (length (logs p)) in
    omega (arith, upto, right)

base_within : (logs : Logs) (cut : Cut) → IsBase logs cut → (p : ℕ) → cut p ≤ length (logs p)
base_within logs cut base p =
    let upto = base.least (meet cut (last_cut logs)) (within_moment logs cut base.moment) (λ r. (same_upto logs cut r).0) p in
    let right = min_right (cut p) (length (logs p)) in
    omega (arith, upto, right)

-- the receipt at a place
pub receipt_at : (entries : List Entry) (place : ℕ) (d : Determinant) (i : Position) → IsReceiptHere entries place d → StandsAt entries place i → IsReceiptAt (log_of entries) d i
receipt_at entries place d i here stands = (here.0, stands_at entries place i here.0 stands here.1, here.2)

module _ (n : ℕ) (entries : List Entry) (are : AreEntries n entries) (view : View) (is_view : IsView (log_of entries) view) (q m : ℕ) (below : q < 16) (same : m ≡ q) where
  life : IsLifeAt (log_of entries) (cut_of view.base) q (slice_index view.starts m) (slice_index view.tops m)
  life = subst (λ (x : ℕ). IsLifeAt (log_of entries) (cut_of view.base) q (slice_index view.starts x) (slice_index view.tops x)) (sym same) (is_view.lives q below)

  pub view_life : IsOneLife (log_of entries q) (slice_index view.starts m) (slice_index view.tops m)
  view_life = one_life (log_of entries) (cut_of view.base) is_view.base q (slice_index view.starts m) (slice_index view.tops m) life

  -- where no entry of the life depends on it
  pub none_in_life : (i : Position) → ((k : ℕ) → slice_index view.starts m ≤ k → k < slice_index view.tops m → ¬ (Precedes Dependence (log_of entries) i (at q k))) → NoneDepends (log_of entries) i q (cut_of view.base)
  none_in_life i none = none_depends (log_of entries) (cut_of view.base) is_view.base q (slice_index view.starts m) (slice_index view.tops m) life i none

  module _ (i : Position) (d : Determinant) (receipt : IsReceiptAt (log_of entries) d i) (k : ℕ) (first : IsFirstInLife (log_of entries) i q (slice_index view.starts m) (slice_index view.tops m) k)
      (place : ℕ) (stands : StandsAt entries place (at q k)) (past : Cut) (of : IsPastAndStepAt entries place past) (more : Cut) (join : (p : ℕ) → more p ≡ max (cut_of view.base p) (past p)) where
    arrival : (e : Entry) × IsAt (log_of entries) (at q k) e × IsArrival e
    arrival = first_arrives (log_of entries) (cut_of view.base) is_view.base q (slice_index view.starts m) (slice_index view.tops m) life i d k receipt first

    of_past : IsPastAndStep (log_of entries) (at q k) past
    of_past = of (at q k) arrival.0 stands arrival.1 arrival.2

    under : (p : ℕ) → cut_of view.base p ≤ more p
    under p = (let j = join p in at_most (cut_of view.base p) (past p) (more p) j) where
      at_most : (a b c : ℕ) → c ≡ max a b → a ≤ c
      at_most a b c is = grind arith

    upto : (p : ℕ) → more p ≤ length (log_of entries p)
    upto p =
        let a = base_within (log_of entries) (cut_of view.base) is_view.base p in
        let b = past_length (log_of entries) (at q k) arrival.0 arrival.1 arrival.2 past of_past p in
        let j = join p in both_at_most (cut_of view.base p) (past p) (more p) (length (log_of entries p)) j a b where
          both_at_most : (a b c l : ℕ) → c ≡ max a b → a ≤ l → b ≤ l → c ≤ l
          both_at_most a b c l is x y = grind arith

    pub least_if_within : IsWithin view more → IsLeastIn (log_of entries) i q (cut_of view.base) more
    least_if_within within = first_least (log_of entries) (cut_of view.base) is_view.base q (slice_index view.starts m) (slice_index view.tops m) life i d receipt k first past of_past more join
        (within_same (log_of entries) (nobody_beyond n entries are) (cut_of view.base) (slice_index view.starts) (slice_index view.tops) is_view.lives more under within)

    pub none_if_more : ¬ (IsWithin view more) → NoneDepends (log_of entries) i q (cut_of view.base)
    none_if_more past' = first_none (log_of entries) (cut_of view.base) is_view.base q (slice_index view.starts m) (slice_index view.tops m) life i d receipt k first past of_past more join
        (λ same'. past' (same_within (log_of entries) (nobody_beyond n entries are) (cut_of view.base) (slice_index view.starts) (slice_index view.tops) is_view.lives more upto same'))
