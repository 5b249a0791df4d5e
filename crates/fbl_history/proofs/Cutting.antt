-- A history that goes on to some of its standing events.
use Rattle.fbl_history.proofs.Common.{◌≡◌, ℕ, suc, Bool, true, false, cond, List, [], ◌∷◌, map, refl, sym, ap, arith, any-filter_same, any_passes_from_place, filter, filter-passes, Column, is_standing, undo, same_standing}
use Rattle.fbl_history.proofs.Common.{standing, is_next, go_on, false_from_ne_true, eqb-self, Send, Receipt, slice_get, Some}
use Rattle.fbl_history.specs.Laws.{OthersAreUndone}
use Rattle.fbl_history.proofs.Undoing.{same-is, next-is}

-- a standing event is the same as itself
pub same-self : (column : Column) → is_standing column ≡ true → same_standing column column ≡ true
same-self (Send q k p false) stands = simp eqb-self
same-self (Receipt p r q k s false) stands = simp eqb-self
same-self _ stands = absurd cc

-- what does not stand is not next
pub lies-past : (column : Column) (trace : List Column) → is_standing column ≡ false → is_next column trace ≡ false
lies-past column trace lies = false_from_ne_true (is_next column trace) (λ is. (let stands = (next-is column trace is).1 in absurd cc))

-- and is not undone again
pub undo-lies : (c : Column) → is_standing c ≡ false → undo c ≡ c
undo-lies (Send q k p undone) lies = grind arith
undo-lies (Receipt p r q k s undone) lies = grind arith
undo-lies _ lies = refl

-- what is next of those that stay stays
next-stays : (stays : Column → Bool) (column : Column) (columns : List Column) → is_next column (filter stays columns) ≡ true → stays column ≡ true
next-stays stays column columns is = filter-passes stays columns 0 column (ap (λ xs. slice_get xs 0) (next-is column (filter stays columns) is).0)

-- a history that goes on to some of its standing events changes each column by whether it stays
pub cut : (columns : List Column) (stays : Column → Bool) (change : Column → Column)
    → ((i : ℕ) (c : Column) → slice_get columns i ≡ Some c → change c ≡ cond (stays c) c (undo c)) → go_on columns (filter stays (standing columns)) ≡ map change columns
cut [] stays change by = refl
cut (column ∷ columns) stays change by =
    grind (arith, cut columns stays change (λ i. by (suc i)), by 0 column refl, same-self column, undo-lies column, lies-past column (filter stays (standing columns)), next-stays stays column (standing columns))

pub others_undone : OthersAreUndone
others_undone columns stays once = cut columns stays _ (λ i c here.
    (let kept = any-filter_same (same_standing c) stays (stays c) (λ k same. ap stays (sym (same-is c k same).0)) (standing columns) in
    let stand = any-filter_same (same_standing c) is_standing true (λ k same. (same-is c k same).1) columns in
    let among = λ (stands : is_standing c ≡ true). any_passes_from_place (same_standing c) columns i c here (same-self c stands) in
    grind (arith, kept, stand, among, undo-lies c)))
