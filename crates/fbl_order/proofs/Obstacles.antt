-- What keeps an entry from coming.
use Rattle.fbl_order.proofs.Common.{ℕ, List, Mark, Send, Receipt, Entry, Event, LaterReceipt, Tell, Told, Some, ◌≡◌, ◌≤◌, ◌∙◌, inl, inr, refl, sym, ap, entry_member, mark_in, marks, send_of}
use Rattle.fbl_order.proofs.Common.{Bool, true, false, BreaksControl, BreaksEvent, Breaks, Merge, Merges, Passes, cursor_of, placed_of, own, length, take_all}
use Rattle.fbl_trace.specs.declared.fault.EventRule.{EventRule}
use Rattle.fbl_trace.specs.declared.fault.EventRule.TheVariants.{NothingInFlight}
use Rattle.fbl_runs.specs.declared.fault.ControlRule.{ControlRule}
use Rattle.fbl_runs.specs.declared.fault.ControlRule.TheVariants.{NotTold}
use Rattle.fbl_runs.specs.declared.fault.LifeRule.{LifeRule}
use Rattle.fbl_order.specs.Faults.{HasAllOf, Hinders, LacksInTrace}
use Rattle.fbl_order.specs.declared.fault.Obstacle.{Obstacle}
use Rattle.fbl_order.specs.declared.known.BrokenRule.{BrokenRule}
use Rattle.fbl_order.specs.declared.known.BrokenRule.TheVariants as broken
use Rattle.fbl_order.proofs.Common.{MatchOption, MayCome, None, Option, subst}

-- what hinders the entry where members restart, or where none does, hinders it
pub hindered : (has lived : Bool) (n : ℕ) (entries run : List Entry) (e : Entry) (rule : BrokenRule) (obstacle : Obstacle) → has ≡ lived → Breaks has n run e rule
    → (Breaks lived n run e rule → Hinders lived n entries run e obstacle) → Hinders has n entries run e obstacle
hindered has lived n entries run e rule obstacle same breaks hinders =
    subst (λ (b : Bool). Hinders b n entries run e obstacle) (sym same) (hinders (subst (λ (b : Bool). Breaks b n run e rule) same breaks))

-- ---- where no member restarts

-- only a receipt finds no message in flight
pub lacks_in_trace : (n : ℕ) (before : List Entry) (e : Entry) (m : Mark) (from to : ℕ) → mark_in e ≡ Some m → BreaksEvent n (marks before) m (NothingInFlight from to)
    → LacksInTrace n before e
lacks_in_trace n before (Event x) m from to is broken = (m, is, (broken.0, (broken.1.0, broken.1.1, refl, refl, broken.1.4, broken.1.5)))
lacks_in_trace n before (LaterReceipt d life) m from to is broken = (m, is, (broken.0, (broken.1.0, broken.1.1, refl, refl, broken.1.4, broken.1.5)))
lacks_in_trace n before e m from to is broken = cc

pub receipt_passes : (n : ℕ) (run : List Mark) (e : Entry) (m : Mark) (from to : ℕ) → mark_in e ≡ Some m → BreaksEvent n run m (NothingInFlight from to)
    → (sent : Entry) × Passes sent e
receipt_passes n run e (Send from ssn to) _ _ is broken = absurd (broken.1.5 tt)
receipt_passes n run e (Receipt to rsn from ssn) _ _ is broken = (Event (Send from ssn to), inl (Send from ssn to, Receipt to rsn from ssn, refl, is, refl))

-- only a told can miss its tell
pub told_passes : (n : ℕ) (before : List Entry) (e : Entry) → BreaksControl n before e NotTold → LacksInTrace n before e × ((sent : Entry) × Passes sent e)
told_passes n before (Told m) broken = (broken, (Tell m, inr (m, refl, refl)))
told_passes n before e broken = absurd broken

-- ---- where members restart

-- an entry takes one message at most
pub passes_one : (a b e : Entry) → Passes a e → Passes b e → a ≡ b
passes_one a b e (inl x) (inl y) =
    let r : x.1 ≡ y.1 = (let some : Some x.1 ≡ Some y.1 = sym x.3 ∙ y.3 in cc) in
    let s : x.0 ≡ y.0 = (let some : Some x.0 ≡ Some y.0 = sym x.4 ∙ ap send_of r ∙ y.4 in cc) in
    x.2 ∙ ap Event s ∙ sym y.2
passes_one a b e (inl x) (inr y) = (let none : Some x.1 ≡ mark_in (Told y.0) = sym x.3 ∙ ap mark_in y.2 in absurd cc)
passes_one a b e (inr x) (inl y) = (let none : Some y.1 ≡ mark_in (Told x.0) = sym y.3 ∙ ap mark_in x.2 in absurd cc)
passes_one a b e (inr x) (inr y) = (let same : Told x.0 ≡ Told y.0 = sym x.2 ∙ y.2 in let one : x.0 ≡ y.0 = cc in x.1 ∙ ap Tell one ∙ sym y.1)

-- a member whose cursor is past the last entry has all of its entries placed
pub has_all : (n : ℕ) (entries : List Entry) (merge : Merge) → Merges n entries merge → (q : ℕ) → length entries ≤ cursor_of entries merge q
    → HasAllOf entries (placed_of entries merge) q
has_all n entries merge merges q past = merges.cursors.logs q ∙ ap (own entry_member q) (take_all (cursor_of entries merge q) entries past)

-- ---- the case of a rule

pub event_case : (lived : Bool) (n : ℕ) (before : List Entry) (e : Entry) (rule : EventRule) → Breaks lived n before e (broken.Event rule) → lived ≡ false
event_case false n before e rule is = refl
event_case true n before e rule is = absurd is

pub control_case : (lived : Bool) (n : ℕ) (before : List Entry) (e : Entry) (rule : ControlRule) → Breaks lived n before e (broken.Control rule) → lived ≡ false
control_case false n before e rule is = refl
control_case true n before e rule is = absurd is

pub life_case : (lived : Bool) (n : ℕ) (before : List Entry) (e : Entry) (rule : LifeRule) → Breaks lived n before e (broken.Life rule) → lived ≡ true
life_case true n before e rule is = refl
life_case false n before e rule is = absurd is

-- what is found is a rule that is broken
pub breaks_found : (lived : Bool) (n : ℕ) (before : List Entry) (e : Entry) (o : Option BrokenRule) (rule : BrokenRule) → o ≡ Some rule
    → MatchOption o (MayCome lived n before e) (λ b. Breaks lived n before e b × ¬ (MayCome lived n before e)) → Breaks lived n before e rule
breaks_found lived n before e None rule is found = cc
breaks_found lived n before e (Some b) rule is found = (let same : b ≡ rule = cc in subst (λ (b : BrokenRule). Breaks lived n before e b) same found.0)
