use Rattle.fbl_runs.proofs.Common.{ℕ, ◌≡◌, ◌<◌, ◌≤◌, ◌+◌, ◌⊎◌, ◌↔◌, ◌∙◌, arith, ap, length, List, [], None, Option, refl, slice_get, slice_get_read, Some, subst, sym, take, take_all}
use Rattle.std.proofs.Common.{get_or, set}
use Rattle.std.proofs.lemmas.Bool.{ltb-false}
use Rattle.std.proofs.lemmas.Option.{slice_get-get_or}
use Rattle.std.specs.Option.{option_or}
use Rattle.fbl_runs.specs.declared.links.Link.{Link}
use Rattle.fbl_runs.specs.Links.{AreChanged, undone_at}
use Rattle.fbl_runs.proofs.LifeLaws.{IsIn, contains_from_in, in_from_contains}
use Rattle.fbl_runs.proofs.LinkLaws.{changed_more, changed_same, in_take_more, nothing_changed, past_none, undone_again}
use Rattle.fbl_runs.proofs.links.Links.undo.Goals as goal
use Rattle.fbl_runs.proofs.links.Links.undo.Goals.{in-Some, in_default}

pub loop-entry-init : goal.loop-entry-init
loop-entry-init c = nothing_changed (λ p. IsIn [] p) (undone_at c.args.place) c.args.self.now.links.items (λ p is. (let wrong : None ≡ Some p = is.1 in cc))

-- the link at the next place is changed, if there is one
module _ (places items : List ℕ) (same : items ≡ places) (i place : ℕ) (within : i < length items) (old new : List Link) (changed : AreChanged (IsIn (take i places)) (undone_at place) old new) where
  abbrev q : ℕ
  q = get_or items i 0

  more : (p : ℕ) → IsIn (take (i + 1) places) p ↔ IsIn (take i places) p ⊎ (p ≡ q)
  more p = in_take_more places i q p (subst (λ (xs : List ℕ). slice_get xs i ≡ Some q) same (slice_get-get_or items i 0 within))

  changed_some : (now : Link) (o : Option ℕ) → slice_get new q ≡ Some now → o ≡ option_or now.undone (Some place) → AreChanged (IsIn (take (i + 1) places)) (undone_at place) old (set new q (record now { undone = o }))
  changed_some now o here is =
      changed_more (IsIn (take i places)) (IsIn (take (i + 1) places)) (undone_at place) old new (set new q (record now { undone = o })) q (undone_again place) more
      (λ b at_b. (let b' : now ≡ b = (let some : Some now ≡ Some b = sym here ∙ at_b in cc) in ap (λ (o : Option ℕ). set new q (record now { undone = o })) is ∙ ap (λ (l : Link). set new q (undone_at place l)) b'))
      (λ none. absurd (let wrong : None ≡ Some now = sym none ∙ here in cc)) changed

  changed_none : slice_get new q ≡ None → AreChanged (IsIn (take (i + 1) places)) (undone_at place) old new
  changed_none none = changed_more (IsIn (take i places)) (IsIn (take (i + 1) places)) (undone_at place) old new new q (undone_again place) more
      (λ b at_b. absurd (let wrong : None ≡ Some b = sym none ∙ at_b in cc)) (λ none. refl) changed

pub loop-entry-preserved : goal.loop-entry-preserved
loop-entry-preserved c = elim c.match-get_mut.branch [
  | in-Some w ↦ (
      let new = c.loop-entry.self.links.items in
      let k = get_or c.deref-entry-items.result.now c.loop-entry.entry-index 0 in
      let now = w.in-Some.link.now in
      let here : slice_get new k ≡ Some now = slice_get_read new (length new) k now refl w.in-Some.ensures.item.3.0 w.in-Some.ensures.item.1 in
      let done = changed_some c.args.log.now.places.items c.deref-entry-items.result.now c.deref-entry-items.ensures.value c.loop-entry.entry-index c.args.place c.loop-entry-test.true c.args.self.now.links.items new c.loop-entry.invariant now w.or-link.result here w.or-link.ensures in
      subst (λ (links : List Link). AreChanged (IsIn (take (c.loop-entry.entry-index + 1) c.args.log.now.places.items)) (undone_at c.args.place) c.args.self.now.links.items links) (sym (ap (λ l. l.links.items) w.self-is)) done)
  | in_default w ↦ (
      let new = c.loop-entry.self.links.items in
      let k = get_or c.deref-entry-items.result.now c.loop-entry.entry-index 0 in
      let none : slice_get new k ≡ None = past_none new k (ltb-false k (length new) (sym w.in_default.ensures.item.0)) in
      let done = changed_none c.args.log.now.places.items c.deref-entry-items.result.now c.deref-entry-items.ensures.value c.loop-entry.entry-index c.args.place c.loop-entry-test.true c.args.self.now.links.items new c.loop-entry.invariant none in
      subst (λ (links : List Link). AreChanged (IsIn (take (c.loop-entry.entry-index + 1) c.args.log.now.places.items)) (undone_at c.args.place) c.args.self.now.links.items links) (sym (ap (λ l. l.links.items) w.self-is)) done)
]

pub returns : goal.returns
returns c =
    let all = c.deref-entry-items.ensures.value in
    let places = c.args.log.now.places.items in
    let past : length places ≤ c.loop-entry.entry-index = (let size = ap length all in let end = c.loop-entry-test.false in omega (arith, size, end)) in
    let whole = take_all c.loop-entry.entry-index places past in
    changed_same _ _ (undone_at c.args.place) c.args.self.now.links.items c.loop-entry.self.links.items
    (λ p. (λ has. subst (λ (xs : List ℕ). IsIn xs p) (sym whole) (in_from_contains places p has), λ is. contains_from_in places p (subst (λ (xs : List ℕ). IsIn xs p) whole is)))
    c.loop-entry.invariant
