use Rattle.fbl_runs.proofs.Common.{ℕ, ◌≡◌, ◌≤◌, ◌+◌, ◌∙◌, arith, ap, length, List, [], None, refl, slice_get, slice_get_read, Some, subst, sym, take, take_all}
use Rattle.std.proofs.Common.{set}
use Rattle.std.proofs.lemmas.Bool.{ltb-false}
use Rattle.fbl_runs.specs.declared.links.Link.{Link}
use Rattle.fbl_runs.specs.declared.lives.StandingEvent.{StandingEvent}
use Rattle.fbl_runs.specs.Links.{AreChanged, IsPlaceOfEvent, kept}
use Rattle.fbl_runs.proofs.Listing.{read}
use Rattle.fbl_runs.proofs.LinkLaws.{changed_more, changed_same, events_take_more, events_take_none, nothing_changed, past_none}
use Rattle.fbl_runs.proofs.links.Links.keep.Goals as goal
use Rattle.fbl_runs.proofs.links.Links.keep.Goals.{in-Some+in-Some-get_mut, in-Some+in_default-get_mut, in_default}

pub loop-event-init : goal.loop-event-init
loop-event-init c = nothing_changed (IsPlaceOfEvent c.args.log.now.places.items []) kept c.args.self.now.links.items (λ p is. (let wrong : None ≡ Some is.1 = is.2 in cc))

-- the link of the next event is changed, if there is one
module _ (places : List ℕ) (events : List StandingEvent) (i : ℕ) (ev : StandingEvent) (next : slice_get events i ≡ Some ev) (old new : List Link) (changed : AreChanged (IsPlaceOfEvent places (take i events)) kept old new) where
  changed_some : (q : ℕ) (now : Link) → slice_get places ev.number ≡ Some q → slice_get new q ≡ Some now → AreChanged (IsPlaceOfEvent places (take (i + 1) events)) kept old (set new q (kept now))
  changed_some q now at_q here =
      changed_more (IsPlaceOfEvent places (take i events)) (IsPlaceOfEvent places (take (i + 1) events)) kept old new (set new q (kept now)) q (λ a. refl) (λ p. events_take_more places events i q p ev next at_q)
      (λ b at_b. (let same : now ≡ b = (let some : Some now ≡ Some b = sym here ∙ at_b in cc) in ap (λ (l : Link). set new q (kept l)) same))
      (λ none. absurd (let wrong : None ≡ Some now = sym none ∙ here in cc)) changed

  changed_none : (q : ℕ) → slice_get places ev.number ≡ Some q → slice_get new q ≡ None → AreChanged (IsPlaceOfEvent places (take (i + 1) events)) kept old new
  changed_none q at_q none =
      changed_more (IsPlaceOfEvent places (take i events)) (IsPlaceOfEvent places (take (i + 1) events)) kept old new new q (λ a. refl) (λ p. events_take_more places events i q p ev next at_q)
      (λ b at_b. absurd (let wrong : None ≡ Some b = sym none ∙ at_b in cc)) (λ none. refl) changed

  unchanged : slice_get places ev.number ≡ None → AreChanged (IsPlaceOfEvent places (take (i + 1) events)) kept old new
  unchanged none = changed_same (IsPlaceOfEvent places (take i events)) (IsPlaceOfEvent places (take (i + 1) events)) kept old new (λ p. events_take_none places events i p ev next none) changed

pub loop-event-preserved : goal.loop-event-preserved
loop-event-preserved c =
    let places = c.args.log.now.places.items in
    let events = c.args.log.now.standing.items in
    let i = c.loop-event.event-index in
    let ev = c.event-item.result in
    let new = c.loop-event.self.links.items in
    let old = c.args.self.now.links.items in
    let next : slice_get events i ≡ Some ev = read events c.deref-event-items.result.now i ev c.deref-event-items.ensures.value c.loop-event-test.true c.event-item.is in
    elim c.match-get.branch [
      | in-Some+in-Some-get_mut w ↦ (
          let q = w.in-Some.place.now in
          let now = w.in-Some-get_mut.link.now in
          let at_q : slice_get places ev.number ≡ Some q = read places c.deref.result.now ev.number q c.deref.ensures.value w.in-Some.ensures.lookup.3.0 w.in-Some.ensures.lookup.1 in
          let here : slice_get new q ≡ Some now = slice_get_read new (length new) q now refl w.in-Some-get_mut.ensures.item.3.0 w.in-Some-get_mut.ensures.item.1 in
          let done = changed_some places events i ev next old new c.loop-event.invariant q now at_q here in
          subst (λ (links : List Link). AreChanged (IsPlaceOfEvent places (take (i + 1) events)) kept old links) (sym (ap (λ l. l.links.items) w.self-is)) done)
      | in-Some+in_default-get_mut w ↦ (
          let q = w.in-Some.place.now in
          let at_q : slice_get places ev.number ≡ Some q = read places c.deref.result.now ev.number q c.deref.ensures.value w.in-Some.ensures.lookup.3.0 w.in-Some.ensures.lookup.1 in
          let none : slice_get new q ≡ None = past_none new q (ltb-false q (length new) (sym w.in_default-get_mut.ensures.item.0)) in
          let done = changed_none places events i ev next old new c.loop-event.invariant q at_q none in
          subst (λ (links : List Link). AreChanged (IsPlaceOfEvent places (take (i + 1) events)) kept old links) (sym (ap (λ l. l.links.items) w.self-is)) done)
      | in_default w ↦ (
          let past = ltb-false ev.number (length c.deref.result.now) (sym w.in_default.ensures.lookup.0) in
          let none : slice_get places ev.number ≡ None = past_none places ev.number (let size = ap length c.deref.ensures.value in omega (arith, past, size)) in
          let done = unchanged places events i ev next old new c.loop-event.invariant none in
          subst (λ (links : List Link). AreChanged (IsPlaceOfEvent places (take (i + 1) events)) kept old links) (sym (ap (λ l. l.links.items) w.self-is)) done)
    ]

pub returns : goal.returns
returns c =
    let all = c.deref-event-items.ensures.value in
    let events = c.args.log.now.standing.items in
    let past : length events ≤ c.loop-event.event-index = (let size = ap length all in let end = c.loop-event-test.false in omega (arith, size, end)) in
    subst (λ (xs : List StandingEvent). AreChanged (IsPlaceOfEvent c.args.log.now.places.items xs) kept c.args.self.now.links.items c.loop-event.self.links.items) (take_all c.loop-event.event-index events past) c.loop-event.invariant
