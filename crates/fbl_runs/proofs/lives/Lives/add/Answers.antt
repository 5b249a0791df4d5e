use Rattle.fbl_runs.proofs.Common.{ℕ, ◌≡◌, ◌≢◌, ◌<◌, ◌++◌, ◌∷◌, [], ◌∙◌, append-nil, arith, ap, Bool, cond, ControlMessage, Entry, entry_member, Event, false, length, List, mark_in, Option, refl, Restart, restart_in, slice_get, Some, subst, sym, Tell}
use Rattle.std.proofs.Common.{set}
use Rattle.std.proofs.lemmas.List.{set-set}
use Rattle.std.specs.HashMap as hash_map
use Rattle.fbl_trace.specs.declared.trace.Mark.{Mark}
use Rattle.fbl_runs.specs.ControlMessages.{same_control}
use Rattle.fbl_runs.specs.declared.lives.KnownLog.{KnownLog}
use Rattle.fbl_runs.specs.declared.lives.Life.{Life}
use Rattle.fbl_runs.specs.declared.lives.StandingEvent.{StandingEvent}
use Rattle.fbl_runs.specs.KnownLives.{HasLived, IsLifeAt, IsTellPlace, events_after, sent_now}
use Rattle.fbl_runs.specs.Rules.{IsLawful, is_send}
use Rattle.fbl_runs.proofs.Listing.{read_number}
use Rattle.fbl_runs.proofs.LifeLaws.{restart_is}
use Rattle.fbl_runs.proofs.LivedLaws.{begun_kept, lived_kept, lived_on, set_here, set_itself, tells_kept, tells_more}
use Rattle.fbl_runs.proofs.lives.Lives.add.Goals as goal
use Rattle.fbl_runs.proofs.lives.Lives.add.Goals.{In_ok-number}

-- ---- what is known once the log has the entry

at_log : (c : In_ok-number) → slice_get c.args.self.now.logs.items (entry_member c.args.entry.now) ≡ Some c.index_mut.result.now
at_log c =
    let logs = c.args.self.now.logs.items in
    let below : c.number-at.result < length logs = (let room = c.args.self.now.room in let bound = c.number-at.ensures.bound in omega (arith, room, bound)) in
    read_number logs c.number-at.result (entry_member c.args.entry.now) c.index_mut.result.now (c.number-at.ensures.value ∙ c.member.ensures) below c.index_mut.ensures.value

below : (c : In_ok-number) → entry_member c.args.entry.now < 16
below c = (let bound = c.number-at.ensures.bound in let same = c.number-at.ensures.value ∙ c.member.ensures in omega (arith, bound, same))

logs_are : (c : In_ok-number) → set c.args.self.now.logs.items c.number-at.result c.add.new.self ≡ set c.args.self.now.logs.items (entry_member c.args.entry.now) c.add.new.self
logs_are c = ap (λ (i : ℕ). set c.args.self.now.logs.items i c.add.new.self) (c.number-at.ensures.value ∙ c.member.ensures)

at_added : (c : In_ok-number) → slice_get (set c.args.self.now.logs.items c.number-at.result c.add.new.self) (entry_member c.args.entry.now) ≡ Some c.add.new.self
at_added c =
    ap (λ s. slice_get s (entry_member c.args.entry.now)) (logs_are c)
    ∙ set_here c.args.self.now.logs.items (entry_member c.args.entry.now) c.index_mut.result.now c.add.new.self (at_log c)

places_are : (c : In_ok-number) (before : List Entry) → c.args.place ≡ length before → c.add.new.self.places.items ≡ c.index_mut.result.now.places.items ++ length before ∷ []
places_are c before at_end = c.in_ok-number.ensures.places ∙ ap (λ (p : ℕ). c.index_mut.result.now.places.items ++ p ∷ []) at_end

-- ---- the kinds of entries

no_send : (e : Entry) → ((m : Mark) → e ≢ Event m) → is_send e ≡ false
no_send (Event m) other = absurd (other m refl)
no_send e other = refl

nothing_sent : (e : Entry) (n : ℕ) (items : List StandingEvent) → is_send e ≡ false → items ≡ items ++ sent_now e n
nothing_sent e n items other = sym (append-nil items) ∙ ap (λ (b : Bool). items ++ cond b (record { number = n; entry = e } ∷ []) []) (sym other)

event_no_tell : (e : Entry) (m : Mark) → e ≡ Event m → (t : ControlMessage) → e ≢ Tell t
event_no_tell e m is t same = (let wrong : Event m ≡ Tell t = sym is ∙ same in cc)

-- a restart begins a life, and keeps the others
restarted : (c : goal.In_ok-begin) (n : ℕ) (before : List Entry) → HasLived before c.args.self.now → IsLawful n before c.args.entry.now → c.args.place ≡ length before
    → HasLived (before ++ c.args.entry.now ∷ []) c.begin.new.self
    × ((a q f : ℕ) → IsLifeAt c.args.self.now.lives.items a q f → IsLifeAt c.begin.new.self.lives.items a q f)
restarted c n before has law at_end =
    let c2 = (goal.at.returns-in-Some-clause-lived c).In_ok-number in
    let e = c.args.entry.now in
    let r = c.in-Some.restart in
    let is : e ≡ Restart r = restart_is e r (sym c.in-Some.ensures) in
    let m : entry_member e ≡ r.member = ap entry_member is in
    let old = c.index_mut.result.now in
    let new = c.add.new.self in
    let added = subst (λ (q : ℕ). slice_get (set c.args.self.now.logs.items c.number-at.result new) q ≡ Some new) m (at_added c2) in
    let b = c.in_ok-begin.ensures.lives new added in
    let last : KnownLog = record new { life = length c.args.self.now.lives.items } in
    let same_at : c.number-at.result ≡ r.member = c.number-at.ensures.value ∙ c.member.ensures ∙ m in
    let logs : set (set c.args.self.now.logs.items c.number-at.result new) r.member last ≡ set c.args.self.now.logs.items r.member last =
    ap (λ (i : ℕ). set (set c.args.self.now.logs.items i new) r.member last) same_at ∙ set-set c.args.self.now.logs.items r.member new last in
    let begun = begun_kept before c.args.self.now has n r (subst (IsLawful n before) is law) (subst (λ (q : ℕ). q < 16) m (below c2)) old last c.begin.new.self
    (subst (λ (q : ℕ). slice_get c.args.self.now.logs.items q ≡ Some old) m (at_log c2)) (b.3 ∙ logs) (places_are c2 before at_end)
    (c.in_ok-number.ensures.standing ∙ ap (λ (e : Entry). events_after (restart_in e) (mark_in e) e (length old.places.items) old.standing.items) is)
    refl _ b.2 refl refl (ap Some c.in_ok-number.ensures.number) b.1
    (λ t. subst (λ o. IsTellPlace (before ++ Restart r ∷ []) t o) (ap (λ tells. hash_map.get same_control tells t) (sym c.in_ok-begin.ensures.tells))
    (tells_kept before (Restart r) t (hash_map.get same_control c.args.self.now.tells t) (λ same. cc) (has.tells t))) in
    (subst (λ (e : Entry). HasLived (before ++ e ∷ []) c.begin.new.self) (sym is) begun.0, begun.1)

pub returns-in-Some-clause-lived : goal.returns-in-Some-clause-lived
returns-in-Some-clause-lived c n before has law at_end = (restarted c n before has law at_end).0

pub returns-in-Some-clause-kept : goal.returns-in-Some-clause-kept
returns-in-Some-clause-kept c n before has law at_end = (restarted c n before has law at_end).1

-- a send or a receipt is of the member's last life, and keeps them all
went_on : (c : goal.In_ok-note-in-Event) (n : ℕ) (before : List Entry) → HasLived before c.args.self.now → IsLawful n before c.args.entry.now → c.args.place ≡ length before
    → HasLived (before ++ c.args.entry.now ∷ []) c.note.new.self
    × ((a q f : ℕ) → IsLifeAt c.args.self.now.lives.items a q f → IsLifeAt c.note.new.self.lives.items a q f)
went_on c n before has law at_end =
    let c2 = (goal.at.returns-in_ok-note-in-Event-clause-lived c).In_ok-number in
    let e = c.args.entry.now in
    let is : e ≡ Event c.in-Event.field-0 = c.in-Event.is in
    let old = c.index_mut.result.now in
    let new = c.add.new.self in
    let life = (has.logs (entry_member e) old (at_log c2)).life in
    let at_life : slice_get c.args.self.now.lives.items new.life ≡ Some life.0 = ap (slice_get c.args.self.now.lives.items) c.in_ok-number.ensures.life ∙ life.1 in
    let b = c.in_ok-note-in-Event.ensures.lives new life.0 (at_added c2) at_life in
    let more : Life = record life.0 { sends = b.0 } in
    lived_kept before c.args.self.now has n e law (below c2) (ap restart_in is) old new c.note.new.self (at_log c2) (ap (λ v. v.items) c.in_ok-note-in-Event.ensures.rest.0 ∙ logs_are c2) (places_are c2 before at_end)
    c.in_ok-number.ensures.standing c.in_ok-number.ensures.life life.0 more life.1 (b.2 ∙ ap (λ (i : ℕ). set c.args.self.now.lives.items i more) c.in_ok-number.ensures.life) refl refl refl
    (b.1 ∙ ap (λ (k : ℕ). life.0.sends.items ++ sent_now e k) c.in_ok-number.ensures.number)
    (λ t. subst (λ o. IsTellPlace (before ++ e ∷ []) t o) (ap (λ tells. hash_map.get same_control tells t) (sym c.in_ok-note-in-Event.ensures.rest.1))
    (tells_kept before e t (hash_map.get same_control c.args.self.now.tells t) (event_no_tell e c.in-Event.field-0 is t) (has.tells t)))

pub returns-in_ok-note-in-Event-clause-lived : goal.returns-in_ok-note-in-Event-clause-lived
returns-in_ok-note-in-Event-clause-lived c n before has law at_end = (went_on c n before has law at_end).0

pub returns-in_ok-note-in-Event-clause-kept : goal.returns-in_ok-note-in-Event-clause-kept
returns-in_ok-note-in-Event-clause-kept c n before has law at_end = (went_on c n before has law at_end).1

pub returns-in_ok-insert-in-Tell-clause-lived : goal.returns-in_ok-insert-in-Tell-clause-lived
returns-in_ok-insert-in-Tell-clause-lived c n before has law at_end =
    let c2 = (goal.at.returns-in_ok-insert-in-Tell-clause-lived c).In_ok-number in
    let e = c.args.entry.now in
    let is : e ≡ Tell c.in-Tell.message = c.in-Tell.is in
    let old = c.index_mut.result.now in
    let life = (has.logs (entry_member e) old (at_log c2)).life in
    let get : ControlMessage → Option ℕ = hash_map.get same_control c.insert.new.self in
    let writes : (t : ControlMessage) → get t ≡ cond (same_control c.in-Tell.message t) (Some (length before)) (hash_map.get same_control c.args.self.now.tells t) =
    λ t. c.in_ok-insert-in-Tell.ensures.updates.0 t ∙ ap (λ (p : ℕ). cond (same_control c.in-Tell.message t) (Some p) (hash_map.get same_control c.args.self.now.tells t)) at_end in
    lived_on before c.args.self.now has n e law (below c2) (ap restart_in is) old c.add.new.self _ (at_log c2) (logs_are c2) (places_are c2 before at_end)
    c.in_ok-number.ensures.standing c.in_ok-number.ensures.life life.0 life.0 life.1 (set_itself c.args.self.now.lives.items old.life life.0 life.1) refl refl refl
    (nothing_sent e (length old.places.items) life.0.sends.items (ap is_send is))
    (λ t. subst (λ (x : Entry). IsTellPlace (before ++ x ∷ []) t (get t)) (sym is) (tells_more before c.in-Tell.message (hash_map.get same_control c.args.self.now.tells) get writes has.tells t))

pub returns-in_ok-insert-in-Tell-clause-kept : goal.returns-in_ok-insert-in-Tell-clause-kept
returns-in_ok-insert-in-Tell-clause-kept c n before has law at_end number member life is = is

pub returns-in_default-entry-clause-lived : goal.returns-in_default-entry-clause-lived
returns-in_default-entry-clause-lived c n before has law at_end =
    let c2 = (goal.at.returns-in_default-entry-clause-lived c).In_ok-number in
    let e = c.args.entry.now in
    let old = c.index_mut.result.now in
    let life = (has.logs (entry_member e) old (at_log c2)).life in
    lived_on before c.args.self.now has n e law (below c2) (sym c.in_default.ensures) old c.add.new.self _ (at_log c2) (logs_are c2) (places_are c2 before at_end)
    c.in_ok-number.ensures.standing c.in_ok-number.ensures.life life.0 life.0 life.1 (set_itself c.args.self.now.lives.items old.life life.0 life.1) refl refl refl
    (nothing_sent e (length old.places.items) life.0.sends.items (no_send e c.in_default-entry.not-Event))
    (λ t. tells_kept before e t (hash_map.get same_control c.args.self.now.tells t) (c.in_default-entry.not-Tell t) (has.tells t))

pub returns-in_default-entry-clause-kept : goal.returns-in_default-entry-clause-kept
returns-in_default-entry-clause-kept c n before has law at_end number member life is = is
