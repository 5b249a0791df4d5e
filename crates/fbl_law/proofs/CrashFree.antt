-- Crash transparency: a run by deliveries alone makes the trace of a sound group, turn by turn, and leaves a group that looks like it.
use Rattle.fbl_law.proofs.Common.{◌≡◌, ℕ, zero, suc, ◌+◌, ◌<◌, ◌≤◌, ◌==◌, inl, inr, true, List, [], ◌∷◌, ◌++◌, length, take, drop, map, Option, Some, None, slice_get, refl, sym, ap, ◌∙◌, arith, subst}
use Rattle.fbl_law.proofs.Common.{filter, filter_map, nat_tests, append-nil, append_assoc, filter_map-append, map-append, length-append, take-append-drop, cases_eq, false, Bool, IsFold, after_notes, received_notes, last_taken, ◌≢◌, slice_get-map, option_map, map-At, eqb-self}
use Rattle.fbl_law.proofs.Common.{Start, Event, Mark, mark_of, member_of, Next, Action, took, sent, Lawful, MayFollow, WellFormed, sends_of, sends-step, step_events, start_of, starts_of}
use Rattle.fbl_law.proofs.Common.{action_of, actions_of, notes_of, notes_of-sent, note_of, note_of-front, responses, receipts-noted, length-filter_map, length-take, in_flight, Send, Receipt, start_events}
use Rattle.fbl_law.proofs.Common.{Message, MemberRecord, GroupRecord, Settings, IsConfig, IsSound, IsUp, knowledge, marks, member, blank, cases_lt, get_or_past, channel, progress_of, send_mark, delivery_events, step_of, SendsWell, IsDelivery}
use Rattle.fbl_law.proofs.Common.{OfRecovery, starts, delivers, cases_Bool, Stays, UpTo, one_place, receipt_of, ◌↔◌}
use Rattle.std.specs.FinSet as set
use Rattle.std.proofs.lemmas.List.{append_cancel_left}
use Rattle.std.proofs.lemmas.Grind.{same_number_lists}
use Rattle.fbl_trace.specs.declared.trace.Event.TheVariants as event
use Rattle.fbl_trace.specs.Fold.{InTurns}
use Rattle.fbl_trace.proofs.LawfulLaws.{actions-append, step-actions, notes_of-append, responses-push}
use Rattle.fbl_member.specs.Members.{record_of}
use Rattle.fbl_law.specs.CrashFree.{CrashFree, begins, goes_on, events_of, without_carried, without_table, LooksLike, CrashesAreMasked, CrashFreeIsRun, KeepsPasts}
use Rattle.fbl_law.proofs.Lists.{Contains-at, At-behind}
use Rattle.fbl_law.proofs.Safe.{never_both, up_if_none}
use Rattle.fbl_law.proofs.Receipts.{MayFollow-seam}
use Rattle.fbl_law.proofs.Channels.{flight_at}
use Rattle.fbl_law.proofs.ReplayedRecords.{mark-at, sends_in, sends_in-sent}
use Rattle.fbl_law.proofs.CutLawful.{IsNote, front_responds}
use Rattle.fbl_law.proofs.Promises.{received_counted, log_counted, up_state}
use Rattle.fbl_law.proofs.Deliveries.{started, started_is, delivered, delivered_is, free_sound, free_config, free_nobody}

-- ---- turns

module _ {N : Type 0} where
  -- a lawful trace begins with the starts
  starts_are : (n : ℕ) (done : List (Event N)) (ss : List (Start N)) (t : List (Event N)) → WellFormed n (map mark_of done ++ map mark_of t)
      → filter_map start_of (take (length ss) t) ≡ ss → done ++ take (length ss) t ≡ start_events done ss
  starts_are n done [] t obeys is = append-nil done
  starts_are n done (s ∷ ss) [] obeys is = absurd cc
  starts_are n done (s ∷ ss) (event.Receipt p r q k ∷ t) obeys is = absurd (omega (arith, ap length is, length-filter_map start_of (take (length ss) t), length-take (length ss) t))
  starts_are n done (s ∷ ss) (event.Send q k p x ∷ t) obeys is =
      let may = MayFollow-seam n (map mark_of done) (Send q k p) (map mark_of t) obeys in
      let e : Event N = event.Send q k p x in
      let first : record { from = q; to = p; note = x } ≡ s = cc in
      let later : filter_map start_of (take (length ss) t) ≡ ss = cc in
      let same : event.Send s.from (sends_of (map mark_of done) s.from + 1) s.to s.note ≡ e =
      ap (λ (z : Start N). event.Send z.from (sends_of (map mark_of done) z.from + 1) z.to z.note) (sym first) ∙ ap (λ i. event.Send q i p x) (sym may.3) in
      let rest = starts_are n (done ++ e ∷ []) ss t (rw (map-append mark_of done, append_assoc) obeys) later in
      rw same (rw append_assoc at rest)

  -- a turn is a receipt and the sends that come right after it
  turn : (n p : ℕ) (u : List Mark) (t : List (Event N)) → WellFormed n (u ++ map mark_of t) → InTurns (Some p) t
      → (sends : List (ℕ × N)) × (rest : List (Event N)) × (t ≡ step_events p (sends_of u p) sends ++ rest) × InTurns None rest
  turn n p u [] obeys turns = ([], [], refl, tt)
  turn n p u (event.Receipt to r q k ∷ t) obeys turns = ([], event.Receipt to r q k ∷ t, refl, turns)
  turn n p u (event.Send q k to x ∷ t) obeys turns =
      let own : p ≡ q = cc in
      let may = MayFollow-seam n u (Send q k to) (map mark_of t) obeys in
      let later = turn n p (u ++ Send q k to ∷ []) t (rw append_assoc obeys) (rw own turns.1) in
      let count : sends_of (u ++ Send q k to ∷ []) p ≡ sends_of u p + 1 = sends-step u (Send q k to) p ∙ rw (own, eqb-self q) refl in
      let number : k ≡ sends_of u p + 1 = rw own may.3 in
      let head : event.Send q k to x ≡ event.Send p (sends_of u p + 1) to x = ap (λ z. event.Send z k to x) (sym own) ∙ ap (λ z. event.Send p z to x) number in
      let tail : t ≡ step_events p (sends_of u p + 1) later.0 ++ later.1 = later.2 ∙ ap (λ b. step_events p b later.0 ++ later.1) count in
      ((to, x) ∷ later.0, later.1, ap (λ (e : Event N). e ∷ t) head ∙ ap (λ (es : List (Event N)). event.Send p (sends_of u p + 1) to x ∷ es) tail, later.3)

  -- so what a member does after a turn begins with a receipt
  first_took : (all : List (Event N)) (p : ℕ) (last : Option ℕ) (t : List (Event N)) → InTurns last t → ¬ (last ≡ Some p)
      → ((i to rsn from ssn : ℕ) → slice_get t i ≡ Some (event.Receipt to rsn from ssn) → (note : N) × (note_of all from ssn ≡ Some note))
      → (y : Action N) (ys : List (Action N)) → filter_map (action_of all p) t ≡ y ∷ ys → IsNote y
  first_took all p last [] turns other noted y ys is = absurd cc
  first_took all p last (event.Send q k to x ∷ t) turns other noted y ys is =
      let apart : q ≢ p = λ same. other (turns.0 ∙ ap Some same) in
      let no : (q == p) ≡ false = grind (arith, nat_tests) in
      first_took all p (Some q) t turns.1 (λ same. apart (cc)) (λ i. noted (suc i)) y ys (rw no at is)
  first_took all p last (event.Receipt to r q k ∷ t) turns other noted y ys is = elim (cases_eq to p) [
    | inl own ↦
        let note = noted 0 to r q k refl in
        let here = rw (own, eqb-self p, note.1) at is in
        let same : took note.0 ≡ y = cc in
        subst IsNote same tt
    | inr apart ↦
        let no : (to == p) ≡ false = grind (arith, nat_tests) in
        first_took all p (Some to) t turns (λ same. apart (cc)) (λ i. noted (suc i)) y ys (rw no at is)
  ]

-- ---- one delivery more

-- a group whose trace is a front of a lawful one, up to a turn
module _ {S N : Type 0} (next : Next S N) (well : SendsWell next) (g : GroupRecord S N) (sound : IsSound next g) (nobody : g.down ≡ set.empty)
    (t : List (Event N)) (lawful : Lawful next g.config.members g.config.starts t) (fits : length t ≤ g.config.limit) where
  abbrev n : ℕ
  n = g.config.members

  up : (m : ℕ) → IsUp (knowledge g) m
  up = up_if_none nobody

  module _ (p rsn q s : ℕ) (rest : List (Event N)) (split : t ≡ g.trace ++ event.Receipt p rsn q s ∷ rest) where
    obeys : WellFormed n (marks g ++ Receipt p rsn q s ∷ map mark_of rest)
    obeys = rw (ap (map mark_of) split ∙ map-append mark_of g.trace (event.Receipt p rsn q s ∷ rest)) at lawful.well_formed

    may : MayFollow n (marks g) (Receipt p rsn q s)
    may = MayFollow-seam n (marks g) (Receipt p rsn q s) (map mark_of rest) obeys

    -- its message is the first of its channel
    pub message : (v : Message N) × (slice_get (channel g q p) 0 ≡ Some v) × (send_mark v ≡ Send q s p)
    message =
        map-At send_mark (channel g q p) 0 (Send q s p)
        (ap (λ (ms : List Mark). slice_get ms 0) (sound.causes.channels q p (up q) (up p))
        ∙ slice_get-map (λ ssn. Send q ssn p) (in_flight (marks g) q p) 0 ∙ ap (option_map (λ ssn. Send q ssn p)) may.5)

  module _ (v : Message N) (rsn : ℕ) (rest : List (Event N)) (split : t ≡ g.trace ++ event.Receipt v.to rsn v.from v.ssn ∷ rest) (turns : InTurns (Some v.to) rest)
      (front : slice_get (channel g v.from v.to) 0 ≡ Some v) where
    may_come : MayFollow n (marks g) (Receipt v.to rsn v.from v.ssn)
    may_come = may v.to rsn v.from v.ssn rest split

    abbrev sent_so_far : ℕ
    sent_so_far = length (member g v.to).log

    count : sends_of (marks g ++ Receipt v.to rsn v.from v.ssn ∷ []) v.to ≡ sent_so_far
    count = omega (arith, sends-step (marks g) (Receipt v.to rsn v.from v.ssn) v.to, log_counted next g sound v.to may_come.1 (up v.to))

    its_turn : (sends : List (ℕ × N)) × (after : List (Event N)) × (rest ≡ step_events v.to sent_so_far sends ++ after) × InTurns None after
    its_turn =
        let parts = turn n v.to (marks g ++ Receipt v.to rsn v.from v.ssn ∷ []) rest (rw append_assoc (obeys v.to rsn v.from v.ssn rest split)) turns in
        (parts.0, parts.1, parts.2 ∙ ap (λ b. step_events v.to b parts.0 ++ parts.1) count, parts.3)

    abbrev after : List (Event N)
    after = its_turn.1

    noted : note_of t v.from v.ssn ≡ Some v.note
    noted = rw split (note_of-front g.trace _ v.from v.ssn v.note (sound.notes v (Contains-at (channel g v.from v.to) 0 v front)))

    -- what the member has done when it has made this turn
    abbrev before : List (Action N)
    before = actions_of g.trace v.to

    abbrev done : List (Action N)
    done = before ++ took v.note ∷ map sent its_turn.0

    -- the trace with its turns apart
    abbrev with : ℕ → List (ℕ × N) → List (Event N)
    with number sends = g.trace ++ event.Receipt v.to number v.from v.ssn ∷ step_events v.to sent_so_far sends

    parted : t ≡ with rsn its_turn.0 ++ after
    parted = split ∙ ap (λ (es : List (Event N)). g.trace ++ event.Receipt v.to rsn v.from v.ssn ∷ es) its_turn.2 ∙ sym (append_assoc g.trace (event.Receipt v.to rsn v.from v.ssn ∷ step_events v.to sent_so_far its_turn.0) after)

    noted_after : (i to rsn' from ssn : ℕ) → slice_get after i ≡ Some (event.Receipt to rsn' from ssn) → (note : N) × (note_of t from ssn ≡ Some note)
    noted_after i to rsn' from ssn here =
        let place = At-behind (with rsn its_turn.0) after i (event.Receipt to rsn' from ssn) here in
        receipts-noted n t lawful.well_formed place.0 to rsn' from ssn (ap (λ (u : List (Event N)). slice_get u place.0) parted ∙ place.2)

    then : actions_of t v.to ≡ done ++ filter_map (action_of t v.to) after
    then =
        let new = event.Receipt v.to rsn v.from v.ssn ∷ (step_events v.to sent_so_far its_turn.0 ++ after) in
        let all : t ≡ g.trace ++ new = parted ∙ append_assoc g.trace _ after in
        let acts : filter_map (action_of t v.to) new ≡ took v.note ∷ (map sent its_turn.0 ++ filter_map (action_of t v.to) after) =
        rw (eqb-self v.to, noted, filter_map-append (action_of t v.to), step-actions t v.to v.to sent_so_far its_turn.0, eqb-self v.to) refl in
        ap (λ (u : List (Event N)). actions_of u v.to) all ∙ actions-append n g.trace new v.to sound.lawful.well_formed
        ∙ ap (λ (u : List (Event N)). before ++ filter_map (action_of u v.to) new) (sym all) ∙ ap (λ (as' : List (Action N)). before ++ as') acts
        ∙ sym (append_assoc before (took v.note ∷ map sent its_turn.0) (filter_map (action_of t v.to) after))

    answered : its_turn.0 ≡ (step_of next g v).sends.items
    answered =
        let begins' = map sent (starts_of v.to g.config.starts) in
        let first = next.initial v.to n in
        let state = up_state next g sound v.to may_come.1 (up v.to) in
        let items = (step_of next g v).sends.items in
        let made = front_responds next v.to n first (starts_of v.to g.config.starts) (notes_of (actions_of t v.to)) done (filter_map (action_of t v.to) after)
        (first_took t v.to None after its_turn.3 (λ same. absurd cc) noted_after) (sym then ∙ lawful.responds v.to) in
        let notes : notes_of done ≡ notes_of before ++ v.note ∷ [] = notes_of-append before (took v.note ∷ map sent its_turn.0) ∙ ap (λ (ys : List N). notes_of before ++ v.note ∷ ys) (notes_of-sent its_turn.0) in
        let pushed : responses next v.to n first (notes_of before ++ v.note ∷ []) ≡ responses next v.to n first (notes_of before) ++ (took v.note ∷ map sent items) =
        responses-push next v.to n first (notes_of before) v.note
        ∙ ap (λ (k : S). responses next v.to n first (notes_of before) ++ (took v.note ∷ map sent (next.step v.to n k v.note).sends.items)) (sym state) in
        let whole : done ≡ before ++ (took v.note ∷ map sent items) =
        made ∙ ap (λ (ns : List N). begins' ++ responses next v.to n first ns) notes ∙ ap (λ (as' : List (Action N)). begins' ++ as') pushed
        ∙ sym (append_assoc begins' (responses next v.to n first (notes_of before)) (took v.note ∷ map sent items))
        ∙ ap (λ (as' : List (Action N)). as' ++ (took v.note ∷ map sent items)) (sym (sound.lawful.responds v.to)) in
        let same = append_cancel_left before (took v.note ∷ map sent its_turn.0) (took v.note ∷ map sent items) whole in
        sym (sends_in-sent its_turn.0) ∙ ap sends_in same ∙ sends_in-sent items

    -- so the turn is the delivery's
    whole : t ≡ (g.trace ++ delivery_events next g v) ++ after
    whole =
        let number : rsn ≡ (member g v.to).received + 1 = omega (arith, may_come.3, received_counted next g sound v.to may_come.1 (up v.to)) in
        parted ∙ ap (λ k. with k its_turn.0 ++ after) number ∙ ap (λ (xs : List (ℕ × N)). with ((member g v.to).received + 1) xs ++ after) answered

    -- the delivery, and what is left of the trace
    pub moves : IsDelivery next g (delivered next g v) v
        × ((left : List (Event N)) × (t ≡ (g.trace ++ delivery_events next g v) ++ left) × InTurns None left × (length left ≤ length rest))
    moves = (
      delivered_is next g v well sound nobody front may_come.0 may_come.1 (omega (arith, ap length whole, length-append (g.trace ++ delivery_events next g v) after, fits)),
      (after, whole, its_turn.3, omega (arith, ap length its_turn.2, length-append (step_events v.to sent_so_far its_turn.0) after)),
    )

-- ---- the run that makes a lawful trace

module _ {S N : Type 0} (next : Next S N) (well : SendsWell next) (c : Settings N) (is : IsConfig next.allowed c)
    (t : List (Event N)) (lawful : Lawful next c.members c.starts t) (fits : length t ≤ c.limit) where
  -- a run by deliveries alone makes the trace
  abbrev pub IsMade : S → Type 0
  IsMade outside = (g : GroupRecord S N) × CrashFree next c g × (g.trace ≡ t) × (g.outside ≡ outside)

  along : (k : ℕ) (rest : List (Event N)) (g : GroupRecord S N) → length rest ≤ k → CrashFree next c g → t ≡ g.trace ++ rest → InTurns None rest → IsMade g.outside
  along k [] g few run split turns = (g, run, sym (split ∙ append-nil g.trace), refl)
  along k (event.Send q ssn p x ∷ rest) g few run split turns = absurd cc
  along zero (event.Receipt p rsn q s ∷ rest) g few run split turns = absurd (omega arith)
  along (suc k) (event.Receipt p rsn q s ∷ rest) g few run split turns =
      let sound = free_sound next well is run in
      let nobody = free_nobody next well is run in
      let config : g.config ≡ c = free_config next well is run in
      let its_lawful : Lawful next g.config.members g.config.starts t = rw config lawful in
      let its_room : length t ≤ g.config.limit = rw config fits in
      let found = message next well g sound nobody t its_lawful its_room p rsn q s rest split in
      let v = found.0 in
      let sent_as : send_mark v ≡ Send q s p = found.2 in
      let from : v.from ≡ q = cc in
      let to : v.to ≡ p = cc in
      let ssn : v.ssn ≡ s = cc in
      let event_is : event.Receipt p rsn q s ≡ event.Receipt v.to rsn v.from v.ssn = cc in
      let its_split : t ≡ g.trace ++ event.Receipt v.to rsn v.from v.ssn ∷ rest = split ∙ ap (λ (e : Event N). g.trace ++ e ∷ rest) event_is in
      let its_turns : InTurns (Some v.to) rest = subst (λ (m : ℕ). InTurns (Some m) rest) (sym to) turns in
      let its_front : slice_get (channel g v.from v.to) 0 ≡ Some v = ap (λ m. slice_get (channel g m v.to) 0) from ∙ ap (λ m. slice_get (channel g q m) 0) to ∙ found.1 in
      let more = moves next well g sound nobody t its_lawful its_room v rsn rest its_split its_turns its_front in
      along k more.1.0 (delivered next g v) (omega (arith, more.1.3, few)) (goes_on run more.0) more.1.1 more.1.2

  pub lawful_is_made : (outside : S) → IsMade outside
  lawful_is_made outside =
      let begins_so : take (length c.starts) t ≡ start_events [] c.starts = starts_are c.members [] c.starts t lawful.well_formed lawful.starts_first in
      along (length (drop (length c.starts) t)) (drop (length c.starts) t) (started next outside c) (omega arith) (begins (started_is next outside c is))
      (sym (take-append-drop (length c.starts) t) ∙ ap (λ (es : List (Event N)). es ++ drop (length c.starts) t) begins_so) lawful.turns

-- ---- what looks the same

module _ {N : Type 0} where
  -- messages with the same names, and the notes that these have
  pub same_messages : (note : ℕ → ℕ → Option N) (xs ys : List (Message N)) → map send_mark xs ≡ map send_mark ys
      → ((i : ℕ) (v : Message N) → slice_get xs i ≡ Some v → note v.from v.ssn ≡ Some v.note) → ((i : ℕ) (v : Message N) → slice_get ys i ≡ Some v → note v.from v.ssn ≡ Some v.note)
      → map without_carried xs ≡ map without_carried ys
  same_messages note [] [] is of_xs of_ys = refl
  same_messages note [] (y ∷ ys) is of_xs of_ys = absurd cc
  same_messages note (x ∷ xs) [] is of_xs of_ys = absurd cc
  same_messages note (x ∷ xs) (y ∷ ys) is of_xs of_ys =
      let rest = same_messages note xs ys (cc) (λ i. of_xs (suc i)) (λ i. of_ys (suc i)) in
      let mark : send_mark x ≡ send_mark y = cc in
      let from : x.from ≡ y.from = cc in
      let ssn : x.ssn ≡ y.ssn = cc in
      let to : x.to ≡ y.to = cc in
      let noted : note x.from x.ssn ≡ Some y.note = rw (from, ssn) (of_ys 0 y refl) in
      let same : Some x.note ≡ Some y.note = sym (of_xs 0 x refl) ∙ noted in
      let content : x.note ≡ y.note = cc in
      let first : without_carried x ≡ without_carried y = cc in
      cc

module _ {S N : Type 0} where
  -- records that have come equally far
  same_records : (x y : MemberRecord S N) → progress_of x ≡ progress_of y → x.last ≡ y.last → without_table x ≡ without_table y
  same_records x y far last = ap (λ p. record_of p x.last []) far ∙ ap (λ l. record_of (progress_of y) l []) last

  -- sound groups of one configuration with one trace, in the second of which nobody is down
  pub same_looks : (next : Next S N) (r other : GroupRecord S N) → IsSound next r → IsSound next other → other.config ≡ r.config → other.down ≡ set.empty → other.trace ≡ r.trace → other.outside ≡ r.outside → LooksLike r other
  same_looks next r other sound its_sound config nobody trace outside = record { config = sym config; trace = sym trace; members = members; channels = channels } where
    up : (m : ℕ) → IsUp (knowledge other) m
    up = up_if_none nobody

    among : (m : ℕ) → m < r.config.members → IsUp (knowledge r) m → without_table (member r m) ≡ without_table (member other m)
    among m below up_m =
        let of_r = sound.folds m below up_m in
        let of_other : IsFold next other m = its_sound.folds m (rw config below) (up m) in
        let far : progress_of (member other m) ≡ after_notes next m r.config.members r.config.starts (received_notes r.trace m) = rw (config, trace) at of_other.progress in
        same_records (member r m) (member other m) (of_r.progress ∙ sym far)
        (same_number_lists (member r m).last (member other m).last (of_r.places ∙ sym of_other.places)
        (λ q within. (let few : q < 16 = omega (arith, within, of_r.places) in of_r.last q few ∙ ap (λ (u : List (Event N)). last_taken (map mark_of u) q m) (sym trace) ∙ sym (of_other.last q few))))

    members : (m : ℕ) → IsUp (knowledge r) m → without_table (member r m) ≡ without_table (member other m)
    members m up_m = elim (cases_lt m r.config.members) [
      | inl below ↦ among m below up_m
      | inr past ↦ rw (get_or_past r.members m (blank r.outside) (omega (arith, sound.members, past)), get_or_past other.members m (blank other.outside) (omega (arith, its_sound.members, ap (λ c. c.members) config, past)), outside) refl
    ]

    channels : (q p : ℕ) → IsUp (knowledge r) q → IsUp (knowledge r) p → map without_carried (channel r q p) ≡ map without_carried (channel other q p)
    channels q p up_q up_p =
        same_messages (note_of r.trace) (channel r q p) (channel other q p)
        (sound.causes.channels q p up_q up_p ∙ ap (λ (u : List (Event N)). map (λ ssn. Send q ssn p) (in_flight (map mark_of u) q p)) (sym trace) ∙ sym (its_sound.causes.channels q p (up q) (up p)))
        (λ i v here. sound.notes v (flight_at sound.causes q p i v here).0)
        (λ i v here. ap (λ (u : List (Event N)). note_of u v.from v.ssn) (sym trace) ∙ its_sound.notes v (flight_at its_sound.causes q p i v here).0)

pub crashes_are_masked : (S N : Type 0) → CrashesAreMasked S N
crashes_are_masked S N next r well sound =
    let made = lawful_is_made next well r.config sound.config r.trace sound.lawful sound.room r.outside in
    let run = made.1 in
    record {
      other = made.0;
      run = run;
      looks = same_looks next r made.0 sound (free_sound next well sound.config run) (free_config next well sound.config run) (free_nobody next well sound.config run) made.2 made.3;
    }

pub crash_free_is_run : (S N : Type 0) → CrashFreeIsRun S N
crash_free_is_run S N next c r (begins is) = (r, is, starts)
crash_free_is_run S N next c r (goes_on {old = old} run one) = (let before = crash_free_is_run S N next c old run in (before.0, before.1, delivers before.2 one))

-- what passes a test is all left by another test that each of it passes
filter_through : {X : Type 0} (p k : X → Bool) (xs : List X) → ((i : ℕ) (x : X) → slice_get xs i ≡ Some x → p x ≡ true → k x ≡ true) → filter p (filter k xs) ≡ filter p xs
filter_through p k [] all = refl
filter_through p k (x ∷ xs) all = (let rest = filter_through p k xs (λ i. all (suc i)) in let here = all 0 x refl in grind (arith, nat_tests, rest, here))

-- where of what passes a test only a front passes another, what is left is a front
none_left : {X : Type 0} (p k : X → Bool) (xs : List X) → ((i : ℕ) (x : X) → slice_get xs i ≡ Some x → p x ≡ true → k x ≡ false) → filter p (filter k xs) ≡ []
none_left p k [] none = refl
none_left p k (x ∷ xs) none = (let rest = none_left p k xs (λ i. none (suc i)) in let here = none 0 x refl in grind (arith, nat_tests, rest, here))

front_left : {X : Type 0} (p k : X → Bool) (xs : List X)
    → ((i j : ℕ) (x y : X) → i < j → slice_get xs i ≡ Some x → slice_get xs j ≡ Some y → p x ≡ true → p y ≡ true → k y ≡ true → k x ≡ true)
    → (rest : List X) × (filter p xs ≡ filter p (filter k xs) ++ rest)
front_left p k [] front = ([], refl)
front_left {X} p k (x ∷ xs) front =
    let later = front_left p k xs (λ i j y z before. front (suc i) (suc j) y z (omega (arith, before))) in
    elim (cases_Bool (p x)) [
      | inr is ↦ (later.0, elim (cases_Bool (k x)) [ inl kept ↦ rw (kept, is) later.1 | inr gone ↦ rw (gone, is) later.1 ])
      | inl is ↦ elim (cases_Bool (k x)) [
        | inl kept ↦ (later.0, rw (kept, is) (ap (λ (ys : List X). x ∷ ys) later.1))
        | inr gone ↦
            let none = none_left p k xs (λ i y here own. elim (cases_Bool (k y)) [
              | inl kept ↦ (let too = front 0 (suc i) x y (omega arith) refl here is own kept in absurd cc)
              | inr not_kept ↦ not_kept
            ]) in
            (filter p (x ∷ xs), rw (gone, none) refl)
      ]
    ]

pub keeps_pasts : (S N : Type 0) → OfRecovery S N KeepsPasts
keeps_pasts S N next old new recovers sound = record {
  first = λ m.
      let left = front_left (own m) keep old.trace (front m) in
      (left.0, left.1 ∙ ap (λ (t : List (Event N)). events_of m t ++ left.0) (sym recovers.trace.1));
  survivors = λ m up.
      ap (events_of m) recovers.trace.1
      ∙ filter_through (own m) keep old.trace (λ i e here is. (kept i e here).1 (λ down. never_both old.down m (rw (own_is m e is) at down) up));
}
  where
    own : ℕ → Event N → Bool
    own m e = member_of (mark_of e) == m

    keep : Event N → Bool
    keep e = recovers.trace.0 (mark_of e)

    own_is : (m : ℕ) (e : Event N) → own m e ≡ true → member_of (mark_of e) ≡ m
    own_is m e is = grind (arith, nat_tests)

    kept : (i : ℕ) (e : Event N) → slice_get old.trace i ≡ Some e → (keep e ≡ true) ↔ Stays (knowledge old) (mark_of e)
    kept i e here = recovers.trace.2 (mark_of e) (i, mark-at old.trace i e here)

    later : (i j : ℕ) (x y : Event N) (c : Mark) → i < j → slice_get old.trace i ≡ Some x → slice_get old.trace j ≡ Some y → UpTo (marks old) c (mark_of x) → UpTo (marks old) c (mark_of y)
    later i j x y c before at_x at_y (inl is) = inr (i, j, before, rw is (mark-at old.trace i x at_x), mark-at old.trace j y at_y)
    later i j x y c before at_x at_y (inr e) =
        let same = one_place old.config.members (marks old) sound.lawful.well_formed (mark_of x) e.1 i e.4 (mark-at old.trace i x at_x) in
        inr (e.0, j, omega (arith, e.2, same, before), e.3, mark-at old.trace j y at_y)

    front : (m i j : ℕ) (x y : Event N) → i < j → slice_get old.trace i ≡ Some x → slice_get old.trace j ≡ Some y → own m x ≡ true → own m y ≡ true → keep y ≡ true → keep x ≡ true
    front m i j x y before at_x at_y of_x of_y stays =
        let same : member_of (mark_of x) ≡ member_of (mark_of y) = own_is m x of_x ∙ sym (own_is m y of_y) in
        (kept i x at_x).1 (λ down c to up_to. (kept j y at_y).0 stays (rw same at down) c (to ∙ same) (later i j x y (receipt_of c) before at_x at_y up_to))
