-- The links of the entries that have come, behind one entry more.
use Rattle.fbl_runs.proofs.Common.{ℕ, suc, ◌≡◌, ◌≢◌, ◌<◌, ◌≤◌, ◌+◌, ◌⊎◌, inl, inr, List, [], ◌∷◌, ◌++◌, length, take, Option, Some, None, slice_get, refl, sym, ap, subst, ◌∙◌, arith, add-one}
use Rattle.fbl_runs.proofs.Common.{At-push, cases_eq, length-append, slice_get_within, slice_get-take, take-more, take_all}
use Rattle.fbl_runs.proofs.Common.{Entry, Restart, entry_member, log_of, restart_in, Position, at}
use Rattle.std.proofs.lemmas.List.{take-take}
use Rattle.std.proofs.lemmas.Option.{slice_get-map}
use Rattle.std.specs.Option.{option_map, option_or}
use Rattle.fbl_trace.proofs.Common.{Contains}
use Rattle.fbl_trace.proofs.Gets.{map-At}
use Rattle.fbl_runs.specs.declared.entry.Restart as restart
use Rattle.fbl_runs.specs.declared.links.Link.{Link}
use Rattle.fbl_runs.specs.declared.lives.KnownLog.{KnownLog}
use Rattle.fbl_runs.specs.declared.lives.Lives.{Lives}
use Rattle.fbl_runs.specs.Clocks.{StandsAt, seen}
use Rattle.fbl_runs.specs.KnownLives.{HasLived, IsKnownLog, IsLifeAt, IsNewLink}
use Rattle.fbl_runs.specs.Links.{AreChanged, AreLinks, IsPlaceOfEvent, kept, undone_at}
use Rattle.fbl_runs.specs.Lives.{StandsBehind, standing}
use Rattle.fbl_runs.specs.Rules.{AreLawful}
use Rattle.fbl_runs.proofs.LeadsLaws.{here_stands, log_of_front, one_place_of}
use Rattle.fbl_runs.proofs.LifeLaws.{IsIn, contains_from_in, in_from_contains, length-front, standing_stands}
use Rattle.fbl_runs.proofs.LinkLaws.{IsUndoneSoFar, one_life, undone_all, undone_new, undone_next, undone_now, undone_other}
use Rattle.fbl_runs.proofs.Listing.{seen-all, seen-own, some_entry, some_item, stands_at}
use Rattle.fbl_runs.proofs.NewLinkLaws.{stands_whole}

-- each of the first entries has its link, in which what undoes it so far is noted
pub record HasLinks (entries : List Entry) (place : ℕ) (lives : Lives) (links : List Link) : Type 0 where
  pub count : length links ≡ place
  pub lived : HasLived (take place entries) lives
  pub each : (p : ℕ) (j : Position) (link : Link) → StandsAt entries p j → slice_get links p ≡ Some link → IsNewLink entries lives.lives.items j link × IsUndoneSoFar entries place j link.undone

-- before the first entry there is none
pub no_links : (entries : List Entry) (lives : Lives) (links : List Link) → HasLived [] lives → links ≡ [] → HasLinks entries 0 lives links
no_links entries lives links has none = record {
  count = ap length none;
  lived = has;
  each = λ p j link stands at_p. absurd (let wrong : None ≡ Some link = sym (ap (λ s. slice_get s p) none) ∙ at_p in cc);
}

-- behind the last one all have come, and the links are those of all
pub all_lived : (entries : List Entry) (place : ℕ) (lives : Lives) (links : List Link) → place ≡ length entries → HasLinks entries place lives links → HasLived entries lives
all_lived entries place lives links end is = subst (λ (t : List Entry). HasLived t lives) (take_all place entries (omega (arith, end))) is.lived

pub all_links : (entries : List Entry) (place : ℕ) (lives : Lives) (links : List Link) → place ≡ length entries → HasLinks entries place lives links → AreLinks entries links
all_links entries place lives links end is = record {
  count = is.count ∙ end;
  each = λ p j link stands at_p. (let link_is = is.each p j link stands at_p in link_is.0.but_undone link.undone (undone_all entries place j link.undone (all_seen j) link_is.1));
  life = λ p q i j a b at_i at_j at_p at_q. one_life entries lives (all_lived entries place lives links end is) i j a.life b.life (is.each p i a at_i at_p).0.life (is.each q j b at_j at_q).0.life;
  few = λ p link at_p. (
      let e = some_entry entries p (let w = slice_get_within links p link at_p in let count = is.count in omega (arith, w, count, end)) in
      (is.each p (at (entry_member e.0) (seen entries p (entry_member e.0))) link (here_stands entries p e.0 e.1) at_p).0.few);
} where
  all_seen : (j : Position) → seen entries place j.member ≡ length (log_of entries j.member)
  all_seen j = ap (λ x. seen entries x j.member) end ∙ seen-all entries j.member

-- the lives that are known behind one entry more
pub lived_more : (entries : List Entry) (place : ℕ) (e : Entry) (lives : Lives) → slice_get entries place ≡ Some e → HasLived (take place entries ++ e ∷ []) lives → HasLived (take (place + 1) entries) lives
lived_more entries place e lives here has = subst (λ (t : List Entry). HasLived t lives) (sym (take-more entries place e here) ∙ ap (λ x. take x entries) (sym (add-one place))) has

pub front_size : (entries : List Entry) (place : ℕ) → place < length entries → place ≡ length (take place entries)
front_size entries place within = sym (length-front entries place (omega (arith, within)))

-- its member has an entry
pub has_entry : (entries : List Entry) (place : ℕ) (e : Entry) → slice_get entries place ≡ Some e → 1 ≤ length (log_of (take (place + 1) entries) (entry_member e))
has_entry entries place e here =
    let more : seen entries (place + 1) (entry_member e) ≡ seen entries place (entry_member e) + 1 = ap (λ x. seen entries x (entry_member e)) (add-one place) ∙ seen-own entries place e (entry_member e) here refl in
    omega (arith, more)

module _ (n : ℕ) (entries : List Entry) (lawful : AreLawful n entries) (place : ℕ) (e : Entry) (here : slice_get entries place ≡ Some e) (lives lives' : Lives) (links : List Link)
    (old : HasLinks entries place lives links) (has : HasLived (take (place + 1) entries) lives')
    (still : (number member life : ℕ) → IsLifeAt lives.lives.items number member life → IsLifeAt lives'.lives.items number member life) where
  abbrev before : List Entry
  before = take (place + 1) entries

  -- the link is right behind the entry at the place
  abbrev pub IsRight : Position → Link → Type 0
  IsRight j link = IsNewLink entries lives'.lives.items j link × IsUndoneSoFar entries (suc place) j link.undone

  moved : (j : Position) (link : Link) → IsNewLink entries lives.lives.items j link → IsNewLink entries lives'.lives.items j link
  moved j link is = record { but_undone = is.but_undone; life = still link.life j.member _ is.life; few = is.few }

  -- one of another member, or no restart
  elsewhere : (p : ℕ) (j : Position) (link : Link) → StandsAt entries p j → slice_get links p ≡ Some link → entry_member e ≢ j.member → IsRight j link
  elsewhere p j link stands at_p other = (let is = old.each p j link stands at_p in (moved j link is.0, undone_other entries place e here j link.undone other is.1))

  pub passed : restart_in e ≡ None → (p : ℕ) (j : Position) (link : Link) → StandsAt entries p j → slice_get links p ≡ Some link → IsRight j link
  passed none p j link stands at_p = elim (cases_eq (entry_member e) j.member) [
    | inl own ↦ (let is = old.each p j link stands at_p in (moved j link is.0, undone_next entries place e here j own link.undone none is.1))
    | inr other ↦ elsewhere p j link stands at_p other
  ]

  -- a restart
  module _ (r : restart.Restart) (restarts : e ≡ Restart r) (log : KnownLog) (known : IsKnownLog before lives'.lives.items (entry_member e) log) where
    -- of the places of the log
    own_place : (k p : ℕ) (j : Position) → StandsAt entries p j → slice_get log.places.items k ≡ Some p → (entry_member e ≡ j.member) × (k ≡ j.number)
    own_place k p j stands at_k =
        let there = stands_whole entries (place + 1) p (at (entry_member e) k) (known.places.each k p at_k) in
        let same : there.0 ≡ stands.0 = (let some : Some there.0 ≡ Some stands.0 = sym there.1 ∙ stands.1 in cc) in
        let member : entry_member e ≡ j.member = sym there.2 ∙ ap entry_member same ∙ stands.2 in
        (member, sym there.3 ∙ ap (seen entries p) member ∙ stands.3)

    place_own : (p : ℕ) (j : Position) → StandsAt entries p j → p < place → entry_member e ≡ j.member → slice_get log.places.items j.number ≡ Some p
    place_own p j stands within own =
        let same : take p before ≡ take p entries = take-take p (place + 1) entries (omega (arith, within)) in
        let at_p : slice_get before p ≡ Some stands.0 = slice_get-take entries (place + 1) p stands.0 (omega (arith, within)) stands.1 in
        let front : StandsAt before p j = (stands.0, at_p, stands.2, ap (λ t. length (log_of t j.member)) same ∙ stands.3) in
        let number : j.number < length (log_of before j.member) = slice_get_within (log_of before j.member) j.number stands.0 (stands_at before p j stands.0 front at_p) in
        let size : length log.places.items ≡ length (log_of before j.member) = known.places.count ∙ ap (λ q. length (log_of before q)) own in
        let found = some_item log.places.items j.number (omega (arith, number, size)) in
        let there : StandsAt entries found.0 (at (entry_member e) j.number) = stands_whole entries (place + 1) found.0 (at (entry_member e) j.number) (known.places.each j.number found.0 found.1) in
        let there' : StandsAt entries found.0 (at j.member j.number) = subst (λ (q : ℕ). StandsAt entries found.0 (at q j.number)) own there in
        found.1 ∙ ap Some (one_place_of entries found.0 p j there' stands)

    front_now : (j : Position) → entry_member e ≡ j.member → standing (log_of before (entry_member e)) ≡ standing (take (seen entries place j.member + 1) (log_of entries j.member))
    front_now j own =
        let more : seen entries (place + 1) j.member ≡ seen entries place j.member + 1 = ap (λ x. seen entries x j.member) (add-one place) ∙ seen-own entries place e j.member here own in
        ap (λ q. standing (log_of before q)) own ∙ ap standing (log_of_front entries (place + 1) j.member ∙ ap (λ k. take k (log_of entries j.member)) more)

    -- the entries that are kept
    event_kept : (p : ℕ) (j : Position) → StandsAt entries p j → entry_member e ≡ j.member → IsPlaceOfEvent log.places.items log.standing.items p
        → IsIn (standing (take (seen entries place j.member + 1) (log_of entries j.member))) j.number
    event_kept p j stands own is =
        let number : is.1.number ≡ j.number = (own_place is.1.number p j stands is.3).1 in
        (is.0, sym (ap (λ s. slice_get s is.0) (known.standing.numbers ∙ front_now j own)) ∙ slice_get-map (λ ev. ev.number) log.standing.items is.0 ∙ ap (option_map (λ ev. ev.number)) is.2 ∙ ap Some number)

    kept_event : (p : ℕ) (j : Position) → StandsAt entries p j → p < place → entry_member e ≡ j.member → IsIn (standing (take (seen entries place j.member + 1) (log_of entries j.member))) j.number
        → IsPlaceOfEvent log.places.items log.standing.items p
    kept_event p j stands within own is =
        let event = map-At (λ ev. ev.number) log.standing.items is.0 j.number (ap (λ s. slice_get s is.0) (known.standing.numbers ∙ front_now j own) ∙ is.1) in
        (is.0, event.0, event.1, ap (slice_get log.places.items) event.2 ∙ place_own p j stands within own)

    undone_or : (j : Position) (o : Option ℕ) → entry_member e ≡ j.member → ¬ (IsIn (standing (take (seen entries place j.member + 1) (log_of entries j.member))) j.number)
        → IsUndoneSoFar entries place j o → IsUndoneSoFar entries (suc place) j (option_or o (Some place))
    undone_or j None own lost is = undone_now entries place e here j own r restarts is lost
    undone_or j (Some x) own lost is = is

    module _ (mid links' : List Link) (undo : AreChanged (λ p. Contains log.places.items p) (undone_at place) links mid) (keep : AreChanged (IsPlaceOfEvent log.places.items log.standing.items) kept mid links') where
      pub restarted_count : length links' ≡ place
      restarted_count = keep.count ∙ undo.count ∙ old.count

      -- a link before, between, and behind
      other_right : (p : ℕ) (j : Position) (a b link : Link) → StandsAt entries p j → slice_get links p ≡ Some a → entry_member e ≢ j.member
          → (Contains log.places.items p × (b ≡ undone_at place a)) ⊎ (¬ (Contains log.places.items p) × (b ≡ a))
          → (IsPlaceOfEvent log.places.items log.standing.items p × (link ≡ kept b)) ⊎ (¬ (IsPlaceOfEvent log.places.items log.standing.items p) × (link ≡ b)) → IsRight j link
      other_right p j a b link stands at_p other (inl undone) last = absurd (let found = in_from_contains log.places.items p undone.0 in other (own_place found.0 p j stands found.1).0)
      other_right p j a b link stands at_p other (inr same) (inl event) = absurd (other (own_place event.0.1.number p j stands event.0.3).0)
      other_right p j a b link stands at_p other (inr same) (inr same') = subst (IsRight j) (sym (same'.1 ∙ same.1)) (elsewhere p j a stands at_p other)

      own_right : (p : ℕ) (j : Position) (a b link : Link) → StandsAt entries p j → p < place → slice_get links p ≡ Some a → entry_member e ≡ j.member
          → (Contains log.places.items p × (b ≡ undone_at place a)) ⊎ (¬ (Contains log.places.items p) × (b ≡ a))
          → (IsPlaceOfEvent log.places.items log.standing.items p × (link ≡ kept b)) ⊎ (¬ (IsPlaceOfEvent log.places.items log.standing.items p) × (link ≡ b)) → IsRight j link
      own_right p j a b link stands within at_p own (inr same) last = absurd (same.0 (contains_from_in log.places.items p (j.number, place_own p j stands within own)))
      own_right p j a b link stands within at_p own (inl undone) (inl event) =
          let is = moved j a (old.each p j a stands at_p).0 in
          let s = seen entries place j.member + 1 in
          let found = event_kept p j stands own event.0 in
          let behind : StandsBehind (log_of entries j.member) j.number s = (standing_stands (log_of entries j.member) s j.number (contains_from_in (standing (take s (log_of entries j.member))) j.number found)).1 in
          let now : StandsBehind (log_of entries j.member) j.number (seen entries (suc place) j.member) = subst (StandsBehind (log_of entries j.member) j.number) (sym (seen-own entries place e j.member here own)) behind in
          subst (IsRight j) (sym (event.1 ∙ ap kept undone.1)) (record { but_undone = is.but_undone; life = is.life; few = is.few }, now)
      own_right p j a b link stands within at_p own (inl undone) (inr same) =
          let is' = old.each p j a stands at_p in
          let is = moved j a is'.0 in
          let lost : ¬ (IsIn (standing (take (seen entries place j.member + 1) (log_of entries j.member))) j.number) = λ found. same.0 (kept_event p j stands within own found) in
          subst (IsRight j) (sym (same.1 ∙ undone.1)) (record { but_undone = is.but_undone; life = is.life; few = is.few }, undone_or j a.undone own lost is'.1)

      pub restarted : (p : ℕ) (j : Position) (link : Link) → StandsAt entries p j → slice_get links' p ≡ Some link → IsRight j link
      restarted p j link stands at_p =
          let within : p < place = (let w = slice_get_within links' p link at_p in let count = restarted_count in omega (arith, w, count)) in
          let a = some_item links p (let count = old.count in omega (arith, within, count)) in
          let b = undo.each p a.0 a.1 in
          let c = keep.each p b.0 b.1 in
          let last : c.0 ≡ link = (let some : Some c.0 ≡ Some link = sym c.1 ∙ at_p in cc) in
          elim (cases_eq (entry_member e) j.member) [
            | inl own ↦ subst (IsRight j) last (own_right p j a.0 b.0 c.0 stands within a.1 own b.2 c.2)
            | inr other ↦ subst (IsRight j) last (other_right p j a.0 b.0 c.0 stands a.1 other b.2 c.2)
          ]

  -- and the entry's own link
  pub linked : (links' : List Link) (new : Link) → length links' ≡ place → ((p : ℕ) (j : Position) (link : Link) → StandsAt entries p j → slice_get links' p ≡ Some link → IsRight j link)
      → ((j : Position) → StandsAt entries place j → IsNewLink entries lives'.lives.items j new) → new.undone ≡ None → HasLinks entries (place + 1) lives' (links' ++ new ∷ [])
  linked links' new count right is undone = record {
    count = length-append links' (new ∷ []) ∙ ap (λ k. k + 1) count;
    lived = has;
    each = λ p j link stands at_p. subst (λ (x : ℕ). IsNewLink entries lives'.lives.items j link × IsUndoneSoFar entries x j link.undone) (sym (add-one place)) (elim (At-push links' new p link at_p) [
      | inl there ↦ right p j link stands there
      | inr last ↦ subst (IsRight j) last.1 (
          let now : StandsAt entries place j = subst (λ (x : ℕ). StandsAt entries x j) (last.0 ∙ count) stands in
          let same : now.0 ≡ e = (let some : Some now.0 ≡ Some e = sym now.1 ∙ here in cc) in
          let more : seen entries (suc place) j.member ≡ j.number + 1 = seen-own entries place e j.member here (ap entry_member (sym same) ∙ now.2) ∙ ap (λ k. k + 1) now.3 in
          (is j now, subst (IsUndoneSoFar entries (suc place) j) (sym undone) (undone_new entries (suc place) j more)))
    ]);
  }
