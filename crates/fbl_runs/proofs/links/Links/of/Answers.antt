use Rattle.fbl_runs.proofs.Common.{ℕ, ◌≡◌, ◌<◌, ◌+◌, ◌∙◌, ap, arith, entry_member, length, List, Position, refl, slice_get, Some, subst, sym, take}
use Rattle.std.specs.Option.{is_some}
use Rattle.fbl_runs.specs.declared.links.Link.{Link}
use Rattle.fbl_runs.specs.Clocks.{StandsAt}
use Rattle.fbl_runs.proofs.Listing.{read_number}
use Rattle.fbl_runs.proofs.NewLinkLaws.{restart_none, restart_some}
use Rattle.fbl_runs.proofs.PassLaws.{HasLinks, IsRight, all_links, all_lived, front_size, has_entry, linked, lived_more, no_links, passed, restarted, restarted_count}
use Rattle.fbl_runs.proofs.links.Links.of.Goals as goal
use Rattle.fbl_runs.proofs.links.Links.of.Goals.{then-is_some, else-is_some}

pub loop-place-init : goal.loop-place-init
loop-place-init c = no_links c.args.entries.now c.in_ok-lives.lives c.in_ok-with_capacity.field-0.items c.in_ok-lives.ensures c.in_ok-with_capacity.ensures.items

pub link_to-requires : goal.link_to-requires
link_to-requires c =
    let entries = c.args.entries.now in
    let place = c.loop-place.place in
    let e = c.index-entries-place.result in
    let here : slice_get entries place ≡ Some e = read_number entries place place e refl c.loop-place-test.true c.index-entries-place.is in
    let has = lived_more entries place e c.add.new.self here
    (c.in_ok-add.ensures.lived c.requires.0 (take place entries) c.loop-place.invariant.lived (c.requires.1 place e here) (front_size entries place c.loop-place-test.true)) in
    (take (place + 1) entries, has, has_entry entries place e here)

pub loop-place-preserved : goal.loop-place-preserved
loop-place-preserved c =
    let n = c.requires.0 in
    let lawful = c.requires.1 in
    let entries = c.args.entries.now in
    let place = c.loop-place.place in
    let e = c.index-entries-place.result in
    let lives = c.loop-place.lives in
    let lives' = c.add.new.self in
    let links = c.loop-place.links.links.items in
    let old = c.loop-place.invariant in
    let here : slice_get entries place ≡ Some e = read_number entries place place e refl c.loop-place-test.true c.index-entries-place.is in
    let size = front_size entries place c.loop-place-test.true in
    let has = lived_more entries place e lives' here (c.in_ok-add.ensures.lived n (take place entries) old.lived (lawful place e here) size) in
    let still = c.in_ok-add.ensures.kept n (take place entries) old.lived (lawful place e here) size in
    let log = c.index-log.result.now in
    let within : c.number.result < length lives'.logs.items = (let room = lives'.room in let bound = c.number.ensures.bound in omega (arith, room, bound)) in
    let at_log = read_number lives'.logs.items c.number.result (entry_member e) log (c.number.ensures.value ∙ c.member.ensures) within c.index-log.ensures in
    let known = has.logs (entry_member e) log at_log in
    let now = c.if-is_some.links.links.items in
    let Right : List Link → Type 0 = λ items. (length items ≡ place) × ((p : ℕ) (j : Position) (link : Link) → StandsAt entries p j → slice_get items p ≡ Some link → IsRight n entries lawful place e here lives lives' links old has still j link) in
    let right : Right now = elim c.if-is_some.branch [
      | then-is_some w ↦ (
          let r = restart_some e (sym (ap is_some c.restart.ensures) ∙ sym c.is_some.ensures ∙ w.if-is_some.true) in
          let mid = w.undo.new.self.links.items in
          let last = w.keep.new.self.links.items in
          subst Right (sym (ap (λ l. l.links.items) w.links-is)) (
            restarted_count n entries lawful place e here lives lives' links old has still r.0 r.1 log known mid last w.undo.ensures w.keep.ensures,
            restarted n entries lawful place e here lives lives' links old has still r.0 r.1 log known mid last w.undo.ensures w.keep.ensures,
          ))
      | else-is_some w ↦ (
          let none = restart_none e (sym (ap is_some c.restart.ensures) ∙ sym c.is_some.ensures ∙ w.if-is_some.false) in
          subst Right (sym (ap (λ l. l.links.items) w.links-is)) (old.count, passed n entries lawful place e here lives lives' links old has still none))
    ] in
    subst (λ (items : List Link). HasLinks entries (place + 1) lives' items) (sym c.in_ok-push.ensures.items)
    (linked n entries lawful place e here lives lives' links old has still now c.link_to.result right.0 right.1 (λ j stands. c.link_to.ensures.new n entries place j lawful stands here has) c.link_to.ensures.undone)

pub returns : goal.returns
returns c =
    let end : c.loop-place.place ≡ length c.args.entries.now = (let most = c.loop-place.auto.place-end in let past = c.loop-place-test.false in omega (arith, most, past)) in (
      all_links c.args.entries.now c.loop-place.place c.loop-place.lives c.loop-place.links.links.items end c.loop-place.invariant,
      all_lived c.args.entries.now c.loop-place.place c.loop-place.lives c.loop-place.links.links.items end c.loop-place.invariant,
    )
