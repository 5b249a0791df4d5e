use Rattle.fbl_order.proofs.Common.{ℕ, Some, ◌≡◌, ◌∙◌, ap, add-one, append_assoc, refl, slice_get, slice_get_read, take, take-more, ◌∷◌, []}
use Rattle.std.proofs.lemmas.Option.{slice_get-map}
use Rattle.std.specs.Option.{option_map}
use Rattle.fbl_runs.specs.Entries.{entry_member}
use Rattle.fbl_runs.specs.declared.entry.Entry.{Entry}
use Rattle.fbl_order.specs.Pieces.{life_of_piece, lives_in}
use Rattle.fbl_order.proofs.pieces.push_lives.Goals as goal

pub loop-entry-preserved : goal.loop-entry-preserved
loop-entry-preserved c =
    let entries = c.args.entries.now in
    let i : ℕ = c.loop-entry.entry-index in
    let e : Entry = c.entry-item.result in
    let at = slice_get_read entries _ i e refl c.loop-entry-test.true c.entry-item.is in
    let life : ℕ = life_of_piece (entry_member e) entries in
    let of : Entry → ℕ = λ x. life_of_piece (entry_member x) entries in
    let next : slice_get (lives_in entries) i ≡ Some life = slice_get-map of entries i ∙ ap (option_map of) at in
    let is = c.piece_lives-pieces.ensures.lives c.number.result c.number.ensures.bound ∙ ap (λ q. life_of_piece q entries) (c.number.ensures.value ∙ c.member.ensures) in
    c.in_ok-push.ensures.items ∙ (rw (c.loop-entry.invariant, is, add-one, take-more (lives_in entries) i life next) (append_assoc c.args.lives.now.items (take i (lives_in entries)) (life ∷ [])))
