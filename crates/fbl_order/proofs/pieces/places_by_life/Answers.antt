use Rattle.fbl_order.proofs.Common.{◌≡◌, ◌∙◌, IsPermutation-refl, ap, arith, false≢true, length, refl, sym}
use Rattle.std.proofs.Common.{rules}
use Rattle.std.proofs.lemmas.Fn.{always_returns_same}
use Rattle.std.specs.List.{range_with_len}
use Rattle.fbl_order.specs.Pieces.{as_given, turn_of}
use Rattle.fbl_order.proofs.PieceLaws.{given_more, sorted_in_turn}
use Rattle.fbl_order.proofs.pieces.places_by_life.Goals as goal
use Rattle.fbl_order.proofs.pieces.places_by_life.Goals.{then-not-stand_by_life+in_ok-sort_by_key, else-not-stand_by_life}

pub loop-place-preserved : goal.loop-place-preserved
loop-place-preserved c = c.in_ok-push.ensures.items ∙ (rw c.loop-place.invariant (sym (given_more c.loop-place.place)))

pub returns : goal.returns
returns c =
    let entries = c.args.entries.now in
    let end : c.loop-place.place ≡ length entries = (let past = c.loop-place-test.false in let most = c.loop-place.auto.place-end in omega (arith, past, most)) in
    let start : c.loop-place.places.items ≡ as_given entries = c.loop-place.invariant ∙ ap (range_with_len 0) end in
    elim c.if-not-stand_by_life.branch [
      | then-not-stand_by_life+in_ok-sort_by_key w ↦ (
          let up = w.in_ok-sort_by_key.ensures.sorted (turn_of c.args.lives.now) (always_returns_same _ _ _ (λ a r q k. search rules)) in
          rw w.places-is (record {
            all = rw start at w.in_ok-sort_by_key.ensures.permutation;
            follow = sorted_in_turn entries c.args.lives.now _ up;
            kept = λ turn. absurd (false≢true (sym w.if-not-stand_by_life.true ∙ c.stand_by_life.ensures.1 turn));
          })
          )
      | else-not-stand_by_life w ↦ rw (w.places-is, start) (record {
        all = IsPermutation-refl (as_given entries);
        follow = c.stand_by_life.ensures.0 w.if-not-stand_by_life.false;
        kept = λ turn. refl;
      })
    ]
