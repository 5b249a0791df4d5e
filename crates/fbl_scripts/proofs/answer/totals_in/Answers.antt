use Rattle.std.proofs.Common.{◌≡◌, ◌∙◌, ◌∷◌, [], List, ap, length, map, refl, rules, sym}
use Rattle.fbl_trace.proofs.Common.{suc}
use Rattle.std.specs.Vec.{vec_len}
use Rattle.fbl_scripts.proofs.answer.totals_in.Goals as goal

-- a map keeps how many there are
as_many : {X Y : Type 0} (f : X → Y) (xs : List X) → length (map f xs) ≡ length xs
as_many f [] = refl
as_many f (x ∷ xs) = ap suc (as_many f xs)

pub returns : goal.returns
returns g c =
    let tie : vec_len c.in_ok-audit.audit.lost ≡ length c.in_ok-audit.audit.lost.items = search rules in
    record {
      flight = c.messages_in_flight.ensures;
      trace = ap length c.trace.ensures.trace;
      lost = c.len.ensures ∙ tie ∙ sym (as_many _ c.in_ok-audit.audit.lost.items) ∙ ap length (rw c.requires at c.in_ok-audit.ensures.lost);
      orphans = rw c.requires at c.in_ok-audit.ensures.orphans;
    }
