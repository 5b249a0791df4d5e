use Rattle.fbl_trace.proofs.Common.{◌≡◌, ◌==◌, ◌&&◌, arith, Bool, Decides, nat_tests, Settings, Start, slice_eq-Decides}
use Rattle.fbl_trace.proofs.config.Config.same.Goals as goal

same_start : {N : Type 0} (same : N → N → Bool) → ((a b : N) → Decides (same a b) (a ≡ b)) → (a b : Start N) → Decides ((a.from == b.from) && ((a.to == b.to) && same a.note b.note)) (a ≡ b)
same_start same exact a b = grind (arith, nat_tests, exact a.note b.note)

same_settings : {N : Type 0} (a b : Settings N) → a.members ≡ b.members → a.f ≡ b.f → a.limit ≡ b.limit → a.starts ≡ b.starts → a ≡ b
same_settings a b e1 e2 e3 e4 i = record { members = e1 i; f = e2 i; limit = e3 i; starts = e4 i }

pub returns-then-self-other-3 : goal.returns-then-self-other-3
returns-then-self-other-3 g c =
    let starts = slice_eq-Decides (same_start g.N.PartialEq.eq g.met.N.Exact.exact) c.as_slice.result.now c.as_slice-then-self-other-3.result.now c.eq.result c.eq.ensures in
    grind (arith, nat_tests, slice_eq-Decides, same_start, same_settings)
