-- Which set a plan strikes at a number of receipts.
use Rattle.std.specs.Prelude.{◌==◌, ℕ, Bool, Option, option_map, List}
use Rattle.std.specs.List.{list_any, find}
use Rattle.std.specs.FinSet as set
use Rattle.fbl_trace.specs.MemberSets.{Members}
use Rattle.fbl_trace.specs.declared.strike.Strike.{Strike}

-- the set that the plan strikes at this number of receipts, if any
abbrev pub struck_at : List Strike → ℕ → Option Members
struck_at plan number = option_map (λ s. s.set) (find (λ s. s.at == number) plan)

-- whether some set of the plan has the member
abbrev pub is_named : List Strike → ℕ → Bool
is_named plan member = list_any (λ s. set.contains s.set member) plan
