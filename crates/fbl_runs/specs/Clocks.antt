-- Vector clocks (Mattern 1988; Fidge 1988): how many entries of each member, or of each life of a member, precede an entry.
use Rattle.std.specs.Prelude.{ℕ, ◌≡◌, List, length, take, slice_get, slice_index, Some}
use Rattle.fbl_runs.specs.declared.clock.Clock.{Clock}
use Rattle.fbl_runs.specs.declared.entry.Entry.{Entry}
use Rattle.fbl_runs.specs.Entries.{entry_member, log_of}
use Rattle.fbl_runs.specs.HappenedBefore.{Position}
use Rattle.fbl_runs.specs.Moments.{Cut}

-- the clock as a cut
abbrev pub cut_of : Clock → Cut
cut_of clock q = slice_index clock.counts q

-- the clock of nothing
abbrev pub IsNoClock : Clock → Type 0
IsNoClock clock = (q : ℕ) → cut_of clock q ≡ 0

-- how many entries of the member are among the first p
abbrev pub seen : List Entry → ℕ → ℕ → ℕ
seen entries p m = length (log_of (take p entries) m)

-- the entry at the place is the one at the position
abbrev pub StandsAt : List Entry → ℕ → Position → Type 0
StandsAt entries p i = (e : Entry) × (slice_get entries p ≡ Some e) × (entry_member e ≡ i.member) × (seen entries p i.member ≡ i.number)
