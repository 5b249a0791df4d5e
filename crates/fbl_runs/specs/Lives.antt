-- The lives of members (incarnations: Strom and Yemini 1985): which of its events a member keeps when it restarts, and which stand.
use Rattle.std.specs.Prelude.{ℕ, ◌≡◌, ◌+◌, ◌<◌, ◌≤◌, List, [], ◌∷◌, ◌++◌, Option, Some, None, length, slice_get, take}
use Rattle.std.specs.List.{Contains}
use Rattle.fbl_trace.specs.declared.trace.Mark.{Mark}
use Rattle.fbl_runs.specs.declared.entry.Restart as restart
use Rattle.fbl_runs.specs.declared.entry.Entry.{Entry}
use Rattle.fbl_runs.specs.declared.entry.Entry.TheVariants.{Restart}
use Rattle.fbl_runs.specs.Entries.{mark_in, restart_in}

-- the numbers of a member's events that stand behind one entry more, with this number: a restart keeps the first of them, so many receipts
-- and sends; the others are undone
abbrev pub stood_after : Option restart.Restart → Option Mark → ℕ → List ℕ → List ℕ
stood_after (Some r) mark number stood = take (r.receipts + r.sends) stood
stood_after None (Some m) number stood = stood ++ number ∷ []
stood_after None None number stood = stood

-- those behind these entries, which follow so many others, behind which these stood
abbrev pub standing_from : List ℕ → ℕ → List Entry → List ℕ
standing_from stood number [] = stood
standing_from stood number (e ∷ entries) = standing_from (stood_after (restart_in e) (mark_in e) number stood) (number + 1) entries

-- the numbers of the events that stand behind a member's entries, in order
abbrev pub standing : List Entry → List ℕ
standing log = standing_from [] 0 log

-- the life in which a member is behind one entry more, and behind these entries, where it was in this one; it begins in life 0
abbrev pub life_after : Option restart.Restart → ℕ → ℕ
life_after (Some r) life = r.life
life_after None life = life

abbrev pub life_from : ℕ → List Entry → ℕ
life_from life [] = life
life_from life (e ∷ entries) = life_from (life_after (restart_in e) life) entries

abbrev pub life_in : List Entry → ℕ
life_in log = life_from 0 log

-- behind a member's first x entries the one with the number k stands: it has come, and each restart since then kept it. A restart keeps
-- events alone
abbrev pub StandsBehind : List Entry → ℕ → ℕ → Type 0
StandsBehind log k x =
    (k < x) × ((number : ℕ) (r : restart.Restart) → k < number → number < x → slice_get log number ≡ Some (Restart r) → Contains (standing (take (number + 1) log)) k)

-- at some time in this life of the member the entry stands
abbrev pub StandsInLife : List Entry → ℕ → ℕ → Type 0
StandsInLife log life k = (x : ℕ) × (x ≤ length log) × (life_in (take x log) ≡ life) × StandsBehind log k x

-- the restart with the number undoes the entry: it stood until then, and is not kept
pub record IsUndoneBy (log : List Entry) (k number : ℕ) : Type 0 where
  pub stood : StandsBehind log k number
  pub restart : (r : restart.Restart) × (slice_get log number ≡ Some (Restart r))
  pub undone : ¬ (Contains (standing (take (number + 1) log)) k)
