-- What family-based logging promises of a group, each promise once, in the words of the theorem: each receipt is held,
-- survivors hold what they depend on, what is recorded is closed under causes, a recovery leaves exactly what is recorded,
-- and holders never lose it. Depend and Log (here: holders) are those of Alvisi and Marzullo, Message Logging (IEEE TSE
-- 24(2), 1998).
use Rattle.std.specs.Prelude.{◌≡◌, ℕ, ◌<◌, ◌≤◌, ◌⊎◌, ◌↔◌, true, false, ◌+◌, List, [], ◌∷◌, ◌++◌, map}
use Rattle.std.specs.List.{filter}
use Rattle.std.specs.FinSet as set
use Rattle.fbl_trace.specs.MemberSets.{Members, AllBelow}
use Rattle.fbl_trace.specs.declared.trace.Determinant.{Determinant}
use Rattle.fbl_trace.specs.Events.{receipt_of}
use Rattle.fbl_trace.specs.Precedence.{Has, Precedes, Depends}
use Rattle.fbl_table.specs.Tables.{is_held}
use Rattle.fbl_law.specs.Knowledge.{Includes, Knowledge, table, Names, Holds, IsHolder, IsRecorded, IsDown}
use Rattle.fbl_law.specs.Groups.{GroupRecord, member, marks, knowledge, receipts, is_recorded, IsSound}
use Rattle.fbl_trace.specs.Fold.{Next}
use Rattle.fbl_trace.specs.Dumps.{Parts, IsDump}
use Rattle.fbl_trace.specs.Losses.{IsDumpOrphan}
use Rattle.fbl_table.specs.declared.entry.Entry.{Entry}
use Rattle.fbl_member.specs.Members.{MemberRecord}

-- the member's table has the determinant
abbrev pub IsHeldBy : {S N : Type 0} → GroupRecord S N → Determinant → ℕ → Type 0
IsHeldBy r d m = is_held (member r m).table d ≡ true

-- more than f members hold the determinant
abbrev pub IsHeldByMore : {S N : Type 0} → GroupRecord S N → Determinant → Type 0
IsHeldByMore r d = (holders : Members) × (r.config.f < set.len holders) × ((m : ℕ) → Includes holders m → IsHeldBy r d m)

-- where nobody is down, each receipt's determinant is held by more than f members or by every member whose state depends
-- on it
abbrev pub HoldsEachReceipt : {S N : Type 0} → GroupRecord S N → Type 0
HoldsEachReceipt r =
    r.down ≡ set.empty
    → (d : Determinant) → Has (marks r) (receipt_of d)
    → IsHeldByMore r d ⊎ ((m : ℕ) → Depends (marks r) m (receipt_of d) → IsHeldBy r d m)

-- each receipt that a member outside the set depends on, the table of some member outside the set has
abbrev pub SurvivorsHold : {S N : Type 0} → Knowledge S N → Members → Type 0
SurvivorsHold r s =
    (m : ℕ) (d : Determinant) → set.contains s m ≡ false → Depends r.trace m (receipt_of d)
    → (q : ℕ) × (set.contains s q ≡ false) × Names (table r q) d

-- of each member's receipts, up or down, those up to a recorded one are recorded
abbrev pub RecordsFirst : {S N : Type 0} → Knowledge S N → Type 0
RecordsFirst r = (c d : Determinant) → Has r.trace (receipt_of c) → c.to ≡ d.to → c.rsn ≤ d.rsn → IsRecorded r d → IsRecorded r c

-- whatever precedes a recorded receipt is recorded
abbrev pub RecordsCauses : {S N : Type 0} → Knowledge S N → Type 0
RecordsCauses r = (c d : Determinant) → IsRecorded r d → Precedes r.trace (receipt_of c) (receipt_of d) → IsRecorded r c

-- the receipts left are exactly the recorded ones, in their order
pub record LeavesRecorded {S N : Type 0} (old new : GroupRecord S N) : Type 0 where
  pub exactly : (d : Determinant) → Has (marks new) (receipt_of d) ↔ (Has (marks old) (receipt_of d) × IsRecorded (knowledge old) d)
  pub order : receipts (marks new) ≡ filter (is_recorded old) (receipts (marks old))

-- after a recovery the holders of a receipt are those before it and, of a recorded one, all members that were down
abbrev pub GainsHolders : {S N : Type 0} → Knowledge S N → Knowledge S N → Type 0
GainsHolders old new = (d : Determinant) (m : ℕ) → Holds new d m ↔ IsHolder old d m

-- whoever held a receipt that is left holds it still
abbrev pub KeepsHolders : {S N : Type 0} → Knowledge S N → Knowledge S N → Type 0
KeepsHolders old new = (d : Determinant) (m : ℕ) → Has new.trace (receipt_of d) → Holds old d m → Holds new d m

-- the member with each determinant of its table, in order
abbrev pub pairs_of : ℕ → List Entry → List (ℕ × Determinant)
pairs_of m table = map (λ e. (m, e.det)) table

-- the pairs of the members, of which the first has the number m
abbrev pub pairs_from : {S N : Type 0} → ℕ → List (MemberRecord S N) → List (ℕ × Determinant)
pairs_from m [] = []
pairs_from m (x ∷ members) = pairs_of m x.table ++ pairs_from (m + 1) members

-- the held pairs: members in order, each table in its order
abbrev pub held_pairs : {S N : Type 0} → GroupRecord S N → List (ℕ × Determinant)
held_pairs r = pairs_from 0 r.members

-- the trace without notes, the held pairs and the strike set given
abbrev pub dump_of : {S N : Type 0} → GroupRecord S N → Members → Parts
dump_of r strike =
    record { members = r.config.members; f = r.config.f; events = marks r; held = held_pairs r; strike = strike }

-- a dump of a sound group with a strike set of its members obeys the rules of dumps
unfoldable pub DumpObeysRules : Type 0 → Type 0 → Type 0
DumpObeysRules S N =
    (next : Next S N) (r : GroupRecord S N) (strike : Members)
    → IsSound next r → AllBelow strike r.config.members → IsDump (dump_of r strike)

-- whichever strike set has those that are down and at most f members in all, the dump of a sound group with it has no orphan
unfoldable pub DumpHasNoOrphan : Type 0 → Type 0 → Type 0
DumpHasNoOrphan S N =
    (next : Next S N) (r : GroupRecord S N) (strike : Members) (m : ℕ)
    → IsSound next r → ((q : ℕ) → IsDown (knowledge r) q → Includes strike q) → set.len strike ≤ r.config.f
    → ¬ (IsDumpOrphan (dump_of r strike) m)
