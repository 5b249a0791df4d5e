-- What several files record of one run.
use Rattle.std.specs.Prelude.{ℕ, ◌≡◌, ◌≢◌, ◌⊎◌, List, Some, flat_map, slice_get}
use Rattle.std.specs.List.{list_any}
use Rattle.std.specs.FinSet as set
use Rattle.std.specs.Ordering.{nat_cmp}
use Rattle.fbl_trace.specs.declared.dump.raw_dump.RawDump.{RawDump}
use Rattle.fbl_trace.specs.Dumps.{Parts}
use Rattle.fbl_runs.specs.declared.run.RawLog.{RawLog}
use Rattle.fbl_runs.specs.Logs.{RunParts}
use Rattle.fbl_trace.specs.Breaches.{IsLeastOutside}
use Rattle.fbl_trace.specs.Configs.{IsFirstBreach}
use Rattle.fbl_trace.specs.MemberSets.{AllBelow}
use Rattle.fbl_trace.specs.declared.fault.Outsider.{Outsider}
use Rattle.fbl_order.specs.Orders.{items_at}
use Rattle.fbl_order.specs.Pieces.{AreByLife, entries_of, lives_of}
use Rattle.fbl_order.specs.declared.files.RunGroup.{RunGroup}
use Rattle.fbl_order.specs.declared.files.FilesDiffer.{FilesDiffer}
use Rattle.fbl_order.specs.declared.files.FilesDiffer.TheVariants.{Members, F, Memory}

-- ---- what the files say of the group

-- the group has the members and the f of the first one
abbrev pub Agrees : RunGroup → RunGroup → Type 0
Agrees first group = (group.members ≡ first.members) × (group.f ≡ first.f)

-- the file at the place, if there is one, agrees with the first one
abbrev pub AgreesAt : {P : Type 0} → (P → RunGroup) → List P → ℕ → Type 0
AgreesAt {P} group_of files i =
    (first file : P) → slice_get files 0 ≡ Some first → slice_get files i ≡ Some file → Agrees (group_of first) (group_of file)

-- the group has what the files agree on, and the members that some file strikes
pub record IsUnion {P : Type 0} (group_of : P → RunGroup) (files : List P) (group : RunGroup) : Type 0 where
  pub agree : (i : ℕ) (file : P) → slice_get files i ≡ Some file → Agrees group (group_of file)
  pub strike : (q : ℕ) → set.contains group.strike q ≡ list_any (λ file. set.contains (group_of file).strike q) files

-- the fault has what the file at the place and the first one do not agree on
abbrev pub Differs : ℕ → RunGroup → RunGroup → FilesDiffer → Type 0
Differs i a b (Members file first other) = (file ≡ i) × (first ≡ a.members) × (other ≡ b.members) × (other ≢ first)
Differs i a b (F file first other) = (file ≡ i) × (b.members ≡ a.members) × (first ≡ a.f) × (other ≡ b.f) × (other ≢ first)
Differs i a b Memory = ⊥

-- the fault is of the first file that does not agree with the first one
abbrev pub IsFirstOther : {P : Type 0} → (P → RunGroup) → List P → FilesDiffer → Type 0
IsFirstOther {P} group_of files fault =
    (i : ℕ) × IsFirstBreach (AgreesAt group_of files) i
    × ((first : P) × (other : P) × (slice_get files 0 ≡ Some first) × (slice_get files i ≡ Some other)
    × Differs i (group_of first) (group_of other) fault)

abbrev pub RefusesFiles : {P : Type 0} → (P → RunGroup) → List P → FilesDiffer → Type 0
RefusesFiles group_of files fault = (fault ≡ Memory) ⊎ IsFirstOther group_of files fault

-- ---- strike sets

-- the strike set at the place, if there is one, has members of a group of n alone
abbrev pub IsWithinAt : List (set.FinSet nat_cmp) → ℕ → ℕ → Type 0
IsWithinAt strikes n i = (s : set.FinSet nat_cmp) → slice_get strikes i ≡ Some s → AllBelow s n

-- the strike set at the place is the first with a member outside the group, and this is the least such member
abbrev pub IsFirstOutside : List (set.FinSet nat_cmp) → ℕ → ℕ × Outsider → Type 0
IsFirstOutside strikes n found =
    IsFirstBreach (IsWithinAt strikes n) found.0
    × ((s : set.FinSet nat_cmp) × (slice_get strikes found.0 ≡ Some s) × IsLeastOutside s n found.1)

-- ---- unions

-- what a dump says of the group, and what a log does
abbrev pub dump_group : RawDump → RunGroup
dump_group file = record { members = file.members; f = file.f; strike = file.strike }

abbrev pub log_group : RawLog → RunGroup
log_group file = record { members = file.members; f = file.f; strike = file.strike }

-- the whole has the group of the files, and their events and pairs in their order
pub record IsUnionOfDumps (files : List RawDump) (whole : Parts) : Type 0 where
  pub group : IsUnion dump_group files (record { members = whole.members; f = whole.f; strike = whole.strike })
  pub events : whole.events ≡ flat_map (λ file. file.events.items) files
  pub held : whole.held ≡ flat_map (λ file. file.held.items) files

-- the whole has the group of the files, and their entries from these places among all, by which each member's pieces follow by their lives
pub record IsUnionOfLogs (files : List RawLog) (whole : RunParts) (places : List ℕ) : Type 0 where
  pub group : IsUnion log_group files (record { members = whole.members; f = whole.f; strike = whole.strike })
  pub by_life : AreByLife (entries_of files) (lives_of files) places
  pub entries : whole.entries ≡ items_at (entries_of files) places
