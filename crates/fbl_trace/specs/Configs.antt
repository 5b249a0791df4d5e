-- The parameters of a group.
use Rattle.std.specs.Prelude.{◌≡◌, ◌≢◌, ℕ, ◌<◌, ◌≤◌, Bool, IsTrue, List, length, Some, slice_get}
use Rattle.fbl_trace.specs.declared.trace.Start.{Start}
use Rattle.fbl_trace.specs.declared.config.ConfigRefusal.{ConfigRefusal}
use Rattle.fbl_trace.specs.declared.config.GroupRule.{GroupRule}
use Rattle.fbl_trace.specs.declared.config.GroupRule.TheVariants as group_rule
use Rattle.fbl_trace.specs.declared.config.ConfigRefusal.TheVariants.{BadMembers, BadF, BadLimit, TooManyStarts, BadStart, LimitBelowStarts, Memory}

-- how many members there are, how many may be lost at once, how many events the trace may have, and the starts in order
pub record Settings (N : Type 0) : Type 0 where
  pub members : ℕ
  pub f : ℕ
  pub limit : ℕ
  pub starts : List (Start N)

-- 2 to 16 members
abbrev pub MembersAllowed : ℕ → Type 0
MembersAllowed members = (2 ≤ members) × (members ≤ 16)

-- f is from 1 to one less than the number of members
abbrev pub FAllowed : ℕ → ℕ → Type 0
FAllowed members f = (1 ≤ f) × (f < members)

-- the numbers of a group break this rule, and none before it
abbrev pub BreaksGroup : ℕ → ℕ → GroupRule → Type 0
BreaksGroup members f group_rule.Members = ¬ (MembersAllowed members)
BreaksGroup members f group_rule.F = MembersAllowed members × ¬ (FAllowed members f)

-- a trace may have 1 to 8192 events
abbrev pub LimitAllowed : ℕ → Type 0
LimitAllowed limit = (1 ≤ limit) × (limit ≤ 8192)

-- there may be 1 to 8 workers
abbrev pub WorkersAllowed : ℕ → Type 0
WorkersAllowed workers = (1 ≤ workers) × (workers ≤ 8)

-- a start goes from one member of the group to another, with a content that a start may have
abbrev pub StartAllowed : {N : Type 0} → (N → Bool) → ℕ → Start N → Type 0
StartAllowed allowed members start = (start.from < members) × (start.to < members) × (start.from ≢ start.to) × IsTrue (allowed start.note)

-- the start at the place, if there is one, is allowed
abbrev pub StartAllowedAt : {N : Type 0} → (N → Bool) → ℕ → List (Start N) → ℕ → Type 0
StartAllowedAt {N} allowed members starts i = (start : Start N) → slice_get starts i ≡ Some start → StartAllowed allowed members start

-- P holds at each place before this one, and not here
abbrev pub IsFirstBreach : (ℕ → Type 0) → ℕ → Type 0
IsFirstBreach P place = ((i : ℕ) → i < place → P i) × ¬ (P place)

-- the rules of a config: allowed numbers, 1 to 8192 events, at most 64 starts, each allowed, and no more of them
-- than events
pub record IsConfig {N : Type 0} (allowed : N → Bool) (c : Settings N) : Type 0 where
  pub members : MembersAllowed c.members
  pub f : FAllowed c.members c.f
  pub limit : LimitAllowed c.limit
  pub few_starts : length c.starts ≤ 64
  pub starts : (i : ℕ) → StartAllowedAt allowed c.members c.starts i
  pub room : length c.starts ≤ c.limit

-- the refusal is the first that fits, and memory runs out only for a config that obeys the rules
abbrev pub RefusesConfig : {N : Type 0} → (N → Bool) → Settings N → ConfigRefusal → Type 0
RefusesConfig allowed c BadMembers = BreaksGroup c.members c.f group_rule.Members
RefusesConfig allowed c BadF = BreaksGroup c.members c.f group_rule.F
RefusesConfig allowed c BadLimit = MembersAllowed c.members × FAllowed c.members c.f × ¬ (LimitAllowed c.limit)
RefusesConfig allowed c TooManyStarts = MembersAllowed c.members × FAllowed c.members c.f × LimitAllowed c.limit × (64 < length c.starts)
RefusesConfig allowed c (BadStart place) =
    MembersAllowed c.members × FAllowed c.members c.f × LimitAllowed c.limit × (length c.starts ≤ 64) × IsFirstBreach (StartAllowedAt allowed c.members c.starts) place
RefusesConfig allowed c LimitBelowStarts =
    MembersAllowed c.members × FAllowed c.members c.f × LimitAllowed c.limit × (length c.starts ≤ 64)
    × ((i : ℕ) → StartAllowedAt allowed c.members c.starts i) × (c.limit < length c.starts)
RefusesConfig allowed c Memory = IsConfig allowed c
