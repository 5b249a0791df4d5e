-- Plain networks, which have no failures: a law that is proved of these holds of each group, whatever was struck and recovered. So the
-- verified system transformers of Wilcox and others (PLDI 2015) carry a proof for a network without failures to one with failures.
use Rattle.std.specs.Prelude.{◌≡◌, ℕ, ◌<◌, ◌==◌, ◌&&◌, List, [], ◌∷◌, ◌++◌, drop, map, Some, None, slice_get, if◌then◌else◌}
use Rattle.std.specs.List.{filter_map}
use Rattle.std.specs.FinSet as set
use Rattle.fbl_trace.specs.Configs.{Settings}
use Rattle.fbl_trace.specs.Fold.{Next, starts_of}
use Rattle.fbl_trace.specs.Steps.{SendsWell}
use Rattle.fbl_member.specs.Members.{Message}
use Rattle.fbl_law.specs.Knowledge.{IsUp}
use Rattle.fbl_law.specs.Groups.{GroupRecord, IsSound, channel, knowledge, marks, member, messages_in_flight, receipts}

-- a plain network: the members' states, and the notes in flight from each member to each, first in, first out
pub record Network (S N : Type 0) : Type 0 where
  pub state : ℕ → S
  pub flight : ℕ → ℕ → List N

-- the notes among these sends that go to the member
abbrev pub sent_to : {N : Type 0} → ℕ → List (ℕ × N) → List N
sent_to m sends = filter_map (λ s. if s.0 == m then Some s.1 else None) sends

-- at first each member is in its first state, and the starts are in flight; a number of no member has any state
pub record IsPlainStart {S N : Type 0} (next : Next S N) (c : Settings N) (p : Network S N) : Type 0 where
  pub states : (m : ℕ) → m < c.members → p.state m ≡ next.initial m c.members
  pub flights : (q m : ℕ) → p.flight q m ≡ sent_to m (starts_of q c.starts)

-- the note is the first in flight from one of n members to another
pub record IsFront {S N : Type 0} (n : ℕ) (p : Network S N) (from to : ℕ) (note : N) : Type 0 where
  pub sender : from < n
  pub receiver : to < n
  pub first : slice_get (p.flight from to) 0 ≡ Some note

-- the first note in flight is delivered: the receiver makes its step, and what the step sends is in flight
abbrev pub delivered : {S N : Type 0} → Next S N → ℕ → Network S N → ℕ → ℕ → N → Network S N
delivered next n p from to note =
    let outcome = next.step to n (p.state to) note in
    record {
      state = λ m. if to == m then outcome.state else p.state m;
      flight = λ q m. (if from == q && to == m then drop 1 (p.flight q m) else p.flight q m) ++ (if to == q then sent_to m outcome.sends.items else []);
    }

-- from a start these deliveries, each named by its sender and its receiver, lead to the plain network
pub data PlainRun {S N : Type 0} (next : Next S N) (c : Settings N) : List (ℕ × ℕ) → Network S N → Type 0 where
  starts : {p : Network S N} → IsPlainStart next c p → PlainRun next c [] p
  delivers : {done : List (ℕ × ℕ)} {p : Network S N} (from to : ℕ) (note : N)
      → PlainRun next c done p → IsFront c.members p from to note → PlainRun next c (done ++ (from, to) ∷ []) (delivered next c.members p from to note)

-- a group as a plain one: its members' states, and the notes of its messages in flight
abbrev pub plain_of : {S N : Type 0} → GroupRecord S N → Network S N
plain_of {S} {N} r = record { state = λ m. (member r m).state; flight = λ q m. map (λ (v : Message N). v.note) (channel r q m) }

-- the plain network has the states of the group's members that are up, and what is in flight between them
pub record SharesSurvivors {S N : Type 0} (r : GroupRecord S N) (p : Network S N) : Type 0 where
  pub states : (m : ℕ) → IsUp (knowledge r) m → p.state m ≡ (plain_of r).state m
  pub flights : (q m : ℕ) → IsUp (knowledge r) q → IsUp (knowledge r) m → p.flight q m ≡ (plain_of r).flight q m

-- the receipts of the group's trace as deliveries, in order
abbrev pub deliveries : {S N : Type 0} → GroupRecord S N → List (ℕ × ℕ)
deliveries r = map (λ d. (d.from, d.to)) (receipts (marks r))

-- the receipts of the group's trace, delivered in a plain network in their order, lead to one that has what the group's survivors have
pub record LooksPlain {S N : Type 0} (next : Next S N) (r : GroupRecord S N) : Type 0 where
  pub network : Network S N
  pub run : PlainRun next r.config (deliveries r) network
  pub survivors : SharesSurvivors r network

-- so does every sound group look, whoever crashed, whatever was recovered, and whoever is down
abbrev pub EachLooksPlain : Type 0 → Type 0 → Type 0
EachLooksPlain S N = (next : Next S N) (r : GroupRecord S N) → SendsWell next → IsSound next r → LooksPlain next r

-- the law holds of each plain network at first
abbrev pub HoldsAtFirst : {S N : Type 0} → Next S N → Settings N → (Network S N → Type 0) → Type 0
HoldsAtFirst {S} {N} next c Law = (p : Network S N) → IsPlainStart next c p → Law p

-- and each delivery keeps it
abbrev pub DeliveryKeeps : {S N : Type 0} → Next S N → ℕ → (Network S N → Type 0) → Type 0
DeliveryKeeps {S} {N} next n Law = (p : Network S N) (from to : ℕ) (note : N) → IsFront n p from to note → Law p → Law (delivered next n p from to note)

-- nothing is in flight
abbrev pub IsQuiet : {S N : Type 0} → Network S N → Type 0
IsQuiet p = (q m : ℕ) → p.flight q m ≡ []

-- the law holds of a plain network that has what the group's survivors have, and so, where nobody is down, of the group as a plain
-- network, in which nothing is in flight if no message of the group is
pub record IsUpheld {S N : Type 0} (r : GroupRecord S N) (Law : Network S N → Type 0) : Type 0 where
  pub network : Network S N
  pub law : Law network
  pub survivors : SharesSurvivors r network
  pub whole : r.down ≡ set.empty → Law (plain_of r)
  pub quiet : messages_in_flight r ≡ 0 → IsQuiet (plain_of r)
