-- What a party to a two-phase commit does, and what each delivery keeps.
use Rattle.std.specs.Prelude.{IsTrue, refl, ◌≡◌, ℕ, ◌+◌, ◌%◌, ◌<◌, ◌==◌, ◌⊎◌, Bool, true, false, [], ◌∷◌, if◌then◌else◌}
use Rattle.std.specs.List.{All, AllByRecursion}
use Rattle.std.proofs.Common.{arith, inl, inr, ◌∙◌}
use Rattle.std.proofs.lemmas.Bool.{cases_eq, eq-eqb, ne_eqb}
use Rattle.std.proofs.lemmas.List.Elements.{All-weaker}
use Rattle.std.proofs.lemmas.Bool.Decides.{nat_tests}
use Rattle.fbl_trace.specs.Configs.{Settings, IsConfig}
use Rattle.fbl_trace.specs.Steps.{Next, SendsWell, another_member}
use Rattle.fbl_trace.specs.declared.outcome.Outcome.{Outcome}
use Rattle.fbl_law.specs.Groups.{GroupRecord, knowledge, member}
use Rattle.fbl_law.specs.Knowledge.{IsUp}
use Rattle.fbl_plain.specs.Plain.{Network, HoldsAtFirst, DeliveryKeeps, delivered}
use Rattle.fbl_plain.specs.Flights.{flights_first, flights_after, states_after, of_front}
use Rattle.fbl_behaviours.specs.declared.party.Stand.{Stand}
use Rattle.fbl_behaviours.specs.declared.party.Stand.TheVariants.{Open, Ready, Refused, Committed, Aborted}
use Rattle.fbl_behaviours.specs.declared.party.Word.{Word}
use Rattle.fbl_behaviours.specs.declared.party.Word.TheVariants.{Refuse, Agreed, Abort}

-- what a party tells the next one by where it stands; one that has not voted tells it nothing
abbrev pub told : ℕ → ℕ → Stand → Word
told me n Open = Refuse
told me n Ready = Agreed (me + 1)
told me n Committed = Agreed n
told me n Refused = Abort
told me n Aborted = Abort

-- the party moves there, and tells the next member
abbrev pub moves : ℕ → ℕ → Stand → Outcome Stand Word
moves me n stand = record { state = stand; sends = record { items = ((me + 1) % n, told me n stand) ∷ [] } }

-- the party stays there, and tells nobody
abbrev pub stays : Stand → Outcome Stand Word
stays stand = record { state = stand; sends = record { items = [] } }

abbrev pub party_step : ℕ → ℕ → Stand → Word → Outcome Stand Word
party_step me n Open Refuse = moves me n Refused
party_step me n Open (Agreed below) = if below == me then moves me n Ready else stays Open
party_step me n Open Abort = moves me n Aborted
party_step me n Ready (Agreed below) = if below == n then moves me n Committed else stays Ready
party_step me n Ready Abort = moves me n Aborted
party_step me n stand word = stays stand

abbrev pub may_start : Word → Bool
may_start Refuse = true
may_start (Agreed below) = below == 0
may_start Abort = false

abbrev pub party_next : Next Stand Word
party_next = record { initial = λ me n. Open; step = party_step; allowed = may_start }

pub party_sends_allowed : SendsWell party_next
party_sends_allowed me n stand word least member = (grind (arith, nat_tests, another_member me n 1), grind (arith, nat_tests))

-- the member has voted yes
abbrev pub VotedYes : Stand → Type 0
VotedYes Open = ⊥
VotedYes Refused = ⊥
VotedYes stand = Unit {0}

-- what a word says of a group of n members: that all members below this number have voted yes, or that somebody has voted no
abbrev pub Says : ℕ → Network Stand Word → Word → Type 0
Says n p Refuse = Unit {0}
Says n p (Agreed below) = (m : ℕ) → m < below → VotedYes (p.state m)
Says n p Abort = (m : ℕ) × (m < n) × (p.state m ≡ Refused)

-- what parties have told is true, and so is what is in flight
pub record IsTruthful (c : Settings Word) (p : Network Stand Word) : Type 0 where
  pub told_truly : (m : ℕ) → m < c.members → Says c.members p (told m c.members (p.state m))
  pub flying : (from to : ℕ) → All (Says c.members p) (p.flight from to)

pub commit_first : (c : Settings Word) → IsConfig may_start c → HoldsAtFirst party_next c (IsTruthful c)
commit_first c config p start = record {
  told_truly = λ m below. rw (start.states m below) tt;
  flying = flights_first party_next c p (λ from to. Says c.members p) start (λ i s here. says s.note (config.starts i s here).3);
} where
  says : (word : Word) → IsTrue (may_start word) → Says c.members p word
  says Refuse may = tt
  says (Agreed below) may = λ m less. grind (arith, nat_tests)
  says Abort may = absurd cc

-- a party that moves tells the next one, and one that stays tells nobody
step_tells : (me n : ℕ) (stand : Stand) (word : Word) → (party_step me n stand word ≡ moves me n (party_step me n stand word).state) ⊎ (party_step me n stand word ≡ stays stand)
step_tells me n Open Refuse = inl refl
step_tells me n Open (Agreed below) = elim (cases_eq below me) [ inl is ↦ rw (eq-eqb below me is) (inl refl) | inr other ↦ rw (ne_eqb below me other) (inr refl) ]
step_tells me n Open Abort = inl refl
step_tells me n Ready (Agreed below) = elim (cases_eq below n) [ inl is ↦ rw (eq-eqb below n is) (inl refl) | inr other ↦ rw (ne_eqb below n other) (inr refl) ]
step_tells me n Ready Abort = inl refl
step_tells me n stand word = inr refl

pub commit_keeps : (c : Settings Word) → IsConfig may_start c → DeliveryKeeps party_next c.members (IsTruthful c)
commit_keeps c config p from to word goes is = record {
  told_truly = states_after party_next n p from to word (λ m stand. Says n after (told m n stand)) (λ m below. stays_true _ (is.told_truly m below)) made;
  flying = flights_after party_next n p from to word (λ q m. Says n after) (λ q m. All-weaker _ _ stays_true (p.flight q m) (is.flying q m)) sent;
} where
  n : ℕ
  n = c.members

  outcome : Outcome Stand Word
  outcome = party_step to n (p.state to) word

  after : Network Stand Word
  after = delivered party_next n p from to word

  stays_true : (said : Word) → Says n p said → Says n after said
  stays_true Refuse says = tt
  stays_true (Agreed below) says = λ m less. grind (arith, nat_tests, says m less)
  stays_true Abort says = (says.0, says.1, grind (arith, nat_tests, says.2))

  -- where the receiver stands then, what it tells is true: a vote, as the receiver gives it, and all else, as what it has heard is
  makes : (stand : Stand) (said : Word) → outcome.state ≡ (party_step to n stand said).state → Says n p (told to n stand) → Says n p said → Says n after (told to n (party_step to n stand said).state)
  makes Open Refuse now own says = (to, goes.receiver, grind (arith, nat_tests, now))
  makes Open (Agreed below) now own says = elim (cases_eq below to) [
    | inl turn ↦
        let ready : outcome.state ≡ Ready = now ∙ (rw (eq-eqb below to turn) refl) in
        rw (eq-eqb below to turn) (λ m less. grind (arith, nat_tests, ready, turn, stays_true (Agreed below) says m))
    | inr other ↦ rw (ne_eqb below to other) tt
  ]
  makes Open Abort now own says = stays_true Abort says
  makes Ready (Agreed below) now own says = elim (cases_eq below n) [
    | inl all ↦ rw (eq-eqb below n all) (rw all at (stays_true (Agreed below) says))
    | inr other ↦ rw (ne_eqb below n other) (stays_true (Agreed (to + 1)) own)
  ]
  makes Ready Abort now own says = stays_true Abort says
  makes stand said now own says = stays_true (told to n stand) own

  made : Says n after (told to n outcome.state)
  made = makes (p.state to) word refl (is.told_truly to goes.receiver) (of_front (Says n p) goes (is.flying from to))

  sent : AllByRecursion (λ s. Says n after s.1) outcome.sends.items
  sent = elim (step_tells to n (p.state to) word) [ inl moved ↦ rw moved (made, tt) | inr stayed ↦ rw stayed tt ]

-- the member has aborted
abbrev pub HasAborted : Stand → Type 0
HasAborted Refused = Unit {0}
HasAborted Aborted = Unit {0}
HasAborted stand = ⊥

-- so nobody has aborted where somebody has committed
pub commit_agrees : (c : Settings Word) (p : Network Stand Word) → IsTruthful c p → (a b : ℕ) → a < c.members → b < c.members → p.state a ≡ Committed → ¬ (HasAborted (p.state b))
commit_agrees c p is a b below_a below_b committed = at (p.state b) refl where
  all : (m : ℕ) → m < c.members → VotedYes (p.state m)
  all = rw committed at (is.told_truly a below_a)

  at : (stand : Stand) → p.state b ≡ stand → ¬ (HasAborted stand)
  at Refused same aborted = rw same at (all b below_b)
  at Aborted same aborted = (let no = rw same at (is.told_truly b below_b) in rw no.2 at (all no.0 no.1))
  at stand same aborted = aborted

-- no member that is up has aborted where another has committed
abbrev pub AreAgreed : GroupRecord Stand Word → Type 0
AreAgreed r =
    (a b : ℕ) → a < r.config.members → b < r.config.members → IsUp (knowledge r) a → IsUp (knowledge r) b
    → (member r a).state ≡ Committed → ¬ (HasAborted (member r b).state)
