-- Entries by their places in the list.
use Rattle.fbl_judge.proofs.Common.{ℕ, cond, ◌≡◌, ◌==◌, ◌<◌, List, Some, max, slice_get, length, refl, ap, subst, ◌∙◌, arith, slice_get_within, Entry, entry_member, log_of, Position, at, Cut}
use Rattle.fbl_runs.specs.Clocks.{StandsAt, seen}
use Rattle.fbl_runs.specs.Indexes.{EndsStep}
use Rattle.fbl_runs.specs.Precedence.{IsPast}
use Rattle.fbl_runs.proofs.LeadsLaws.{here_stands, one_position}
use Rattle.fbl_runs.proofs.Listing.{placed}
use Rattle.fbl_judge.specs.Views.{IsPastAndStepAt}
use Rattle.fbl_judge.proofs.PastLaws.{past_and_step_of}

-- the number of an entry is one of its member's log
pub number_within : (entries : List Entry) (place : ℕ) (e : Entry) (m number : ℕ) → slice_get entries place ≡ Some e → m ≡ entry_member e → ((j : Position) → StandsAt entries place j → number ≡ j.number) → number < length (log_of entries m)
number_within entries place e m number here member is =
    let own = entry_member e in
    let n = is (at own (seen entries place own)) (here_stands entries place e here) in
    let there = placed entries place e (entry_member e) here refl in
    let below = slice_get_within (log_of entries (entry_member e)) (seen entries place (entry_member e)) e there in
    let same : length (log_of entries m) ≡ length (log_of entries (entry_member e)) = ap (λ (m : ℕ). length (log_of entries m)) member in
    omega (arith, n, below, same)

-- the past of the entry at a place, with the entries up to the end of its step
pub past_and_step_at : (entries : List Entry) (place : ℕ) (e : Entry) (m number end : ℕ) → slice_get entries place ≡ Some e → m ≡ entry_member e → ((j : Position) → StandsAt entries place j → number ≡ j.number) → EndsStep (log_of entries m) number end
    → (past cut : Cut) → ((j : Position) → StandsAt entries place j → IsPast entries j past) → ((q : ℕ) → cut q ≡ max (past q) (cond (q == m) end 0)) → IsPastAndStepAt entries place cut
past_and_step_at entries place e m number end here member is ends past cut of_past counts j b stands at_j arrives =
    let own : StandsAt entries place (at (entry_member e) (seen entries place (entry_member e))) = here_stands entries place e here in
    let same : m ≡ j.member = member ∙ ap (λ (x : Position). x.member) (one_position entries place (at (entry_member e) (seen entries place (entry_member e))) j own stands) in
    let number' : number ≡ j.number = is j stands in
    let ends' = subst (λ (x : ℕ). EndsStep (log_of entries j.member) x end) number' (subst (λ (x : ℕ). EndsStep (log_of entries x) number end) same ends) in
    past_and_step_of (log_of entries) j b at_j arrives end ends' past cut (of_past j stands) (subst (λ (x : ℕ). (q : ℕ) → cut q ≡ max (past q) (cond (q == x) end 0)) same counts)
