-- A log may have its entries in any order that keeps the members' logs.
use Rattle.fbl_order.proofs.Common.{ℕ, List, None, Some, ◌≡◌, ◌≤◌, ◌+◌, ◌==◌, ◌∙◌, [], ◌∷◌, zero, suc, refl, sym, ap, arith, length, slice_get, subst, take, Entry}
use Rattle.fbl_order.proofs.Common.{Bool, Determinant, Obeys, append-nil, false, false≢true, have_lives, slice_get-get_or, slice_get_within, take-more, true}
use Rattle.fbl_trace.proofs.Common.{get_or_from_slice_get}
use Rattle.std.proofs.lemmas.List.Folds.{Any-from_list_any, list_any_at}
use Rattle.fbl_order.proofs.Common.{Hold, entry_member, recorded_in, IsFewAt, records, IsLog, RunParts, IsOrderOfEntries, SameEntryLogs, with_entries}
use Rattle.fbl_order.proofs.Common.{sum_by, add-one, At-filter, drop, sum_by-cons, eqb-self, filter_map-append, length-append, take-append-drop, take_all}
use Rattle.fbl_runs.specs.Entries.{Logs, log_of}
use Rattle.fbl_runs.specs.HappenedBefore.{IsAt}
use Rattle.fbl_runs.specs.Moments.{IsKnownTo}
use Rattle.fbl_runs.specs.Logs.{FollowRules}
use Rattle.fbl_runs.specs.Rules.{has_life}
use Rattle.fbl_runs.proofs.RunLaws.{lawful_by}
use Rattle.fbl_order.specs.Answers.{SameAnswers}
use Rattle.fbl_order.proofs.Independence.{same_answers}
use Rattle.fbl_order.proofs.LogLaws.{filter-At}
use Rattle.fbl_order.proofs.Own.{same_own-permutation}
use Rattle.fbl_runs.proofs.Listing.{some_item}
use Rattle.std.proofs.lemmas.List.Sorted.{sum_by-IsPermutation}

-- ---- how many holds and stores there are

records-some : (es : List Entry) (k : ℕ) (e : Entry) (d : Determinant) → slice_get es k ≡ Some e → recorded_in e ≡ Some d
    → length (records (take (k + 1) es)) ≡ length (records (take k es)) + 1
records-some es k e d at is =
    (rw (add-one, take-more es k e at, filter_map-append recorded_in (take k es) (e ∷ []), is) (length-append (records (take k es)) (d ∷ [])))

records-none : (es : List Entry) (k : ℕ) (e : Entry) → slice_get es k ≡ Some e → recorded_in e ≡ None → length (records (take (k + 1) es)) ≡ length (records (take k es))
records-none es k e at is = (rw (add-one, take-more es k e at, filter_map-append recorded_in (take k es) (e ∷ []), is, append-nil) refl)

-- each has fewer than 131,072 before it, so they are no more than that
few_records : (es : List Entry) → ((i : ℕ) → IsFewAt es i) → (k : ℕ) → k ≤ length es → length (records (take k es)) ≤ 131072
few_records es few zero within = omega arith
few_records es few (suc k) within =
    let e = some_item es k (omega arith) in
    let before = few_records es few k (omega arith) in
    rw (← add-one k) ((elim (recorded_in e.0) as (λ o. recorded_in e.0 ≡ o → length (records (take (k + 1) es)) ≤ 131072) [
      | None ↦ λ is. omega (arith, before, records-none es k e.0 e.1 is)
      | Some d ↦ λ is. omega (arith, few k e.0 d e.1 is, records-some es k e.0 d e.1 is)
    ]) refl)

-- lists with the same logs have as many
same_records : (a b : List Entry) → SameEntryLogs a b → length (records a) ≡ length (records b)
same_records a b same =
    counted a ∙ sym (sum_by-IsPermutation (λ (e : Entry). length (records (e ∷ []))) a b (same_own-permutation entry_member a b same)) ∙ sym (counted b) where
      counted : (es : List Entry) → length (records es) ≡ sum_by (λ (e : Entry). length (records (e ∷ []))) es
      counted [] = refl
      counted (Hold holder d ∷ es) = omega (arith, counted es, sum_by-cons (λ (e : Entry). length (records (e ∷ []))) (Hold holder d) es)
      counted (e ∷ es) = omega (arith, counted es, sum_by-cons (λ (e : Entry). length (records (e ∷ []))) e es)

few_same : (a b : List Entry) → SameEntryLogs a b → ((i : ℕ) → IsFewAt a i) → (i : ℕ) → IsFewAt b i
few_same a b same few i e d at has =
    let all = few_records a few (length a) (omega arith) in
    let whole : take (length a) a ≡ a = take_all (length a) a (omega arith) in
    let split : length (records b) ≡ length (records (take (i + 1) b)) + length (records (drop (i + 1) b)) =
    ap (λ (es : List Entry). length (records es)) (sym (take-append-drop (i + 1) b)) ∙ ap length (filter_map-append recorded_in (take (i + 1) b) (drop (i + 1) b))
    ∙ length-append (records (take (i + 1) b)) (records (drop (i + 1) b)) in
    omega (arith, all, ap (λ (es : List Entry). length (records es)) whole, same_records a b same, split, records-some b i e d at has)

-- ---- the law

-- an entry of the one list is one of the other
has_same : (a b : List Entry) → SameEntryLogs a b → (i : ℕ) (e : Entry) → slice_get b i ≡ Some e → (j : ℕ) × (slice_get a j ≡ Some e)
has_same a b same i e at =
    let mine = filter-At (λ x. entry_member x == entry_member e) b i e at (eqb-self (entry_member e)) in
    At-filter (λ x. entry_member x == entry_member e) a mine.0 e (rw (same (entry_member e)) mine.1)

-- a member restarts in both, or in neither
lives_there : (a b : List Entry) → SameEntryLogs a b → have_lives a ≡ true → have_lives b ≡ true
lives_there a b same is =
    let any = Any-from_list_any has_life a is in
    let at = subst (λ (x : Entry). slice_get a any.0 ≡ Some x) any.3 (slice_get-get_or a any.0 any.1 any.2) in
    let there = has_same b a (λ q. sym (same q)) any.0 any.1 at in
    list_any_at has_life b there.0 any.1 (slice_get_within b there.0 any.1 there.1) (ap has_life (get_or_from_slice_get b there.0 any.1 any.1 there.1) ∙ any.4)

same_lives : (a b : List Entry) → SameEntryLogs a b → have_lives a ≡ have_lives b
same_lives a b same = by_case (have_lives a) (have_lives b) refl refl where
  by_case : (x y : Bool) → have_lives a ≡ x → have_lives b ≡ y → have_lives a ≡ have_lives b
  by_case true true is also = is ∙ sym also
  by_case false false is also = is ∙ sym also
  by_case true false is also = absurd (false≢true (sym also ∙ lives_there a b same is))
  by_case false true is also = absurd (false≢true (sym is ∙ lives_there b a (λ q. sym (same q)) also))

follow : (log : RunParts) (lived : Bool) (entries : List Entry) → Obeys lived log.members entries → FollowRules (with_entries entries log) lived
follow log false entries obeys = obeys
follow log true entries obeys = obeys

log_same : (log : RunParts) (entries : List Entry) → IsLog log → IsOrderOfEntries log.members log.entries entries → IsLog (with_entries entries log)
log_same log entries is order =
    let rules : FollowRules (with_entries entries log) (have_lives entries) =
    subst (λ (b : Bool). FollowRules (with_entries entries log) b) (same_lives log.entries entries order.logs) (follow log (have_lives log.entries) entries order.obeys) in
    record {
      run = record {
        f = is.run.f;
        strike = is.run.strike;
        lawful = record {
          size = is.run.lawful.size;
          lawful = lawful_by (with_entries entries log) (have_lives entries) refl rules;
          members = λ i e at. (let there = has_same log.entries entries order.logs i e at in is.run.lawful.members there.0 e there.1);
        };
      };
      rules = rules;
      known = λ j e d at has. (
          let logs : log_of log.entries ≡ log_of entries = λ i q. order.logs q i in
          subst (λ (logs : Logs). IsKnownTo logs d j) logs (is.known j e d (subst (λ (logs : Logs). IsAt logs j e) (sym logs) at) has)
          );
      few = few_same log.entries entries order.logs is.few;
    }

pub log_answers : (log : RunParts) (entries : List Entry) → IsLog log → IsOrderOfEntries log.members log.entries entries
    → IsLog (with_entries entries log) × SameAnswers log (with_entries entries log)
log_answers log entries is order = (log_same log entries is order, same_answers log entries order.logs)
