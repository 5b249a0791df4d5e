-- The counts of a run that is recorded are those of its list.
use Rattle.fbl_threads.proofs.Common.{◌≡◌, ◌≢◌, ℕ, ◌+◌, ◌<◌, ◌==◌, ◌∙◌, ◌∷◌, ◌++◌, [], cond, List, sym, ap, arith, inl, inr, length, length-append, append-nil, nat_tests, option_map, slice_index}
use Rattle.fbl_threads.proofs.Common.{get_or-set_same, get_or-set_other, sum, sum_by_push, sum_by-replicate, cases_eq, get_or-same, At-push, ⊎_elim, Next, Strike, GroupRecord, struck_at, Counts}
use Rattle.fbl_threads.proofs.Common.{more_at, commits, crashes, strikes, TurnRecord, CrashRecord, ReachedBy, TellsCounts, begins, goes_on, made_by, undone_of, undone_in, crash_undid, Keeps}
use Rattle.fbl_threads.proofs.Common.{Recovered, forgets, kept, sum-more, ∥∥₁_elim, Coded-set, coded_ℕ, codes, nat_cmp}
use Rattle.std.specs.FinSet as set

-- so many more at a place
record MoreAt (w n : ℕ) (old new : List ℕ) : Type 0 where
  pub each : (q : ℕ) → slice_index new q ≡ slice_index old q + cond (w == q) n 0
  pub all : sum new ≡ sum old + n

more : (w n : ℕ) (xs : List ℕ) → w < length xs → MoreAt w n xs (more_at xs w n)
more w n xs below = record {
  each = λ q. ⊎_elim (λ same. at q same) (λ other. beside q other) (cases_eq w q);
  all = sum-more xs w n below;
} where
  at : (q : ℕ) → w ≡ q → slice_index (more_at xs w n) q ≡ slice_index xs q + cond (w == q) n 0
  at q same = rw (← same) (grind (arith, nat_tests, get_or-set_same xs w (slice_index xs w + n) 0 below))

  beside : (q : ℕ) → w ≢ q → slice_index (more_at xs w n) q ≡ slice_index xs q + cond (w == q) n 0
  beside q other = grind (arith, nat_tests, get_or-set_other xs w q (slice_index xs w + n) 0 (λ e. other (sym e)))

none_more : (w : ℕ) (xs : List ℕ) → MoreAt w 0 xs xs
none_more w xs = record { each = λ q. grind arith; all = omega arith }

module _ {S N : Type 0} (next : Next S N) (plan : List Strike) (workers : ℕ) (start : GroupRecord S N) where
  -- a turn of worker w that made a receipt, which led to a record between, and undid n receipts is the last of the list
  told_one : (list told : List (TurnRecord S N)) (old between : GroupRecord S N) (before after : Counts) (t : TurnRecord S N) (w n : ℕ) → told ≡ t ∷ [] → ReachedBy next plan workers start list old before
      → TellsCounts plan workers start list before.by_worker before.undone_by_worker → between.receipts_ever ≡ old.receipts_ever + 1 → w < workers → t.worker ≡ w → undone_in t ≡ n
      → option_map (λ (c : CrashRecord). c.set) t.crash ≡ struck_at plan between.receipts_ever → MoreAt w 1 before.by_worker after.by_worker
      → MoreAt w n before.undone_by_worker after.undone_by_worker → TellsCounts plan workers start (list ++ told) after.by_worker after.undone_by_worker
  told_one list told old between before after t w n is run tells one_more below of_w undid as_planned made undone =
      let k : Keeps plan workers start old before.by_worker before.undone_by_worker = kept next plan workers start old before (forgets run) in
      let number : between.receipts_ever ≡ start.receipts_ever + (length list + 1) = omega (arith, one_more, k.receipts, tells.all_made) in
      rw is
      (record {
        by_workers = λ place u at.
            (elim (At-push list t place u at) [
              | inl front ↦ tells.by_workers place u front
              | inr last ↦ omega (arith, below, of_w, ap (λ (x : TurnRecord S N). x.worker) last.1)
            ]);
        made = λ q in_range.
            (let more : made_by q (list ++ t ∷ []) ≡ made_by q list + cond (t.worker == q) 1 0 = sum_by_push (λ (x : TurnRecord S N). cond (x.worker == q) 1 0) list t in
            cc (more, made.each q, tells.made q in_range, of_w));
        undone = λ q in_range.
            (let more : undone_of q (list ++ t ∷ []) ≡ undone_of q list + cond (t.worker == q) (undone_in t) 0 = sum_by_push (λ (x : TurnRecord S N). cond (x.worker == q) (undone_in x) 0) list t in
            cc (more, undone.each q, tells.undone q in_range, of_w, undid));
        all_made = omega (arith, made.all, tells.all_made, length-append list (t ∷ []));
        all_undone = omega (arith, undone.all, tells.all_undone, undid, sum_by_push undone_in list t);
        planned = λ place u at.
            (elim (At-push list t place u at) [
              | inl front ↦ tells.planned place u front
              | inr last ↦ cc ((as_planned ∙ ap (struck_at plan) number), last.0, last.1)
            ]);
      })

  pub tells : (r : GroupRecord S N) (list : List (TurnRecord S N)) (counts : Counts) → ReachedBy next plan workers start list r counts → TellsCounts plan workers start list counts.by_worker counts.undone_by_worker
  tells r list counts begins = record {
    by_workers = λ place u at. cc;
    made = λ q in_range. get_or-same workers q 0;
    undone = λ q in_range. get_or-same workers q 0;
    all_made = omega (arith, sum_by-replicate (λ (x : ℕ). x) workers 0);
    all_undone = omega (arith, sum_by-replicate (λ (x : ℕ). x) workers 0);
    planned = λ place u at. cc;
  }
  tells r list counts (goes_on old _ before _ w ticket made told run below (commits _ commit none) is) =
      let long = (kept next plan workers start old before (forgets run)).places in
      told_one made told old r before counts is.0 w 0 is.1 run (tells old made before run) commit.1.1.2.delivery.receipts_ever below is.2.worker (ap crash_undid is.3)
      (ap (option_map (λ (c : CrashRecord). c.set)) is.3 ∙ sym none) (more w 1 before.by_worker (omega (arith, below, long.0))) (none_more w before.undone_by_worker)
  tells r list counts (goes_on old _ before _ w ticket made told run below (crashes between _ s recovered commit at crash) is) =
      let long = (kept next plan workers start old before (forgets run)).places in
      told_one made told old between before counts is.0 w recovered.undone is.1 run (tells old made before run) commit.1.1.2.delivery.receipts_ever below is.2.worker
      (ap crash_undid is.3.1 ∙ ap (λ (r : Recovered). r.undone) is.3.2.recovered) (ap (option_map (λ (c : CrashRecord). c.set)) is.3.1 ∙ sym at)
      (more w 1 before.by_worker (omega (arith, below, long.0))) (more w recovered.undone before.undone_by_worker (omega (arith, below, long.1)))
  tells r list counts (goes_on old _ before _ w ticket made told run below (strikes between _ s commit at strike) is) =
      let long = (kept next plan workers start old before (forgets run)).places in
      told_one made told old between before counts is.0 w 0 is.1 run (tells old made before run) commit.1.1.2.delivery.receipts_ever below is.2.worker (ap crash_undid is.3)
      (ap (option_map (λ (c : CrashRecord). c.set)) is.3 ∙ sym at) (more w 1 before.by_worker (omega (arith, below, long.0))) (none_more w before.undone_by_worker)
  tells r list counts (goes_on old _ before _ w ticket made told run below refused is) = rw (is, append-nil made) (tells old made before run)

  -- where only that there is such a run is known
  pub tells_some : (r : GroupRecord S N) (list : List (TurnRecord S N)) (counts : Counts) → ∥ ReachedBy next plan workers start list r counts ∥₁ → TellsCounts plan workers start list counts.by_worker counts.undone_by_worker
  tells_some r list counts run = ∥∥₁_elim run (Prim.hlevel (Coded-set, codes, set.code {R = nat_cmp} coded_ℕ)) (tells r list counts)
