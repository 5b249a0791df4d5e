-- What a run of turns keeps where only that there is one is known, and that it leaves the group where it makes no receipt.
use Rattle.fbl_turns.proofs.Common.{List, arith, refl, sum, ℕ, ◌≡◌, Coded, Coded-set, coded_ℕ, codes, nat_cmp, Next, Strike, GroupRecord, Keeps, Counts, Reached, starts, turns, is_full, is_late, wants, ∥∥₁_elim}
use Rattle.std.specs.FinSet as set
use Rattle.fbl_table.specs.contracts.entry.Entry as entry
use Rattle.fbl_turns.proofs.Keeping.{kept, sum-more}

module _ {S N : Type 0} where
  -- where no receipt is counted the group is as it was
  unmoved : (next : Next S N) (plan : List Strike) (workers : ℕ) (start r : GroupRecord S N) (c : Counts) → Reached next plan workers start r c → sum c.by_worker ≡ 0 → r ≡ start
  unmoved next plan workers start r c starts none = refl
  unmoved next plan workers start r c (turns old _ before _ w ticket run below (is_full refused)) none = unmoved next plan workers start old before run none
  unmoved next plan workers start r c (turns old _ before _ w ticket run below (wants free)) none = unmoved next plan workers start old before run none
  unmoved next plan workers start r c (turns old _ before _ w ticket run below (is_late refused)) none = unmoved next plan workers start old before run none
  unmoved next plan workers start r c (turns old _ before _ w ticket run below commit) none =
      absurd (omega (arith, none, below, (kept next plan workers start old before run).places.0, sum-more before.by_worker w 1))

module _ {S N : Type 0} (s : Coded S) (n : Coded N) {next : Next S N} {plan : List Strike} {workers : ℕ} {old new : GroupRecord S N} {counts : Counts} (run : ∥ Reached next plan workers old new counts ∥₁) where
  pub kept_by_some : Keeps plan workers old new counts.by_worker counts.undone_by_worker
  kept_by_some =
      ∥∥₁_elim run (Prim.hlevel (Coded-set, codes, s, n, entry.the_row.coded, set.code {R = nat_cmp} coded_ℕ))
      (kept next plan workers old new counts)

  pub still : new.receipts_ever ≡ old.receipts_ever → new ≡ old
  still same =
      ∥∥₁_elim run (Prim.hlevel (Coded-set, codes, s, n, entry.the_row.coded, set.code {R = nat_cmp} coded_ℕ))
      (λ x. unmoved next plan workers old new counts x (omega (arith, same, kept_by_some.receipts)))
