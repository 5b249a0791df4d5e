use Rattle.fbl_runs.proofs.Common.{ℕ, ◌≡◌, ◌≤◌, ◌∙◌, arith, ap, at, Determinant, Entry, length, List, log_of, named_life, None, Option, receipt_in, Restart, slice_get, slice_get_within, Some, subst, sym}
use Rattle.std.proofs.Common.{MatchOption}
use Rattle.std.proofs.lemmas.Bool.{ltb-false}
use Rattle.fbl_runs.specs.Clocks.{StandsAt}
use Rattle.fbl_runs.specs.declared.entry.Restart as restart
use Rattle.fbl_runs.specs.declared.lives.Life.{Life}
use Rattle.fbl_runs.specs.KnownLives.{IsBeginning}
use Rattle.fbl_runs.proofs.Listing.{read}
use Rattle.fbl_runs.proofs.KnownLaws.{begun_at, first_begun, no_number}
use Rattle.fbl_runs.proofs.links.beginning.Goals as goal

same_receipt : (e : Entry) (a b : Determinant) → Some a ≡ receipt_in e → receipt_in e ≡ Some b → a ≡ b
same_receipt e a b one other = (let some : Some a ≡ Some b = one ∙ other in cc)

moved : (before : List Entry) (e : Entry) (a b : Determinant) (life : ℕ) (o : Option ℕ) → Some a ≡ receipt_in e → receipt_in e ≡ Some b → life ≡ named_life e → IsBeginning before a.from life o → IsBeginning before b.from (named_life e) o
moved before e a b life o one other named is = subst (λ (d : Determinant). IsBeginning before d.from (named_life e) o) (same_receipt e a b one other) (subst (λ (f : ℕ). IsBeginning before a.from f o) named is)

found : (before : List Entry) (from life k : ℕ) (o : Option ℕ) (r : restart.Restart) → slice_get (log_of before from) k ≡ Some (Restart r) → r.life ≡ life
    → MatchOption o (length (log_of before from) ≤ k) (λ p. StandsAt before p (at from k)) → IsBeginning before from life o
found before from life k None r at_k same past = absurd (let w = slice_get_within (log_of before from) k (Restart r) at_k in omega (arith, w, past))
found before from life k (Some p) r at_k same stands = (k, r, stands, at_k, same)

pub returns-in_err-life-clause-receipt : goal.returns-in_err-life-clause-receipt
returns-in_err-life-clause-receipt c before d has is =
    let a = c.in_ok-receipt.receipt in
    moved before c.args.entry.now a d c.life.result c.from_residual-in_err-life.result c.in_ok-receipt.ensures is c.life.ensures
    (subst (IsBeginning before a.from c.life.result) (sym c.from_residual-in_err-life.ensures) (no_number before c.args.lives.now has a.from c.life.result c.in_err-life.ensures))

pub returns-in_err-get-clause-receipt : goal.returns-in_err-get-clause-receipt
returns-in_err-get-clause-receipt c before d has is =
    let l = c.in_ok-life.ensures in
    let size : length c.deref.result.now ≡ length c.args.lives.now.lives.items = ap length c.deref.ensures.value in
    let past = ltb-false c.in_ok-life.life (length c.deref.result.now) (sym c.in_err-get.ensures.lookup.0) in
    absurd (let w = slice_get_within c.args.lives.now.lives.items c.in_ok-life.life l.0 l.1 in omega (arith, w, size, past))

pub returns-in_err-restart-clause-receipt : goal.returns-in_err-restart-clause-receipt
returns-in_err-restart-clause-receipt c before d has is =
    let a = c.in_ok-receipt.receipt in
    let l = c.in_ok-life.ensures in
    let life = c.in_ok-get.field-0.now in
    let at_life = read c.args.lives.now.lives.items c.deref.result.now c.in_ok-life.life life c.deref.ensures.value c.in_ok-get.ensures.lookup.3.0 c.in_ok-get.ensures.lookup.1 in
    let same : l.0 ≡ life = (let some : Some l.0 ≡ Some life = sym l.1 ∙ at_life in cc) in
    moved before c.args.entry.now a d c.life.result c.from_residual-in_err-restart.result c.in_ok-receipt.ensures is c.life.ensures
    (subst (IsBeginning before a.from c.life.result) (sym c.from_residual-in_err-restart.ensures)
    (first_begun before c.args.lives.now has c.in_ok-life.life a.from c.life.result l.0 l.1 l.2 l.3 (ap (λ (l : Life). l.restart) same ∙ c.in_err-restart.was)))

pub returns-clause-receipt : goal.returns-clause-receipt
returns-clause-receipt c before d has is =
    let a = c.in_ok-receipt.receipt in
    let l = c.in_ok-life.ensures in
    let life = c.in_ok-get.field-0.now in
    let at_life = read c.args.lives.now.lives.items c.deref.result.now c.in_ok-life.life life c.deref.ensures.value c.in_ok-get.ensures.lookup.3.0 c.in_ok-get.ensures.lookup.1 in
    let same : l.0 ≡ life = (let some : Some l.0 ≡ Some life = sym l.1 ∙ at_life in cc) in
    let begun = begun_at before c.args.lives.now has c.in_ok-life.life a.from c.life.result l.0 l.1 l.2 l.3 c.in_ok-restart.restart (ap (λ (l : Life). l.restart) same ∙ c.in_ok-restart.was) in
    moved before c.args.entry.now a d c.life.result c.place.result c.in_ok-receipt.ensures is c.life.ensures
    (found before a.from c.life.result c.in_ok-restart.restart c.place.result begun.0 begun.1 begun.2 (c.place.ensures before has))
