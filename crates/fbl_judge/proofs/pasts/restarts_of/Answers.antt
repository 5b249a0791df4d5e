use Rattle.fbl_judge.proofs.Common.{ℕ, true, false, ◌≡◌, ◌∷◌, ◌∙◌, [], inl, inr, refl, sym, ap, subst, arith, cases_eq, Entry, Some, length, slice_get, slice_get_read, slice_get_within, restart_in, At-front, At-push, Restart}
use Rattle.fbl_trace.proofs.Gets.{At-seam}
use Rattle.std.specs.Option.{is_some}
use Rattle.fbl_runs.specs.declared.entry.Restart as restart
use Rattle.fbl_judge.proofs.pasts.restarts_of.Goals as goal
use Rattle.fbl_judge.proofs.pasts.restarts_of.Goals.{then-is_some+in_ok-push, else-is_some}

-- the entry is a restart exactly where this says so
is_restart : (e : Entry) → is_some (restart_in e) ≡ true → (r : restart.Restart) × (e ≡ Restart r)
is_restart (Restart r) is = (r, refl)
is_restart e is = cc

no_restart : (e : Entry) → is_some (restart_in e) ≡ false → (r : restart.Restart) → ¬ (e ≡ Restart r)
no_restart e no' r same = (let t : is_some (restart_in e) ≡ true = ap (λ x. is_some (restart_in x)) same in cc)

pub loop-place-preserved : goal.loop-place-preserved
loop-place-preserved c =
    let es = c.args.entries.now in
    let p = c.loop-place.place in
    let e = c.index-entries-place.result in
    let here : slice_get es p ≡ Some e = slice_get_read es (length es) p e refl c.loop-place-test.true c.index-entries-place.is in
    let old = c.loop-place.invariant in
    let says : c.is_some.result ≡ is_some (restart_in e) = c.is_some.ensures ∙ ap is_some c.restart.ensures in
    elim c.if-is_some.branch [
      | then-is_some+in_ok-push w ↦
          let r = is_restart e (sym says ∙ w.if-is_some.true) in
          rw (w.places-is, w.in_ok-push.ensures.items) (
            λ k place at. elim (At-push c.loop-place.places.items p k place at) [
              | inl before ↦ old.0 k place before
              | inr now ↦ (r.0, subst (λ (x : ℕ). slice_get es x ≡ Some (Restart r.0)) now.1 (here ∙ ap Some r.1))
            ],
            λ place below is. elim (cases_eq place p) [
              | inl same ↦ (length c.loop-place.places.items, At-seam c.loop-place.places.items p [] ∙ ap Some (sym same))
              | inr ne ↦ (let k = old.1 place (omega (arith, below, ne)) is in (k.0, At-front c.loop-place.places.items (p ∷ []) k.0 place k.1))
            ],
          )
      | else-is_some w ↦
          rw w.places-is (
            old.0,
            λ place below is. elim (cases_eq place p) [
              | inl same ↦ absurd (no_restart e (sym says ∙ w.if-is_some.false) is.0 (let s : Some e ≡ Some (Restart is.0) = sym here ∙ subst (λ (x : ℕ). slice_get es x ≡ Some (Restart is.0)) same is.1 in cc))
              | inr ne ↦ old.1 place (omega (arith, below, ne)) is
            ],
          )
    ]

pub returns : goal.returns
returns c = record {
  each = c.loop-place.invariant.0;
  all = λ place is. c.loop-place.invariant.1 place
      (let within = slice_get_within c.args.entries.now place (Restart is.0) is.1 in let past = c.loop-place-test.false in omega (arith, within, past)) is;
}
