use Rattle.fbl_judge.proofs.Common.{arith, ℕ, ◌≡◌, ◌==◌, ◌∙◌, eqb-true, eqb-self, inl, inr, cases_eq, sym, ap, subst, false≢true, refl, slice_get, slice_get_within, at, StandsAt, Position}
use Rattle.std.proofs.lemmas.Option.{slice_get-get_or}
use Rattle.fbl_judge.proofs.Places.{member_is, read_at}
use Rattle.fbl_judge.proofs.Restarts.{none_restarted, own_restart, some_is}
use Rattle.fbl_judge.proofs.named.has_restarted.Goals as goal

pub returns-then-eq : goal.returns-then-eq
returns-then-eq c = (
  λ yes.
      let es = c.args.pasts.now.entries in
      let restarts = c.restarts-restarts.result.now in
      let is = c.restarts-restarts.ensures.each c.loop-place.place-index _ (slice_get-get_or restarts c.loop-place.place-index 0 c.loop-place-test.true) in
      let here = read_at es c.entries-entries.result.now _ c.index-entries-place.result c.entries-entries.ensures.entries (slice_get_within es _ _ is.1) c.index-entries-place.is in
      own_restart es _ c.args.member c.index-entries-place.result is here (sym c.member.ensures ∙ eqb-true c.member.result c.args.member (sym c.eq.ensures ∙ c.if-eq.true)),
  λ h. refl,
)

pub loop-place-preserved : goal.loop-place-preserved
loop-place-preserved c k place r below at_k stands own = elim (cases_eq k c.loop-place.place-index) [
  | inl same ↦
      let es = c.args.pasts.now.entries in
      let restarts = c.restarts-restarts.result.now in
      let at_p = slice_get-get_or restarts c.loop-place.place-index 0 c.loop-place-test.true in
      let is = c.restarts-restarts.ensures.each c.loop-place.place-index _ at_p in
      let here = read_at es c.entries-entries.result.now _ c.index-entries-place.result c.entries-entries.ensures.entries (slice_get_within es _ _ is.1) c.index-entries-place.is in
      let at_r = subst (λ (p : ℕ). StandsAt es p r) (some_is (sym at_k ∙ ap (slice_get restarts) same ∙ at_p)) stands in
      let member : c.member.result ≡ c.args.member = c.member.ensures ∙ member_is es _ c.index-entries-place.result r here at_r ∙ own in
      false≢true (sym c.if-eq.false ∙ c.eq.ensures ∙ ap (λ (m : ℕ). m == c.args.member) member ∙ eqb-self c.args.member)
  | inr ne ↦ c.loop-place.invariant k place r (omega (arith, below, ne)) at_k stands own
]

pub returns : goal.returns
returns c = (
  λ no. absurd (false≢true no),
  λ h. absurd (none_restarted c.args.pasts.now.entries c.restarts-restarts.result.now c.loop-place.place-index (λ (r : Position). r.member ≡ c.args.member) c.restarts-restarts.ensures
      (let end = c.loop-place-test.false in omega (arith, end)) c.loop-place.invariant (at c.args.member h.0) h.1 h.2 refl),
)
