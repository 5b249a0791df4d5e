use Rattle.fbl_order.proofs.Common.{◌≡◌, ◌≢◌, ◌∙◌, ◌==◌, Some, arith, ap, eqb-self, eqb-true, false≢true, refl, slice_get, slice_get_read, slice_get_within, sym, take_all}
use Rattle.fbl_order.proofs.Common.{entry_member}
use Rattle.fbl_order.specs.Cursors.{own}
use Rattle.fbl_order.proofs.Own.{own-take_other}
use Rattle.fbl_order.proofs.cursors.next_of.Goals as goal

pub returns-then-eq : goal.returns-then-eq
returns-then-eq c =
    let at : slice_get c.args.entries.now c.loop-next.next ≡ Some c.index-entries-next.result = slice_get_read _ _ _ _ refl c.loop-next-test.true c.index-entries-next.is in
    let mine = sym c.member.ensures ∙ eqb-true c.member.result c.args.member (sym c.eq.ensures ∙ c.if-eq.true) in
    record {
      later = c.loop-next.auto.next;
      next = (omega arith, λ x there. (let same : Some c.index-entries-next.result ≡ Some x = sym at ∙ there in rw (← (let e : c.index-entries-next.result ≡ x = cc in e)) mine));
      skips = c.loop-next.invariant;
    }

pub loop-next-preserved : goal.loop-next-preserved
loop-next-preserved c =
    let other : entry_member c.index-entries-next.result ≢ c.args.member =
    λ same. false≢true (sym c.if-eq.false ∙ c.eq.ensures ∙ ap (λ m. m == c.args.member) (c.member.ensures ∙ same) ∙ eqb-self c.args.member) in
    own-take_other entry_member c.args.member c.args.entries.now c.loop-next.next c.index-entries-next.result
    (slice_get_read _ _ _ _ refl c.loop-next-test.true c.index-entries-next.is) other ∙ c.loop-next.invariant

pub returns : goal.returns
returns c =
    let all = take_all c.loop-next.next c.args.entries.now c.loop-next-test.false in
    record {
      later = c.requires;
      next = (omega arith, λ x there. absurd (omega (arith, slice_get_within c.args.entries.now _ x there)));
      skips = ap (own entry_member c.args.member) (take_all _ c.args.entries.now (omega arith) ∙ sym all) ∙ c.loop-next.invariant;
    }
