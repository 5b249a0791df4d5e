use Rattle.fbl_trace.proofs.Common.{◌∙◌, false≢true, refl, slice_get_read, sym}
use Rattle.fbl_trace.proofs.Gets.{each_all, each_more}
use Rattle.fbl_trace.proofs.config.first_bad_start.Goals as goal

pub loop-place-preserved : goal.loop-place-preserved
loop-place-preserved g c =
    each_more _ c.args.starts.now c.loop-place.place c.index-starts-place.result c.loop-place-test.true c.index-starts-place.is
    (c.is_allowed.ensures.0 c.if-not-is_allowed.false) c.loop-place.invariant

pub returns-then-not-is_allowed : goal.returns-then-not-is_allowed
returns-then-not-is_allowed g c = (
  c.loop-place.invariant,
  λ all. false≢true (sym c.if-not-is_allowed.true ∙ c.is_allowed.ensures.1 (all _ (slice_get_read _ _ _ _ refl c.loop-place-test.true c.index-starts-place.is))),
)

pub returns : goal.returns
returns g c = each_all _ c.args.starts.now c.loop-place.place c.loop-place-test.false c.loop-place.invariant
