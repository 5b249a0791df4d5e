use Rattle.fbl_history.proofs.Common.{[], ap, arith, filter_map-append, length, map, mark_of, sends_of, start_columns, start_events, take, take_all, take_more, ◌+◌, ◌++◌, ◌∙◌, ◌∷◌, ◌≡◌}
use Rattle.fbl_history.proofs.Common.{ReceiptsFollowSends, Send, count_by, false, is_sent_by, subst, sym}
use Rattle.fbl_history.proofs.Counting.{count_sent}
use Rattle.fbl_history.proofs.Sends.{follow_sends}
use Rattle.fbl_history.proofs.Steps.{start_events-push}
use Rattle.fbl_history.proofs.history.History.new.Goals as goal

pub count_sends-requires : goal.count_sends-requires
count_sends-requires c =
    omega (arith, ap length c.deref.ensures.value, c.loop-start.invariant.so_many, c.loop-start-test.true, ap length c.starts-start-items.ensures, c.members.ensures.rules.few_starts)

pub loop-start-preserved : goal.loop-start-preserved
loop-start-preserved c =
    let so_far = c.loop-start.invariant in
    let starts = c.starts-start-items.result.now in
    let start = c.start-item.result in
    let before = take c.loop-start.start-index starts in
    let number : c.count_sends.result ≡ sends_of (map mark_of (start_events [] before)) start.from =
    c.count_sends.ensures.value ∙ ap (count_by (is_sent_by start.from)) (c.deref.ensures.value ∙ so_far.made) ∙ count_sent start.from (start_events [] before) in
    record {
      so_many = omega (arith, c.in_ok-push.ensures.len, so_far.so_many);
      made = rw (take_more starts c.loop-start.start-index start c.loop-start-test.true, ← c.start-item.is, start_events-push [] before start, filter_map-append)
          (c.in_ok-push.ensures.items ∙ (λ i. so_far.made i ++ Send start.from (number i + 1) start.to false ∷ []));
    }

pub invariant_of-result : goal.invariant_of-result
invariant_of-result c =
    subst ReceiptsFollowSends (sym c.loop-start.invariant.made) (follow_sends (start_events [] (take c.loop-start.start-index c.starts-start-items.result.now)))

pub returns : goal.returns
returns c =
    c.loop-start.invariant.made ∙ ap start_columns (take_all c.loop-start.start-index c.starts-start-items.result.now (omega (arith, c.loop-start-test.false)) ∙ c.starts-start-items.ensures)
