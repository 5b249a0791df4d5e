use Rattle.fbl_runs.proofs.Common.{◌+◌, ◌∙◌, arith, log_of, standing, take}
use Rattle.fbl_runs.specs.Rules.{is_receipt}
use Rattle.fbl_runs.proofs.DueLaws.{count_standing}
use Rattle.fbl_runs.proofs.FewLaws.{events_count, events_front, standing_few}
use Rattle.fbl_runs.proofs.life_rules.LifeRules.broken_restart.Goals as goal

pub returns-then-standing-kept : goal.returns-then-standing-kept
returns-then-standing-kept c before has =
    let log = log_of before c.args.restart.member in
    let room = has.lived.count in
    let life = c.life_now-life.ensures before has.lived in
    let stands = events_count log (standing log) c.standing-standing.result.now (c.standing-standing.ensures before has.lived) in
    let few = standing_few before c.args.restart.member in
    let small = c.small.ensures (omega (arith, stands, few, has.count, has.few)) in (
      omega (arith, room, c.len.ensures, c.if-len-ge-MOST_LIVES.false),
      omega (arith, c.number.ensures.value, c.if-number-n.false),
      omega (arith, life, c.if-restart-life.false),
      small ∙ stands,
      omega (arith, small, c.if-standing-kept.true),
    )

pub returns-then-receipts_among-restart : goal.returns-then-receipts_among-restart
returns-then-receipts_among-restart c before has =
    let r = c.args.restart in
    let log = log_of before r.member in
    let room = has.lived.count in
    let life = c.life_now-life.ensures before has.lived in
    let are = c.standing-standing.ensures before has.lived in
    let stands = events_count log (standing log) c.standing-standing.result.now are in
    let kept = count_standing is_receipt log (take (r.receipts + r.sends) (standing log)) (take (r.receipts + r.sends) c.standing-standing.result.now)
    (events_front log (standing log) c.standing-standing.result.now (r.receipts + r.sends) are) in (
      omega (arith, room, c.len.ensures, c.if-len-ge-MOST_LIVES.false),
      omega (arith, c.number.ensures.value, c.if-number-n.false),
      omega (arith, life, c.if-restart-life.false),
      omega (arith, stands, c.if-standing-kept.false),
      λ keeps. (let count = c.receipts_among.ensures in omega (arith, keeps, kept, count, c.if-receipts_among-restart.true)),
    )

pub returns : goal.returns
returns c before has =
    let r = c.args.restart in
    let log = log_of before r.member in
    let room = has.lived.count in
    let life = c.life_now-life.ensures before has.lived in
    let are = c.standing-standing.ensures before has.lived in
    let stands = events_count log (standing log) c.standing-standing.result.now are in
    let kept = count_standing is_receipt log (take (r.receipts + r.sends) (standing log)) (take (r.receipts + r.sends) c.standing-standing.result.now)
    (events_front log (standing log) c.standing-standing.result.now (r.receipts + r.sends) are) in (
      omega (arith, room, c.len.ensures, c.if-len-ge-MOST_LIVES.false),
      omega (arith, c.number.ensures.value, c.if-number-n.false),
      omega (arith, life, c.if-restart-life.false),
      omega (arith, stands, c.if-standing-kept.false),
      (let count = c.receipts_among.ensures in omega (arith, kept, count, c.if-receipts_among-restart.false)),
    )
