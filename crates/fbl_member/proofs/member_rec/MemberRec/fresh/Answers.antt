use Rattle.fbl_member.proofs.Common.{◌≡◌, ap, arith, common_steps, length, length-append, refl}
use Rattle.fbl_member.proofs.Logs.{few_starts}
use Rattle.fbl_member.proofs.member_rec.MemberRec.fresh.Goals as goal

pub loop-start-preserved : goal.loop-start-preserved
loop-start-preserved g c = grind (arith, common_steps)

pub invariant_of-result : goal.invariant_of-result
invariant_of-result g c =
    let all = ap length c.loop-start.invariant in
    let few = few_starts c.args.me c.starts-start-items.result.now in
    let same : c.starts-start-items.result.now ≡ c.args.config.now.starts = c.starts-start-items.ensures in
    (refl, omega arith, omega (arith, all, length-append c.loop-start.log.items, few, c.members-members.ensures.rules.few_starts, ap length same))

pub returns : goal.returns
returns g c = grind (arith, common_steps)
