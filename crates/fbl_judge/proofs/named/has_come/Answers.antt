use Rattle.fbl_judge.proofs.Common.{◌≡◌, ◌<◌, ◌∙◌, arith, ap, nat_tests, cut_of}
use Rattle.fbl_judge.proofs.Places.{member_is, read_at}
use Rattle.fbl_judge.proofs.named.has_come.Goals as goal

pub returns : goal.returns
returns c i stands =
    let es = c.args.pasts.now.entries in
    let e = c.index-entries-place.result in
    let own = member_is es c.args.place e i (read_at es c.entries.result.now c.args.place e c.entries.ensures.entries c.requires c.index-entries-place.is) stands in
    let count : c.count.result ≡ cut_of c.args.moment.now i.member = c.count.ensures ∙ ap (cut_of c.args.moment.now) (c.member-member.ensures ∙ own) in
    let number = c.number.ensures i stands in
    (λ h. (let lt : c.number.result < c.count.result = grind (arith, nat_tests, h) in omega (arith, lt, count, number)), λ come. (let lt : c.number.result < c.count.result = omega (arith, come, count, number) in grind (arith, nat_tests, lt)))
