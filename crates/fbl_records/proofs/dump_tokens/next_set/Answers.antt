use Rattle.fbl_records.proofs.Common.{◌≡◌, ◌∙◌, ◌+◌, ◌++◌, ◌∷◌, [], ap, sym, option_map, take, take_all, take_more, nat_cmp, nat_cmp_total, Some}
use Rattle.std.specs.FinSet as set
use Rattle.fbl_records.proofs.dump_tokens.next_set.Goals as goal

pub loop-member-preserved : goal.loop-member-preserved
loop-member-preserved c =
    let members = c.deref-member-items.result.now in
    let i = c.loop-member.member-index in
    let member = c.member-item.result in
    let more : take (i + 1) members ≡ take i members ++ member ∷ [] = take_more members i member c.loop-member-test.true ∙ ap (λ x. take i members ++ x ∷ []) (sym c.member-item.is) in
    c.with-set.ensures ∙ ap (λ s. set.insert s member) c.loop-member.invariant ∙ sym (set.from_list_push nat_cmp_total set.nat_cmp-IsAntisymmetric (take i members) member)
    ∙ ap (set.from_list {R = nat_cmp}) (sym more)

pub returns : goal.returns
returns c =
    let h = rw c.in-Some.is at c.in_ok-members.ensures in
    let all = sym (take_all c.loop-member.member-index c.deref-member-items.result.now c.loop-member-test.false ∙ c.deref-member-items.ensures.value) in
    (h.0, h.1, ap (option_map (set.from_list {R = nat_cmp})) h.2 ∙ ap Some (ap (set.from_list {R = nat_cmp}) all ∙ sym c.loop-member.invariant))
