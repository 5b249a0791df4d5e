use Rattle.fbl_pictures.proofs.Common.{ℕ, ◌+◌, ◌==◌, ◌<◌, ◌≤◌, ◌≡◌, ◌∙◌, None, Some, ap, arith, column_in, cond, false≢true, get_or, is_some, not, slice_get, slice_get-get_or, subst, sym, set, entry_member, cut_of, IsBeyond, IsEnd, seen}
use Rattle.fbl_runs.proofs.Listing.{seen-le}
use Rattle.fbl_pictures.proofs.Crossing.{beyond_kept, beyond_set, end_come, end_kept, pass_more, is_none}
use Rattle.fbl_pictures.specs.declared.run.crossings.Crossings.{Crossings}
use Rattle.fbl_pictures.proofs.run.crossings.Crossings.add.Goals as goal
use Rattle.fbl_pictures.proofs.run.crossings.Crossings.add.Goals.{then-self-number, else-self-number+then-is_none, else-self-number+else-is_none}

pub overflow_add-self-2 : goal.overflow_add-self-2
overflow_add-self-2 c =
    let m = c.number-number.result in
    let few = seen-le c.args.entries.now c.args.place m in
    let count = c.requires.passed.counts m c.number-number.ensures.bound in
    elim c.if-self-number.branch [
      | then-self-number w ↦ omega (arith, few, count, ap (λ (s : Crossings). get_or s.counts m 0) w.self-is)
      | else-self-number+then-is_none w ↦ omega (arith, few, count, ap (λ (s : Crossings). get_or s.counts m 0) w.self-is)
      | else-self-number+else-is_none w ↦ omega (arith, few, count, ap (λ (s : Crossings). get_or s.counts m 0) w.self-is)
    ]

pub returns : goal.returns
returns c =
    let entries = c.args.entries.now in
    let cut = cut_of c.args.cut.now in
    let p = c.args.place in
    let e = c.index-entries-place.result in
    let m = c.number-number.result in
    let old = c.args.self.now in
    let passed = c.requires.passed in
    let below : m < 16 = c.number-number.ensures.bound in
    let count = passed.counts m below in
    let here : slice_get entries p ≡ Some e = slice_get-get_or entries p e c.requires.within ∙ ap Some (sym c.index-entries-place.is) in
    let limit : c.count.result ≡ cut m = c.count.ensures ∙ ap cut (sym c.number-number.ensures.value) in
    let own : entry_member e ≡ m = sym c.member-member.ensures ∙ sym c.number-number.ensures.value in
    elim c.if-self-number.branch [
      | then-self-number w ↦
          let come : seen entries p m < cut m = omega (arith, count, limit, w.if-self-number.true) in
          pass_more entries cut p e m here own old _ below passed (ap (λ (s : Crossings). set s.counts m (get_or s.counts m 0 + 1)) w.self-is)
          (subst (λ (n : ℕ). IsEnd entries cut (p + 1) n) (sym (ap (λ (s : Crossings). s.end) w.self-is)) (end_come entries cut p e m here own come))
          (λ q within. subst (λ (s : Crossings). IsBeyond entries cut (p + 1) q (column_in s.beyond q)) (sym w.self-is)
          (beyond_kept entries cut p e m here own q (column_in old.beyond q) (passed.beyond q within) (λ none same. come)))
      | else-self-number+then-is_none w ↦
          let beyond : cut m ≤ seen entries p m = omega (arith, count, limit, w.if-self-number.false) in
          let at : w.get.result ≡ column_in old.beyond m = w.get.ensures ∙ ap (column_in old.beyond) (w.number.ensures.value ∙ sym c.number-number.ensures.value) in
          let none : column_in old.beyond m ≡ None = sym at ∙ is_none w.get.result (w.is_none.ensures ∙ ap not w.if-is_none.true) in
          pass_more entries cut p e m here own old _ below passed (ap (λ (s : Crossings). set s.counts m (get_or s.counts m 0 + 1)) w.self-is)
          (subst (λ (n : ℕ). IsEnd entries cut (p + 1) n) (sym (ap (λ (s : Crossings). s.end) w.self-is)) (end_kept entries cut p e m here own beyond old.end passed.end))
          (λ q within. subst (λ (s : Crossings). IsBeyond entries cut (p + 1) q (column_in s.beyond q)) (sym w.self-is)
          (beyond_set entries cut p e m here own old.beyond w.put.new.self beyond none (λ k. w.put.ensures k ∙ ap (λ x. cond (k == x) (Some p) (column_in old.beyond k)) (sym c.number-number.ensures.value)) below passed.beyond q within))
      | else-self-number+else-is_none w ↦
          let beyond : cut m ≤ seen entries p m = omega (arith, count, limit, w.if-self-number.false) in
          let at : w.get.result ≡ column_in old.beyond m = w.get.ensures ∙ ap (column_in old.beyond) (w.number.ensures.value ∙ sym c.number-number.ensures.value) in
          pass_more entries cut p e m here own old _ below passed (ap (λ (s : Crossings). set s.counts m (get_or s.counts m 0 + 1)) w.self-is)
          (subst (λ (n : ℕ). IsEnd entries cut (p + 1) n) (sym (ap (λ (s : Crossings). s.end) w.self-is)) (end_kept entries cut p e m here own beyond old.end passed.end))
          (λ q within. subst (λ (s : Crossings). IsBeyond entries cut (p + 1) q (column_in s.beyond q)) (sym w.self-is)
          (beyond_kept entries cut p e m here own q (column_in old.beyond q) (passed.beyond q within) (λ none same. absurd (false≢true (sym (ap is_some (at ∙ ap (column_in old.beyond) (sym same) ∙ none)) ∙ w.is_none.ensures ∙ ap not w.if-is_none.false)))))
    ]
