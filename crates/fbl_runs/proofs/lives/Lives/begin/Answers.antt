use Rattle.fbl_runs.proofs.Common.{ℕ, ◌≡◌, ◌<◌, ◌∙◌, arith, ap, length, refl, slice_get, slice_get_read, Some, subst, sym}
use Rattle.std.proofs.Common.{filter, rules, set, vec_len}
use Rattle.fbl_runs.specs.declared.lives.KnownLog.{KnownLog}
use Rattle.fbl_runs.specs.Rules.{is_send}
use Rattle.fbl_runs.proofs.lives.Lives.begin.Goals as goal

pub returns-clause-lives : goal.returns-clause-lives
returns-clause-lives c log here =
    let logs = c.args.self.now.logs.items in
    let i = c.number-at.result in
    let below : i < length logs = (let room = c.args.self.now.room in let bound = c.number-at.ensures.bound in omega (arith, room, bound)) in
    let at_i : slice_get logs i ≡ Some log = subst (λ (k : ℕ). slice_get logs k ≡ Some log) (sym c.number-at.ensures.value) here in
    let seen : slice_get logs i ≡ Some c.index.result.now = slice_get_read logs (length logs) i c.index.result.now refl below c.index.ensures in
    let taken : slice_get logs i ≡ Some c.index_mut.result.now = slice_get_read logs (length logs) i c.index_mut.result.now refl below c.index_mut.ensures.value in
    let same : c.index.result.now ≡ log = (let some : Some c.index.result.now ≡ Some log = sym seen ∙ at_i in cc) in
    let same' : c.index_mut.result.now ≡ log = (let some : Some c.index_mut.result.now ≡ Some log = sym taken ∙ at_i in cc) in
    let tie : vec_len c.args.self.now.lives ≡ length c.args.self.now.lives.items = search rules in (
      c.in_ok-sends.sends,
      c.in_ok-sends.ensures ∙ ap (λ (k : KnownLog). filter (λ e. is_send e.entry) k.standing.items) same,
      c.in_ok-push.ensures.items,
      ap (λ (k : KnownLog). set logs i (record k { life = c.len.result })) same' ∙ ap (λ (n : ℕ). set logs i (record log { life = n })) (c.len.ensures ∙ tie)
          ∙ ap (λ (m : ℕ). set logs m (record log { life = length c.args.self.now.lives.items })) c.number-at.ensures.value,
    )
