use Rattle.fbl_runs.proofs.Common.{ℕ, ◌≡◌, ◌<◌, ◌++◌, ◌∷◌, [], ◌∙◌, append-nil, arith, ap, Bool, cond, false, true, length, List, refl, slice_get, slice_get_read, slice_get_within, Some, subst, sym}
use Rattle.std.proofs.Common.{set, get_or}
use Rattle.std.proofs.lemmas.Bool.{ltb-false}
use Rattle.fbl_runs.specs.declared.lives.KnownLog.{KnownLog}
use Rattle.fbl_runs.specs.declared.lives.Life.{Life}
use Rattle.fbl_runs.specs.Rules.{is_send}
use Rattle.fbl_runs.proofs.LivedLaws.{set_itself}
use Rattle.fbl_runs.proofs.lives.Lives.note.Goals as goal

-- what is read at an index is what stands there
read : {X : Type 0} (xs : List X) (i j : ℕ) (x y : X) → i ≡ j → i < length xs → x ≡ get_or xs i x → slice_get xs j ≡ Some y → x ≡ y
read {X} xs i j x y same within is here =
    let seen : slice_get xs i ≡ Some x = slice_get_read xs (length xs) i x refl within is in
    let there : slice_get xs i ≡ Some y = subst (λ (k : ℕ). slice_get xs k ≡ Some y) (sym same) here in
    (let some : Some x ≡ Some y = sym seen ∙ there in cc)

pub returns-in_ok-push-clause-lives : goal.returns-in_ok-push-clause-lives
returns-in_ok-push-clause-lives c log life at_log at_life =
    let logs = c.args.self.now.logs.items in
    let lives = c.args.self.now.lives.items in
    let below : c.number.result < length logs = (let room = c.args.self.now.room in let bound = c.number.ensures.bound in omega (arith, room, bound)) in
    let same_log : c.index.result.now ≡ log = read logs c.number.result _ c.index.result.now log (c.number.ensures.value ∙ c.member.ensures) below c.index.ensures at_log in
    let index : c.index.result.now.life ≡ log.life = ap (λ (k : KnownLog). k.life) same_log in
    let within : c.index.result.now.life < length lives = (let w = slice_get_within lives log.life life at_life in omega (arith, w, index)) in
    let same_life : c.in-Some.life.now ≡ life = read lives c.index.result.now.life log.life c.in-Some.life.now life index within c.in-Some.ensures.value at_life in
    let send : is_send c.args.entry.now ≡ true = sym c.is_send.ensures ∙ c.if-is_send.true in (
      c.push.new.self,
      c.in_ok-push.ensures.items ∙ ap (λ (l : Life). l.sends.items ++ record { number = c.args.number; entry = c.args.entry.now } ∷ []) same_life
          ∙ ap (λ (b : Bool). life.sends.items ++ cond b (record { number = c.args.number; entry = c.args.entry.now } ∷ []) []) (sym send),
      ap (λ (i : ℕ). set lives i (record c.in-Some.life.now { sends = c.push.new.self })) index ∙ ap (λ (l : Life). set lives log.life (record l { sends = c.push.new.self })) same_life,
    )

pub returns-in_default-clause-lives : goal.returns-in_default-clause-lives
returns-in_default-clause-lives c log life at_log at_life =
    let logs = c.args.self.now.logs.items in
    let lives = c.args.self.now.lives.items in
    let below : c.number.result < length logs = (let room = c.args.self.now.room in let bound = c.number.ensures.bound in omega (arith, room, bound)) in
    let same_log : c.index.result.now ≡ log = read logs c.number.result _ c.index.result.now log (c.number.ensures.value ∙ c.member.ensures) below c.index.ensures at_log in
    let index : c.index.result.now.life ≡ log.life = ap (λ (k : KnownLog). k.life) same_log in
    absurd (let w = slice_get_within lives log.life life at_life in let past = ltb-false c.index.result.now.life (length lives) (sym c.in_default.ensures.item.0) in omega (arith, w, index, past))

pub returns-else-is_send-clause-lives : goal.returns-else-is_send-clause-lives
returns-else-is_send-clause-lives c log life at_log at_life =
    let other : is_send c.args.entry.now ≡ false = sym c.is_send.ensures ∙ c.if-is_send.false in (
      life.sends,
      sym (append-nil life.sends.items) ∙ ap (λ (b : Bool). life.sends.items ++ cond b (record { number = c.args.number; entry = c.args.entry.now } ∷ []) []) (sym other),
      set_itself c.args.self.now.lives.items log.life life at_life,
    )
