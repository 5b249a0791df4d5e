use Rattle.fbl_scripts.proofs.Common.{◌≡◌, ℕ, ◌+◌, ◌<◌, List, [], ◌∷◌, ◌++◌, Option, Some, Ok, Err, Result, arith, ap, ◌∙◌, sym, refl, drop, get_or, length, map, suc, append_assoc, nat_eq, ◌>>=◌, Data, Value, view, RunFault}
use Rattle.std.proofs.Common.{add-one, drop-cons, false}
use Rattle.std.proofs.lemmas.List.{append-nil, drop_all}
use Rattle.std.proofs.lemmas.Bool.{ne_eqb}
use Rattle.fbl_scripts.specs.Scripts.{commands_from, command_shape, with_front}
use Rattle.fbl_scripts.specs.declared.script.Command.{Command}
use Rattle.fbl_scripts.proofs.command_reader.commands_in.Goals as goal

-- one more command stands at the front
moved : (front : List Command) (c : Command) (rest : Result (List Command) RunFault) → with_front (front ++ c ∷ []) rest ≡ with_front front (rest >>= λ cs. Ok (c ∷ cs))
moved front c (Err e) = refl
moved front c (Ok cs) = ap Ok (append_assoc front (c ∷ []) cs)

here : (list : List Value) (i : ℕ) (v : Value) → i < length list → v ≡ get_or list i v → drop i list ≡ v ∷ drop (i + 1) list
here list i v within is = rw add-one (drop-cons list i v within ∙ ap (λ x. x ∷ drop (suc i) list) (sym is))

one_more : (shape : Data → Option Command) (place : ℕ) (front : List Command) (list : List Value) (i : ℕ) (v : Value) (c : Command) → i < length list → v ≡ get_or list i v → ¬ (place ≡ 1024)
    → Some c ≡ shape (view v) → with_front (front ++ c ∷ []) (commands_from shape (place + 1) (map view (drop (i + 1) list))) ≡ with_front front (commands_from shape place (map view (drop i list)))
one_more shape place front list i v c within is few given =
    let other : nat_eq place 1024 ≡ false = ne_eqb place 1024 few in
    rw (here list i v within is, other, ← given) (moved front c (commands_from shape (place + 1) (map view (drop (i + 1) list))))

pub loop-value-preserved : goal.loop-value-preserved
loop-value-preserved c =
    let shape = command_shape c.args.version in
    let i = c.loop-value.value-index in
    let place = c.loop-value.place in
    record {
      counted = ap (λ n. n + 1) c.loop-value.invariant.counted;
      few = omega (arith, c.loop-value.invariant.few);
      told = ap (λ items. with_front items (commands_from shape (place + 1) (map view (drop (i + 1) c.args.list.now)))) c.in_ok-push-in-Some.ensures.items
          ∙ one_more shape place c.loop-value.commands.items c.args.list.now i c.value-item.result c.in-Some.command c.loop-value-test.true c.value-item.is c.if-place-eq-MOST_COMMANDS.false (sym c.in-Some.is ∙ c.in_ok-command.ensures)
          ∙ c.loop-value.invariant.told;
    }

pub returns-then-place-eq-MOST_COMMANDS : goal.returns-then-place-eq-MOST_COMMANDS
returns-then-place-eq-MOST_COMMANDS c = sym c.loop-value.invariant.told ∙ rw (here _ _ _ c.loop-value-test.true c.value-item.is, c.if-place-eq-MOST_COMMANDS.true) refl

pub returns-in-None : goal.returns-in-None
returns-in-None c = sym c.loop-value.invariant.told ∙ rw (here _ _ _ c.loop-value-test.true c.value-item.is, ne_eqb _ _ c.if-place-eq-MOST_COMMANDS.false, ← (sym c.in-None.is ∙ c.in_ok-command.ensures)) refl

pub returns : goal.returns
returns c = sym (rw (drop_all _ c.args.list.now c.loop-value-test.false, append-nil) at c.loop-value.invariant.told)
