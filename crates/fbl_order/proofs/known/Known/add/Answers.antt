use Rattle.fbl_order.proofs.Common.{◌++◌, ◌∷◌, [], Bool, subst, sym}
use Rattle.fbl_order.specs.Known.{Knows, MayCome}
use Rattle.fbl_order.specs.declared.known.Known.TheVariants.{Lives}
use Rattle.fbl_order.proofs.KnownLaws.{known_lives, on_ok}
use Rattle.fbl_order.proofs.known.Known.add.Goals as goal

pub returns-in-Lives : goal.returns-in-Lives
returns-in-Lives c = on_ok c.add-in-Lives.result (λ says lived before knows may number.
    let k = known_lives lived before c.args.self.now c.in-Lives.lives c.in-Lives.is knows in
    let P : Bool → Type 0 = λ l. MayCome l c.args.n before c.args.entry.now → Knows l (before ++ c.args.entry.now ∷ []) (Lives c.add-in-Lives.new.self) in
    subst P (sym k.0) (λ follows. says c.args.n before k.1 follows number) may) c.add-in-Lives.ensures
