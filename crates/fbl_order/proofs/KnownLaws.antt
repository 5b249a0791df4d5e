-- What is known of the entries of a log with restarts.
use Rattle.fbl_order.proofs.Common.{◌≡◌, List, Bool, true, false, refl, subst, Entry}
use Rattle.std.specs.Prelude.{Result, Ok, Err, OnOk}
use Rattle.fbl_order.specs.Known.{Knows}
use Rattle.fbl_order.specs.declared.known.Known.{Known}
use Rattle.fbl_order.specs.declared.known.Known.TheVariants.{Lives}
use Rattle.fbl_runs.specs.LifeRules.{HasFollowed}
use Rattle.fbl_runs.specs.declared.life_rules.LifeRules.{LifeRules}

-- where lives are known, the log has restarts
pub known_lives : (lived : Bool) (before : List Entry) (known : Known) (lives : LifeRules) → known ≡ Lives lives → Knows lived before known → (lived ≡ true) × HasFollowed before lives
known_lives true before known lives is knows = (refl, subst (λ (x : Known). Knows true before x) is knows)
known_lives false before known lives is knows = absurd (subst (λ (x : Known). Knows false before x) is knows)

pub on_ok : {T E P Q : Type 0} (r : Result T E) → (P → Q) → OnOk r P → OnOk r Q
on_ok (Ok x) leads p = leads p
on_ok (Err e) leads p = p
