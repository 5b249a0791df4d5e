-- Whether an entry is a restart.
use Rattle.fbl_judge.proofs.Common.{Bool, None, Option, Some, false, true, ap, sym, ◌≡◌, ◌∙◌, false≢true, Entry, Restart, restart_in}
use Rattle.std.proofs.Common.{is_some}
use Rattle.fbl_runs.specs.declared.entry.Restart as restart

pub of_restart : (e : Entry) (r : restart.Restart) → restart_in e ≡ Some r → e ≡ Restart r
of_restart (Restart x) r is = (let same : x ≡ r = cc in ap Restart same)
of_restart e r is = absurd cc

pub is_restart : (e : Entry) (o : Option restart.Restart) (b : Bool) → o ≡ restart_in e → b ≡ is_some o → b ≡ true → (r : restart.Restart) × (e ≡ Restart r)
is_restart e None b of is yes' = absurd (false≢true (sym is ∙ yes'))
is_restart e (Some r) b of is yes' = (r, of_restart e r (sym of))

pub not_restart : (e : Entry) (o : Option restart.Restart) (b : Bool) → o ≡ restart_in e → b ≡ is_some o → b ≡ false → (r : restart.Restart) → ¬ (e ≡ Restart r)
not_restart e None b of is no' r same = (let none : None ≡ Some r = of ∙ ap restart_in same in cc)
not_restart e (Some x) b of is no' r same = false≢true (sym no' ∙ is)

pub none_in : (o : Option restart.Restart) (e : Entry) (b : Bool) → o ≡ restart_in e → b ≡ is_some o → b ≡ false → restart_in e ≡ None
none_in None e b of is no' = sym of
none_in (Some r) e b of is no' = absurd (false≢true (sym no' ∙ is))
