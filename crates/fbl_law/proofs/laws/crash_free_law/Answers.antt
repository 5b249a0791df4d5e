use Rattle.fbl_law.proofs.CrashFree.{crashes_are_masked, crash_free_is_run, keeps_pasts}
use Rattle.fbl_law.proofs.laws.crash_free_law.Goals as goal

pub returns : goal.returns
returns g c = record { masked = crashes_are_masked _ _; run = crash_free_is_run _ _; pasts = keeps_pasts _ _ }
