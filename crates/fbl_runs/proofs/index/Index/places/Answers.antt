use Rattle.fbl_runs.proofs.Common.{ℕ, ◌≡◌, ◌<◌, arith, Entry, length, List, log_of, refl, slice_get, slice_get_read, Some, subst, sym}
use Rattle.fbl_runs.specs.KnownLives.{ArePlaces}
use Rattle.fbl_runs.proofs.index.Index.places.Goals as goal

pub returns : goal.returns
returns c =
    let q = c.args.member in
    let logs = c.self.inside.lives.logs.items in
    let log = c.index.result.now in
    let below : c.number.result < length logs = (let room = c.self.inside.lives.room in let bound = c.number.ensures.bound in omega (arith, room, bound)) in
    let at_number : slice_get logs c.number.result ≡ Some log = slice_get_read logs (length logs) c.number.result log refl below c.index.ensures in
    let here = subst (λ (k : ℕ). slice_get logs k ≡ Some log) c.number.ensures.value at_number in
    let are = subst (λ (ps : List ℕ). ArePlaces c.self.inside.entries.now (log_of c.self.inside.entries.now q) q ps) (sym c.as_slice.ensures.value) (c.self.invariant.lives.logs q log here).places in
    subst (λ (es : List Entry). ArePlaces es (log_of es q) q c.as_slice.result.now) c.self.view_is are
