use Rattle.fbl_runs.proofs.Common.{◌≡◌, ◌<◌, ◌≤◌, ◌∙◌, ap, arith, length, List, refl, slice_get, slice_get_read, slice_get_within, Some, sym}
use Rattle.std.proofs.lemmas.Bool.{ltb-false}
use Rattle.fbl_runs.specs.declared.lives.Life.{Life}
use Rattle.fbl_runs.proofs.Listing.{read}
use Rattle.fbl_runs.proofs.life_rules.life_now.Goals as goal

pub returns-in-Some : goal.returns-in-Some
returns-in-Some c before has =
    let logs = c.args.lives.now.logs.items in
    let m = c.args.member in
    let below : c.number.result < length logs = (let bound = c.number.ensures.bound in let room = c.args.lives.now.room in omega (arith, bound, room)) in
    let there : slice_get logs c.number.result ≡ Some c.index.result.now = slice_get_read logs (length logs) c.number.result c.index.result.now refl below c.index.ensures in
    let l = (has.logs m c.index.result.now (rw c.number.ensures.value at there)).life in
    let life = c.in-Some.life.now in
    let at_life = read c.args.lives.now.lives.items c.deref.result.now c.index.result.now.life life c.deref.ensures.value c.in-Some.ensures.lookup.3.0 c.in-Some.ensures.lookup.1 in
    let same : l.0 ≡ life = (let some : Some l.0 ≡ Some life = sym l.1 ∙ at_life in cc) in
    ap (λ (l : Life). l.life) (sym same) ∙ l.3

pub returns-in-None : goal.returns-in-None
returns-in-None c before has =
    let logs = c.args.lives.now.logs.items in
    let m = c.args.member in
    let below : c.number.result < length logs = (let bound = c.number.ensures.bound in let room = c.args.lives.now.room in omega (arith, bound, room)) in
    let there : slice_get logs c.number.result ≡ Some c.index.result.now = slice_get_read logs (length logs) c.number.result c.index.result.now refl below c.index.ensures in
    let l = (has.logs m c.index.result.now (rw c.number.ensures.value at there)).life in
    let past : length c.deref.result.now ≤ c.index.result.now.life = ltb-false c.index.result.now.life (length c.deref.result.now) (sym c.in-None.ensures.lookup.0) in
    let size = ap (λ (ls : List Life). length ls) c.deref.ensures.value in
    let within = slice_get_within c.args.lives.now.lives.items c.index.result.now.life l.0 l.1 in
    absurd (omega (arith, past, size, within))
