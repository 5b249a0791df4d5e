use Rattle.fbl_records.proofs.Common.{◌∷◌, [], List, arith, refl, sym, subst, append-nil, append_assoc, elements_of, list_data, list_of}
use Rattle.fbl_records.specs.DumpTokens.{IsNextOf}
use Rattle.fbl_records.proofs.TokenLaws.{list_item, list_next, list_over}
use Rattle.fbl_records.proofs.dump_tokens.next_list.Goals as goal

pub loop-reader-init : goal.loop-reader-init
loop-reader-init g c = λ ds xs new rest given.
    rw c.new-all.ensures.items (list_data ds, list_next 126 _ _ _ ds (omega arith) (rw c.in-Some.is at c.begin_list.ensures) rest, rw (elements_of ds) given)

pub loop-reader-preserved : goal.loop-reader-preserved
loop-reader-preserved g c = λ ds xs new rest given.
    let item = c.in-Some-next.ensures in
    let x = c.in-Some-next.item in
    let P : List g.row.T.Denot → Type 0 = λ all. IsNextOf 126 (list_of g.S.TokenShape.shape) c.args.reader.now all new in
    let going = c.loop-reader-test.ensures in
    rw c.in_ok-push-in-Some-next.ensures.items (subst P (sym (append_assoc c.loop-reader.all.items (x ∷ []) xs))
    (c.loop-reader.invariant (item.0 ∷ ds) (x ∷ xs) new (list_item 125 _ _ _ item.0 ds going.0 (rw going.1 at item.1) rest) (rw (item.2, given))))

pub returns : goal.returns
returns g c =
    subst (λ all. IsNextOf 126 (list_of g.S.TokenShape.shape) c.args.reader.now all c.take_end_array.new.self) (append-nil c.loop-reader.all.items)
    (c.loop-reader.invariant [] [] _ (list_over 125 _ _ c.loop-reader-test.ensures) refl)
