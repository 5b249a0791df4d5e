-- what is read so far is the front of what the list gives, once the rest of it is read
use Rattle.fbl_records.proofs.Common.{◌≡◌, ◌++◌, List, Some, length, all_shaped, list_of}
use Rattle.json.specs.Token.{Token}
use Rattle.serde_json.specs.Data.{Data}
use Rattle.fbl_records.specs.DumpTokens.{AreNext, IsNextOf}
use Rattle.fbl_records.proofs.dump_tokens.next_list.Given as goal

abbrev pub invariant-loop-reader : goal.invariant-loop-reader
invariant-loop-reader g l =
    let shape = g.S.TokenShape.shape in
    (ds : List Data) (xs : List g.row.T.Denot) (new : List Token) → AreNext 125 l.reader ds new → all_shaped shape ds ≡ Some xs → IsNextOf 126 (list_of shape) l.fn.reader (l.all.items ++ xs) new

abbrev pub decreases-loop-reader : goal.decreases-loop-reader
decreases-loop-reader g l = length l.reader
