-- what is read so far, and that it is that of the object once the rest is read
use Rattle.fbl_records.proofs.Common.{List, length}
use Rattle.json.specs.Token.{Token}
use Rattle.serde_json.specs.Data.{Members, object}
use Rattle.fbl_records.specs.DumpTokens.{AreFieldsOf, AreMembersNext, IsNext}
use Rattle.fbl_records.proofs.dump_tokens.next_fields.Given as goal

abbrev pub invariant-loop-key : goal.invariant-loop-key
invariant-loop-key l = (found : Members) × AreFieldsOf found l.fields × ((ms : Members) (new : List Token) → AreMembersNext 126 l.reader found ms new → IsNext 127 l.fn.reader (object ms) new)

abbrev pub decreases-loop-key : goal.decreases-loop-key
decreases-loop-key l = length l.reader
