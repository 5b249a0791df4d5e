use Rattle.fbl_verdicts.proofs.Common.{take, string_bytes}
use Rattle.fbl_verdicts.specs.Texts.{AreCheckLines}
use Rattle.fbl_verdicts.proofs.check_text.lines_text.Given as goal

abbrev pub invariant-loop-one : goal.invariant-loop-one
invariant-loop-one l = AreCheckLines l.sources (take l.one-index l.said) (string_bytes l.text)
