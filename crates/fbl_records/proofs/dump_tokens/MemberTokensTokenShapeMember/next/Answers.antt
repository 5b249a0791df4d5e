use Rattle.fbl_records.proofs.Common.{number_data, member_shape}
use Rattle.std.proofs.lemmas.Option.{IfSome_then}
use Rattle.fbl_records.proofs.TokenLaws.{number_next}
use Rattle.fbl_records.proofs.dump_tokens.MemberTokensTokenShapeMember.next.Goals as goal

pub returns : goal.returns
returns c = IfSome_then c.next_member.result c.next_member.ensures (λ n h. (number_data n, number_next 125 member_shape _ _ n h, h.3))
