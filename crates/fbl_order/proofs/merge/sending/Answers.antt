use Rattle.fbl_order.proofs.Common.{Send, inl, receipt_of, refl}
use Rattle.fbl_order.proofs.merge.sending.Goals as goal

pub returns-in-LaterReceipt : goal.returns-in-LaterReceipt
returns-in-LaterReceipt c =
    let d = c.in-LaterReceipt.determinant in
    inl (Send d.from d.ssn d.to, receipt_of d, refl, rw c.in-LaterReceipt.is refl, refl)
