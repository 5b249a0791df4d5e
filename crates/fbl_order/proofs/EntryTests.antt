-- Whether two entries are the same, as `==` decides it.
use Rattle.fbl_order.proofs.Common.{Bool, true, Entry, Event, Hold, LaterReceipt, Restart, Store, Tell, Told, Send, Receipt, ◌≡◌, arith, nat_tests}
use Rattle.fbl_runs.specs.contracts.entry.EntryPartialEq.TheImpl as impl

abbrev pub same : Entry → Entry → Bool
same a b = (impl.ghosts).eq a b

pub same_true : (a b : Entry) → same a b ≡ true → a ≡ b
same_true (Event (Send from ssn to)) (Event (Send from' ssn' to')) is = grind (arith, nat_tests, is)
same_true (Event (Receipt to rsn from ssn)) (Event (Receipt to' rsn' from' ssn')) is = grind (arith, nat_tests, is)
same_true (Hold q d) (Hold p c) is = grind (arith, nat_tests, is)
same_true (Store q d) (Store p c) is = grind (arith, nat_tests, is)
same_true (Tell m) (Tell k) is = grind (arith, nat_tests, is)
same_true (Told m) (Told k) is = grind (arith, nat_tests, is)
same_true (LaterReceipt d life) (LaterReceipt c life') is = grind (arith, nat_tests, is)
same_true (Restart r) (Restart s) is = grind (arith, nat_tests, is)
same_true a b is = cc

pub same_self : (a : Entry) → same a a ≡ true
same_self (Event (Send from ssn to)) = grind (arith, nat_tests)
same_self a = grind (arith, nat_tests)
