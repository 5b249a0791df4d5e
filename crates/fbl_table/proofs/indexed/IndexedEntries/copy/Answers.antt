use Rattle.fbl_table.proofs.Common.{ap, entries_from_clone, entry_of, map, same_from_all_zip}
use Rattle.fbl_table.proofs.indexed.IndexedEntries.copy.Goals as goal

pub returns-clause-entries : goal.returns-clause-entries
returns-clause-entries c = ap (map entry_of) (entries_from_clone _ _ (λ x y is. is) (λ v w is. is) _ _ c.in_ok-clone-2.ensures.cases)

pub returns-clause-indexed : goal.returns-clause-indexed
returns-clause-indexed c =
    rw (entries_from_clone _ _ (λ x y is. is) (λ v w is. is) _ _ c.in_ok-clone-2.ensures.cases, same_from_all_zip _ _ _ c.in_ok-clone.ensures.cases.0 (λ x y is. is)) c.requires
