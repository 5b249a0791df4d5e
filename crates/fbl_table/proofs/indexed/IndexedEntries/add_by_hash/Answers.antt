use Rattle.fbl_table.proofs.Common.{◌≡◌, ◌++◌, [], ◌∷◌, ◌∙◌, None, ap, or_parts, sym, map, length-map, lookup, insert_entry, same_determinant, Entry, listed, entry_of}
use Rattle.fbl_table.proofs.Adding.{Pairs, added_new, added_there, inserted, inserted_over, place_in, not_held-missing, place-missing, value_there}
use Rattle.fbl_table.proofs.Indexing.{index-push, index-put, open_less, keeps_stale}
use Rattle.fbl_table.proofs.indexed.IndexedEntries.add_by_hash.Goals as goal
use Rattle.fbl_table.proofs.indexed.IndexedEntries.add_by_hash.Goals.{After-unwrap-place}

-- what the map did, once its answer is read
module _ (c : After-unwrap-place) where
  abbrev es : Pairs
  es = c.args.self.now.entries.entries

  abbrev entry : Entry
  entry = record { det = c.args.det.now; known = c.args.known }

  looked_up : lookup (same_determinant entry.det) es ≡ c.unwrap-place.result.1
  looked_up = sym (rw c.unwrap-place.ensures at c.insert_full.ensures.old)

  place : c.unwrap-place.result.0 ≡ place_in es entry.det
  place = rw c.unwrap-place.ensures at c.insert_full.ensures.index

  written : c.insert_full.new.self.entries ≡ insert_entry same_determinant es entry.det entry.known
  written = rw c.unwrap-place.ensures at c.insert_full.ensures.entries

  -- where the determinant was not there
  entries : c.unwrap-place.result.1 ≡ None → map entry_of c.insert_full.new.self.entries ≡ map entry_of es ++ entry ∷ []
  entries none = ap (map entry_of) written ∙ inserted es entry (looked_up ∙ none)

pub returns-in-Some-clause-entries : goal.returns-in-Some-clause-entries
returns-in-Some-clause-entries c =
    let at = (goal.at.returns-in-Some-clause-entries c).After-unwrap-place in
    let is = looked_up at ∙ c.in-Some.is in
    rw (written at, place at, c.union-united.ensures, inserted_over (es at) (entry at).det c.in-Some.before _ _ is) (added_there (es at) (entry at) c.in-Some.before is)

pub returns-in-Some-clause-indexed : goal.returns-in-Some-clause-indexed
returns-in-Some-clause-indexed c is =
    let at = (goal.at.returns-in-Some-clause-indexed c).After-unwrap-place in
    let old = c.args.self.now in
    let found = looked_up at ∙ c.in-Some.is in
    let parts = or_parts old.stale c.closes.result in
    rw (written at, place at, c.union-united.ensures, inserted_over (es at) (entry at).det c.in-Some.before _ _ found)
    (index-put old.limit (es at) _ c.in-Some.before _ (value_there (es at) (entry at).det c.in-Some.before found) (open_less old.limit c.in-Some.before c.args.known)
    _ (λ fresh. (rw c.union-united.ensures at c.closes.ensures) (parts fresh).1) old.open_places.items ((keeps_stale old _ (λ fresh. (parts fresh).0)).index is))

pub returns-in-None-clause-entries : goal.returns-in-None-clause-entries
returns-in-None-clause-entries c =
    let at = (goal.at.returns-in-None-clause-entries c).After-unwrap-place in
    entries at c.in-None.is ∙ sym (added_new (listed c.args.self.now) (entry at) (not_held-missing (es at) (entry at).det (looked_up at ∙ c.in-None.is)))

pub returns-in-None-clause-indexed : goal.returns-in-None-clause-indexed
returns-in-None-clause-indexed c is =
    let at = (goal.at.returns-in-None-clause-indexed c).After-unwrap-place in
    let old = c.args.self.now in
    let last = place at ∙ place-missing (es at) (entry at).det (looked_up at ∙ c.in-None.is) ∙ sym (length-map (es at) entry_of) in
    rw (entries at c.in-None.is, c.push_place_if_open.ensures.items, last) (index-push old.limit (listed old) (entry at) old.open_places.items old.stale is)
