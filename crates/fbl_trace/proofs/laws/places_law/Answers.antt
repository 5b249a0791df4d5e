use Rattle.fbl_trace.proofs.PrecedenceLaws.{events-from_places, places-from_events, depends-from_places, places-from_depends}
use Rattle.fbl_trace.proofs.laws.places_law.Goals as goal

pub returns-clause-precedes : goal.returns-clause-precedes
returns-clause-precedes c n t obeys i j a b at_i at_j = (places-from_events n t obeys i a at_i j b at_j, events-from_places t i j a b at_i at_j)

pub returns-clause-depends : goal.returns-clause-depends
returns-clause-depends c n t obeys member i a at_i = (places-from_depends n t obeys member i a at_i, depends-from_places t member i a at_i)
