use Rattle.fbl_turns.proofs.Exclusion as exclusive
use Rattle.fbl_turns.proofs.claims.words_follow_views.Goals as goal

pub returns : goal.returns
returns c = exclusive.words_follow_views
