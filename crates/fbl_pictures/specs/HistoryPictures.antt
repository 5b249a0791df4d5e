-- The picture of a history: its heading, and what is drawn of it.
use Rattle.std.specs.Prelude.{ℕ, List, [], ◌∷◌, codes, decimal}
use Rattle.fbl_history.specs.declared.column.Column.{Column}
use Rattle.fbl_history.specs.Columns.{receipts_made, receipts_undone}
use Rattle.fbl_history.specs.HistoryShapes.{history_marks, history_shapes}
use Rattle.fbl_pictures.specs.Headings.{joined, receipts_word}
use Rattle.fbl_pictures.specs.Pictures.{IsPictureText}

-- the numbers of the group, the behaviour, how many receipts were ever made, and how many of them were undone
abbrev pub history_heading : ℕ → ℕ → List ℕ → List Column → List ℕ
history_heading members f behaviour columns =
    let made = receipts_made columns in
    joined (decimal members ∷ codes " members, f " ∷ decimal f ∷ codes ", " ∷ behaviour ∷ codes ": "
    ∷ decimal made ∷ codes " " ∷ receipts_word made ∷ codes " made, " ∷ decimal (receipts_undone columns) ∷ codes " undone" ∷ [])

-- the text is the picture of a history of a group of so many members, of whom f may be lost at once, under a behaviour of this name
abbrev pub IsHistoryPicture : ℕ → ℕ → List ℕ → List Column → List ℕ → Type 0
IsHistoryPicture members f behaviour columns text =
    IsPictureText (history_heading members f behaviour columns) (history_shapes members columns) (history_marks columns) text
