-- The text of a picture: one more piece, and the same of what is equal.
use Rattle.std.proofs.lemmas.List.Folds.{concat-append}
use Rattle.std.specs.List.{concat}
use Rattle.fbl_pictures.proofs.Common.{ℕ, List, [], ◌∷◌, ◌≡◌, ◌++◌, ◌∙◌, ap, append-nil, append_assoc, subst, sym, Glyph, Shape, IsPictureText}

pub one_more : (base : List ℕ) (texts : List (List ℕ)) (piece : List ℕ) → (base ++ concat texts) ++ piece ≡ base ++ concat (texts ++ piece ∷ [])
one_more base texts piece =
    append_assoc base (concat texts) piece
    ∙ ap (λ t. base ++ t) (sym (concat-append texts (piece ∷ []) ∙ ap (λ t. concat texts ++ t) (append-nil piece)))

pub picture_of : {heading same : List ℕ} {shapes lines : List Shape} {glyphs marks : List Glyph} (text : List ℕ) → heading ≡ same → shapes ≡ lines → glyphs ≡ marks
    → IsPictureText heading shapes glyphs text → IsPictureText same lines marks text
picture_of {heading} {same} {shapes} {lines} {glyphs} {marks} text is are over drawn =
    subst (λ (h : List ℕ). IsPictureText h lines marks text) is (subst (λ (s : List Shape). IsPictureText heading s marks text) are
    (subst (λ (g : List Glyph). IsPictureText heading shapes g text) over drawn))
