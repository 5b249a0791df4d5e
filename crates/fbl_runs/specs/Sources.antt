-- Where an entry stands in the files from which a run was put together.
use Rattle.std.specs.Prelude.{◌≡◌, ◌<◌, ◌≤◌, ◌+◌, ◌⊎◌, ℕ, List, [], ◌++◌, codes, decimal, Option, Some, None, IfSome, map, slice_get, slice_index, slice_index_or, sum, take}
use Rattle.std.specs.Fmt.{debug_str, ◌++?◌}
use Rattle.fbl_runs.specs.declared.sources.Sources.{Sources}

-- of lists of these lengths one behind another, the place stands in the list that is named first, at the place that is named second
abbrev pub IsPlaceIn : List ℕ → ℕ → ℕ × ℕ → Type 0
IsPlaceIn lengths place at = (at.1 < slice_index lengths at.0) × (sum (take at.0 lengths) + at.1 ≡ place)

-- the place of the entry among those of all files, one file's behind another's
abbrev pub place_among_all : Sources → ℕ → ℕ
place_among_all sources place = slice_index_or sources.places.now place place

-- the entry stands at its own place in the file with the name; it is that among all, with no name, where none of the files has it
abbrev pub IsSpot : Sources → ℕ → ℕ → Option (List ℕ) → Type 0
IsSpot sources place own name =
    ((file : ℕ) × IsPlaceIn sources.lengths.now (place_among_all sources place) (file, own) × (name ≡ slice_get (map (λ name. name.now) sources.names.now) file))
    ⊎ ((sum sources.lengths.now ≤ place_among_all sources place) × (own ≡ place_among_all sources place) × (name ≡ None))

-- the words for a file behind a place in it: its name as `{:?}` writes it, of which nothing is said past ASCII
abbrev pub file_words : Option (List ℕ) → Option (List ℕ)
file_words None = Some []
file_words (Some name) = Some (codes " in ") ++? debug_str name

-- the words for where the entry stands: its place in its own file, with some words for that file: those of file_words, where it has any
pub record IsSpotText (sources : Sources) (place : ℕ) (text : List ℕ) : Type 0 where
  pub own : ℕ
  pub name : Option (List ℕ)
  pub spot : IsSpot sources place own name
  pub file : List ℕ
  pub words : IfSome (file_words name) (λ words. file ≡ words)
  pub text_is : text ≡ decimal own ++ file
