-- A log as the lines that a process writes: the first is the log's object without its events, and each further one is an event, or a
-- step, a list of events. The lines stand for one JSON text: the object, with all events behind its fields.
use Rattle.std.specs.Prelude.{◌≡◌, ℕ, ◌==◌, ◌&&◌, List, [], ◌∷◌, ◌++◌, codes, Bool, false, not, Option, Some, None, is_some, option_and_then, option_map, unwrap_or, if◌then◌else◌}
use Rattle.std.specs.Char.{is_ascii_whitespace}
use Rattle.std.specs.List.{after_first, before_last, flat_map, list_all, list_any}
use Rattle.serde_json.specs.Data.{Data}
use Rattle.serde_json.specs.Find.{as_str, get}
use Rattle.fbl_input.specs.declared.key.Key.TheVariants as keys
use Rattle.fbl_input.specs.Shapes.{as_list, json_of, name_of, number_within}

-- ---- lines

-- the lines of these bytes, where the first has begun already. What stands behind the last newline is left out: a kill tears no more
abbrev pub lines_from : List ℕ → List ℕ → List (List ℕ)
lines_from begun [] = []
lines_from begun (b ∷ bs) = if b == 10 then begun ∷ lines_from [] bs else lines_from (begun ++ b ∷ []) bs

abbrev pub lines_of : List ℕ → List (List ℕ)
lines_of input = lines_from [] input

abbrev pub has_newline : List ℕ → Bool
has_newline text = list_any (λ b. b == 10) text

-- lines, each with a newline behind it, and then a text without one, have just these lines
abbrev pub LinesLaw : Type 0
LinesLaw =
    (lines : List (List ℕ)) (torn : List ℕ) → list_any has_newline lines ≡ false → has_newline torn ≡ false → lines_of (flat_map (λ line. line ++ 10 ∷ []) lines ++ torn) ≡ lines

-- nothing but spaces
abbrev pub is_blank : List ℕ → Bool
is_blank line = list_all is_ascii_whitespace line

-- ---- events

-- what stands between the first opening bracket and the last closing one
abbrev pub in_brackets : List ℕ → List ℕ
in_brackets line = before_last (λ b. b == 93) (after_first (λ b. b == 91) line)

-- the events on a line that spells this list: one that begins with a word is an event, and any other a step, whose events stand between
-- its brackets
abbrev pub events_in : List ℕ → List Data → List ℕ
events_in line [] = []
events_in line (first ∷ rest) = if is_some (as_str first) then line else in_brackets line

-- the events on a line, if it spells a list; a blank one has none
abbrev pub events_of : List ℕ → Option (List ℕ)
events_of line = if is_blank line then Some [] else option_map (events_in line) (option_and_then as_list (json_of line))

-- events and more of them, with a comma between
abbrev pub joined : List ℕ → List ℕ → List ℕ
joined [] more = more
joined (b ∷ bs) [] = b ∷ bs
joined (b ∷ bs) (m ∷ ms) = (b ∷ bs) ++ 44 ∷ m ∷ ms

-- events, with those on further lines behind them, if each of the lines spells a list or is blank
abbrev pub all_events : List ℕ → List (List ℕ) → Option (List ℕ)
all_events events [] = Some events
all_events events (line ∷ lines) = option_and_then (λ more. all_events (joined events more) lines) (events_of line)

-- ---- the text

-- the version of a log
abbrev pub log_version : Data → Option ℕ
log_version = number_within 2 2

-- whether it is the object of a log without its events
abbrev pub is_head : Data → Bool
is_head d = is_some (option_and_then log_version (get (name_of keys.Version) d)) && not (is_some (get (name_of keys.Events) d))

-- a line that spells such an object, up to its last bracket
abbrev pub head_of : List ℕ → Option (List ℕ)
head_of line = option_and_then (λ d. if is_head d then Some (before_last (λ b. b == 125) line) else None) (json_of line)

-- the object with these events behind its fields
abbrev pub with_events : List ℕ → List ℕ → List ℕ
with_events head events = head ++ codes ",\"events\":[" ++ events ++ codes "]}"

-- the text for which the lines stand, if they are those of a log
abbrev pub text_of_lines : List (List ℕ) → Option (List ℕ)
text_of_lines [] = None
text_of_lines (first ∷ rest) = option_and_then (λ head. option_map (with_events head) (all_events [] rest)) (head_of first)

abbrev pub is_json : List ℕ → Bool
is_json text = is_some (json_of text)

-- the JSON text for which the lines of an input stand, if they are those of a log
abbrev pub lines_text : List ℕ → Option (List ℕ)
lines_text input = option_and_then (λ text. if is_json text then Some text else None) (text_of_lines (lines_of input))

-- whether a text is more than the first line of a log: it spells JSON, and not a log's object without its events
abbrev pub is_whole : Option Data → Bool
is_whole None = false
is_whole (Some d) = not (is_head d)

-- the text that an input means: its own, where that is JSON and more than the first line of a log; else that for which its lines stand, if
-- they are those of a log; and else its own
unfoldable pub json_text : List ℕ → List ℕ
json_text input = if is_whole (json_of input) then input else unwrap_or (lines_text input) input
