-- What is drawn of a recorded run: a mark for each entry, an arrow for each message, a line for each member, the line of a moment, and
-- paths; of a part of it, each of these within the part.
use Rattle.std.specs.Prelude.{ℕ, ◌≡◌, ◌⊎◌, ◌↔◌, ◌<◌, ◌+◌, ◌-◌, ◌==◌, ◌&&◌, Bool, true, false, nat_eq, not, nat_lt, List, [], ◌∷◌, ◌++◌, Option, Some, None, count_by, slice_get, slice_index_or, slice_range, take, if◌then◌else◌}
use Rattle.std.specs.HashSet as hash_set
use Rattle.std.specs.List.{flat_map, list_any, range_with_len}
use Rattle.std.specs.Option.{is_some, option_to_list}
use Rattle.std.specs.FinSet as set
use Rattle.fbl_trace.specs.declared.trace.Determinant.{Determinant}
use Rattle.fbl_trace.specs.declared.trace.Mark.{Mark}
use Rattle.fbl_trace.specs.declared.trace.Mark.TheVariants.{Send, Receipt}
use Rattle.fbl_trace.specs.MemberSets.{Members}
use Rattle.fbl_runs.specs.Clocks.{StandsAt, cut_of}
use Rattle.fbl_runs.specs.Entries.{entry_member, log_of, restart_in}
use Rattle.fbl_runs.specs.HappenedBefore.{Position}
use Rattle.fbl_runs.specs.Links.{IsMessageOf, IsPlaceOf}
use Rattle.fbl_runs.specs.Logs.{RunParts}
use Rattle.fbl_runs.specs.Moments.{Cut, HoldsAt, IsStoredAt, Stands}
use Rattle.fbl_runs.specs.declared.entry.Entry.{Entry}
use Rattle.fbl_runs.specs.declared.entry.Entry.TheVariants.{Event, Hold, LaterReceipt, Restart, Store, Tell, Told}
use Rattle.fbl_runs.specs.declared.judged.Judged.{Judged}
use Rattle.fbl_runs.specs.declared.judged.Judged.TheVariants.{AtEachMoment, AtItsEnd}
use Rattle.fbl_judge.specs.Audits.{DependsOn, IsFirstCause, IsFirstOnAny}
use Rattle.fbl_judge.specs.Paths.{IsPathTo}
use Rattle.fbl_judge.specs.declared.audit.LostReceipt.{LostReceipt}
use Rattle.fbl_pictures.specs.Columns.{column_in, has_come}
use Rattle.fbl_pictures.specs.Crossings.{AreCrossings}
use Rattle.fbl_pictures.specs.Windows.{arrow_within, down_within, in_flight_within, line_within, member_line_within, moment_within, numbers_of, orphan_within, part_within, untaken_within}
use Rattle.fbl_pictures.specs.declared.run.columns.Columns.{Columns}
use Rattle.fbl_pictures.specs.declared.run.finding.Finding.{Finding}
use Rattle.fbl_pictures.specs.declared.run.members.Lines.{Lines}
use Rattle.fbl_pictures.specs.declared.run.window.Window.{Window}
use Rattle.fbl_history.specs.declared.shape.ArrowKind.{ArrowKind}
use Rattle.fbl_history.specs.declared.shape.ArrowKind.TheVariants as arrow_kind
use Rattle.fbl_history.specs.declared.shape.Glyph.{Glyph}
use Rattle.fbl_history.specs.declared.shape.GlyphKind.{GlyphKind}
use Rattle.fbl_history.specs.declared.shape.GlyphKind.TheVariants as glyph
use Rattle.fbl_history.specs.declared.shape.ReceiptKind.{ReceiptKind}
use Rattle.fbl_history.specs.declared.shape.ReceiptKind.TheVariants.{Stable, Recorded, Lost, ToCome, Undone}
use Rattle.fbl_history.specs.declared.shape.LineKind.TheVariants as line_kind
use Rattle.fbl_history.specs.declared.shape.Shape.{Shape}
use Rattle.fbl_history.specs.declared.shape.Shape.TheVariants as shape
use Rattle.fbl_history.specs.declared.shape.Status.{Status}
use Rattle.fbl_history.specs.declared.shape.Status.TheVariants.{Struck, Orphan, Up}
use Rattle.fbl_history.specs.Names.{label_and_names}
use Rattle.fbl_history.specs.Shapes.{drawn}

-- ---- receipts: of which kind each is by who holds it

-- stable where it is on stable storage; else lost where nobody but the struck holds it, and stable where more than f members hold it
abbrev pub judged_kind : ℕ → Members → Bool → Members → ReceiptKind
judged_kind f struck is_stored holders =
    if is_stored then Stable else
    (if set.len (set.difference holders struck) == 0 then Lost else (if nat_lt f (set.len holders) then Stable else Recorded))

-- ---- entries: a mark for each

-- whether the entry at each place stands at the cut
abbrev pub AreStanding : RunParts → Cut → List Bool → Type 0
AreStanding run cut standing =
    (p : ℕ) (i : Position) → StandsAt run.entries p i → (slice_index_or standing p false ≡ true) ↔ Stands (log_of run.entries) cut i

-- whether a restart undid what stands at the place in the member's log: it has come at the moment, and does not stand there
abbrev pub is_undone : List Bool → Columns → ℕ → ℕ → Bool
is_undone standing moment place member = has_come moment place member && not (slice_index_or standing place false)

-- what is drawn of an entry that has come, or that has not: this is grey
abbrev pub in_time : Bool → Option Shape → List Shape
in_time come None = []
in_time true (Some drawn_shape) = drawn_shape ∷ []
in_time false (Some drawn_shape) = shape.BeginToCome ∷ drawn_shape ∷ shape.EndToCome ∷ []

-- what the mark of a receipt that has come tells: of which kind it is by who holds it and what is stored at the cut
pub record IsHeld (run : RunParts) (cut : Cut) (struck : Members) (d : Determinant) (kind : GlyphKind) : Type 0 where
  pub holders : Members
  pub hold : (q : ℕ) → (set.contains holders q ≡ true) ↔ HoldsAt (log_of run.entries) cut d q
  pub stored : Bool
  pub store : (stored ≡ true) ↔ IsStoredAt (log_of run.entries) cut d
  pub is : kind ≡ glyph.Held d (judged_kind run.f struck stored holders) holders

-- that of a receipt, which has come or not, and is undone or not: one that is to come or undone is not judged
abbrev pub IsReceiptKind : RunParts → Cut → Members → Bool → Bool → Determinant → GlyphKind → Type 0
IsReceiptKind run cut struck true true d kind = kind ≡ glyph.Held d Undone set.empty
IsReceiptKind run cut struck true false d kind = IsHeld run cut struck d kind
IsReceiptKind run cut struck false undone d kind = kind ≡ glyph.Held d ToCome set.empty

-- that of an event
abbrev pub IsEventKind : RunParts → Cut → Members → Bool → Bool → Mark → GlyphKind → Type 0
IsEventKind run cut struck come undone (Send from ssn to) kind = kind ≡ glyph.Send ssn to undone
IsEventKind run cut struck come undone (Receipt to rsn from ssn) kind =
    IsReceiptKind run cut struck come undone (record { from = from; ssn = ssn; to = to; rsn = rsn }) kind

-- that of an entry
abbrev pub IsKind : RunParts → Cut → Members → Bool → Bool → Entry → GlyphKind → Type 0
IsKind run cut struck come undone (Event e) kind = IsEventKind run cut struck come undone e kind
IsKind run cut struck come undone (Hold q d) kind = kind ≡ glyph.Hold d
IsKind run cut struck come undone (Store q d) kind = kind ≡ glyph.Store d
IsKind run cut struck come undone (Tell m) kind = kind ≡ glyph.Tell m.to m.id
IsKind run cut struck come undone (Told m) kind = kind ≡ glyph.Told m.from m.id
IsKind run cut struck come undone (LaterReceipt d life) kind = IsReceiptKind run cut struck come undone d kind
IsKind run cut struck come undone (Restart r) kind = kind ≡ glyph.Restart r.life r.receipts r.sends

-- the mark of the entry at the place, in this column, on its member's line
pub record IsGlyphOf (run : RunParts) (cut : Cut) (standing : List Bool) (lines : Lines) (place column : ℕ) (e : Entry) (mark : Glyph) : Type 0 where
  pub stands : mark.column ≡ column
  pub member : mark.member ≡ entry_member e
  pub kind : IsKind run cut lines.struck (has_come lines.moment place (entry_member e)) (is_undone standing lines.moment place (entry_member e)) e mark.kind
  pub to_come : mark.to_come ≡ not (has_come lines.moment place (entry_member e))

-- the marks of entries, the first of which stands in this column, where the first column has the entry at this place
abbrev pub AreGlyphs : RunParts → Cut → List Bool → Lines → ℕ → ℕ → List Entry → List Glyph → Type 0
AreGlyphs run cut standing lines first column [] glyphs = glyphs ≡ []
AreGlyphs run cut standing lines first column (e ∷ entries) glyphs =
    (mark : Glyph) × IsGlyphOf run cut standing lines (first + column) column e mark
    × (others : List Glyph) × AreGlyphs run cut standing lines first (column + 1) entries others × (glyphs ≡ mark ∷ others)

-- ---- arrows: one for each message that is taken, and a stub for each that nobody takes

-- for the entry at each place, the place of the send whose message it takes, or of the tell that it is told, if there is one
abbrev pub AreSources : List Entry → List (Option ℕ) → Type 0
AreSources entries sources =
    (p : ℕ) (j : Position) → StandsAt entries p j → IsPlaceOf entries (IsMessageOf (log_of entries) j) (slice_index_or sources p None)

-- whether the place is this one
abbrev pub is_place : ℕ → Option ℕ → Bool
is_place place None = false
is_place place (Some source) = source == place

-- whether what is sent, or told, at the place is taken
abbrev pub is_taken : List (Option ℕ) → ℕ → Bool
is_taken sources place = list_any (is_place place) sources

-- the set has the places from which something is taken
abbrev pub AreTaken : {S : Type 0} → List (Option ℕ) → hash_set.HashSet ℕ S → Type 0
AreTaken sources taken = (p : ℕ) → hash_set.contains nat_eq taken p ≡ is_taken sources p

-- how the arrow to the entry is drawn, which is undone or not
abbrev pub kind_of_arrow : Bool → Entry → ArrowKind
kind_of_arrow undone (Told m) = arrow_kind.Control
kind_of_arrow true e = arrow_kind.Undone
kind_of_arrow false e = arrow_kind.Message

-- the arrow from the entry at one place, if there is one, to that at another
abbrev pub arrow_from : Window → Columns → Bool → Option Entry → ℕ → ℕ → Entry → List Shape
arrow_from w moment undone None source place e = []
arrow_from w moment undone (Some a) source place e =
    in_time (has_come moment source (entry_member a)) (arrow_within w (entry_member a) source (entry_member e) place (kind_of_arrow undone e))

-- the same, from this place, if there is one
abbrev pub arrow_by : Window → List Entry → Columns → Bool → Option ℕ → ℕ → Entry → List Shape
arrow_by w entries moment undone None place e = []
arrow_by w entries moment undone (Some source) place e = arrow_from w moment undone (slice_get entries source) source place e

-- the arrow to the entry, if it takes a message or is told
abbrev pub entry_arrow : Window → List Entry → List (Option ℕ) → List Bool → Columns → ℕ → Entry → List Shape
entry_arrow w entries sources standing moment place e =
    arrow_by w entries moment (is_undone standing moment place (entry_member e)) (slice_index_or sources place None) place e

-- a stub of the arrow of what the event sends, if it is a send; and of what the entry sends or tells, if it does
abbrev pub event_stub : Window → Bool → ℕ → Mark → Option Shape
event_stub w undone place (Send from ssn to) = in_flight_within w undone from place to
event_stub w undone place (Receipt to rsn from ssn) = None

abbrev pub stub_of : Window → Bool → ℕ → Entry → Option Shape
stub_of w undone place (Event e) = event_stub w undone place e
stub_of w undone place (Tell m) = untaken_within w m place
stub_of w undone place e = None

-- that is drawn where nobody takes it
abbrev pub entry_stub : Window → List (Option ℕ) → List Bool → Columns → ℕ → Entry → List Shape
entry_stub w sources standing moment place e =
    if is_taken sources place then [] else
    in_time (has_come moment place (entry_member e)) (stub_of w (is_undone standing moment place (entry_member e)) place e)

-- ---- members: a label, names and a line for each

-- whether a member is struck, and else whether it is an orphan from some column on
abbrev pub run_status : Bool → Option ℕ → Status
run_status true start = Struck
run_status false (Some column) = Orphan
run_status false None = Up

-- the part of a member's line from the start of a life to its last entry, if it has one
abbrev pub life_part : Window → ℕ → Option ℕ → Option ℕ → Option Shape
life_part w member start None = None
life_part w member start (Some last) = part_within w member start last line_kind.Up

-- that part, and the one from there to a restart, while the member is down
abbrev pub parts_to_restart : Window → ℕ → Option ℕ → Option ℕ → ℕ → List Shape
parts_to_restart w member start last place =
    option_to_list (life_part w member start last) ++ option_to_list (part_within w member last place line_kind.Down)

-- the parts of a member's line from an entry on, where its life started at a place, or at the left end, and its last entry before that
-- stands at another
abbrev pub lives_parts : Window → ℕ → Option ℕ → Option ℕ → ℕ → List Entry → List Shape
lives_parts w member start last place [] = option_to_list (part_within w member start w.end line_kind.Up)
lives_parts w member start last place (e ∷ entries) =
    if entry_member e == member then
    (if is_some (restart_in e)
    then parts_to_restart w member start last place ++ lives_parts w member (Some place) (Some place) (place + 1) entries
    else lives_parts w member start (Some place) (place + 1) entries)
    else lives_parts w member start last (place + 1) entries

-- a member's line, which goes by all columns: dashed before each restart; a struck member is down, from the moment on where there is one
abbrev pub member_line : Window → List Entry → ℕ → Bool → Option ℕ → List Shape
member_line w entries member true (Some moment) = down_within w member moment ∷ []
member_line w entries member true None = member_line_within w member line_kind.Down ∷ []
member_line w entries member false moment = lives_parts w member None None 0 entries

-- an orphan's line from its first event that depends on the lost receipt, up to the moment where there is one
abbrev pub orphan_line : Window → ℕ → Option ℕ → Option ℕ → Option Shape
orphan_line w member None moment = None
orphan_line w member (Some start) None = line_within w member start w.end line_kind.Orphan
orphan_line w member (Some start) (Some moment) = orphan_within w member start moment

-- a member's label, its number again in a wide picture, and its lines
abbrev pub member_shapes : Window → List Entry → ℕ → Bool → Option ℕ → Option ℕ → List Shape
member_shapes w entries member struck start moment =
    label_and_names (w.end - w.first) member (Some (run_status struck start)) ++ member_line w entries member struck moment
    ++ option_to_list (orphan_line w member start moment)

abbrev pub shapes_of_member : Window → List Entry → Lines → ℕ → List Shape
shapes_of_member w entries lines member =
    member_shapes w entries member (set.contains lines.struck member) (column_in lines.starts member) (column_in lines.moment member)

-- the shapes of so many members, in their order
abbrev pub members_drawn : ℕ → Window → List Entry → Lines → List Shape
members_drawn members w entries lines = flat_map (shapes_of_member w entries lines) (range_with_len 0 members)

-- ---- the moment

-- the part of its line at a member, from where it crosses the member's line to where it crosses the next one's
abbrev pub moment_part : Window → ℕ → Option ℕ → Option ℕ → Option Shape
moment_part w member None next = None
moment_part w member (Some place) next = moment_within w member place next

abbrev pub moment_shapes : Window → Columns → ℕ → List Shape
moment_shapes w moment member = option_to_list (moment_part w member (column_in moment member) (column_in moment (member + 1)))

abbrev pub moment_drawn : ℕ → Window → Columns → List Shape
moment_drawn members w moment = flat_map (moment_shapes w moment) (range_with_len 0 members)

-- ---- what is found, and where

-- the line of the moment has on its left what has come; it is drawn where the moment is not the run's end
abbrev pub IsMomentLine : RunParts → Option ℕ → Cut → Columns → Type 0
IsMomentLine run None cut columns = (q : ℕ) → column_in columns q ≡ None
IsMomentLine run (Some place) cut columns = AreCrossings run.members run.entries cut columns

-- the member is no orphan; or it is one, and starts to be one at its first entry that depends on one of the receipts
abbrev pub IsStart : RunParts → Finding → ℕ → Option ℕ → Type 0
IsStart run finding q start =
    ((set.contains finding.orphans q ≡ false) × (start ≡ None))
    ⊎ ((set.contains finding.orphans q ≡ true) × IsFirstOnAny run (cut_of finding.moment) finding.receipts.now q start)

-- how the members' lines are drawn
pub record AreLines (run : RunParts) (finding : Finding) (lines : Lines) : Type 0 where
  pub struck : lines.struck ≡ finding.strike
  pub starts : (q : ℕ) → q < 16 → IsStart run finding q (column_in lines.starts q)
  pub moment : IsMomentLine run finding.at (cut_of finding.moment) lines.moment

-- ---- paths: why an orphan is one

-- a step of a path from an entry to another: along their member's line, or from a send to its receipt
abbrev pub step_shape : Window → ℕ → ℕ → ℕ → ℕ → Option Shape
step_shape w start from end to =
    if from == to then line_within w from start end line_kind.Path else arrow_within w from start to end arrow_kind.Path

-- the same, if there are both
abbrev pub step_between : Window → ℕ → Option Entry → ℕ → Option Entry → Option Shape
step_between w start (Some a) end (Some b) = step_shape w start (entry_member a) end (entry_member b)
step_between w start (Some a) end None = None
step_between w start None end b = None

-- the steps of a path by the entries at these places
abbrev pub path_shapes : Window → List Entry → List ℕ → List Shape
path_shapes w entries [] = []
path_shapes w entries (start ∷ []) = []
path_shapes w entries (start ∷ end ∷ places) =
    option_to_list (step_between w start (slice_get entries start) end (slice_get entries end)) ++ path_shapes w entries (end ∷ places)

-- the member is no orphan; or it is one, and the receipt is the first one on which it depends
abbrev pub IsCause : RunParts → Finding → ℕ → Option LostReceipt → Type 0
IsCause run finding q cause =
    ((set.contains finding.orphans q ≡ false) × (cause ≡ None))
    ⊎ ((set.contains finding.orphans q ≡ true) × IsFirstCause run (cut_of finding.moment) finding.receipts.now q cause)

-- the steps of a path from the receipt to the member, if there is one and the member depends on it at the cut
abbrev pub AreStepsFrom : RunParts → Window → Cut → Option LostReceipt → ℕ → List Shape → Type 0
AreStepsFrom run w cut None q steps = steps ≡ []
AreStepsFrom run w cut (Some receipt) q steps =
    (¬ (DependsOn run cut receipt q) × (steps ≡ []))
    ⊎ ((i : Position) × (path : List ℕ) × StandsAt run.entries receipt.place i × IsPathTo run i cut q path × (steps ≡ path_shapes w run.entries path))

abbrev pub AreStepsTo : RunParts → Window → Finding → ℕ → List Shape → Type 0
AreStepsTo run w finding q steps =
    (cause : Option LostReceipt) × IsCause run finding q cause × AreStepsFrom run w (cut_of finding.moment) cause q steps

-- the steps of the path to each of these members, in their order
abbrev pub ArePathsDrawn : RunParts → Window → Finding → List ℕ → List Shape → Type 0
ArePathsDrawn run w finding [] shapes = shapes ≡ []
ArePathsDrawn run w finding (q ∷ members) shapes =
    (steps : List Shape) × AreStepsTo run w finding q steps
    × (rest : List Shape) × ArePathsDrawn run w finding members rest × (shapes ≡ steps ++ rest)

-- ---- the whole

-- whether the entry is a send or a receipt
abbrev pub is_event : Entry → Bool
is_event (Event e) = true
is_event (Hold q d) = false
is_event (Store q d) = false
is_event (Tell m) = false
is_event (Told m) = false
is_event (LaterReceipt d life) = false
is_event (Restart r) = false

-- the entries that are drawn: of a dump its events, behind which who holds what stands, and of a log all
abbrev pub shown : Judged → List Entry → List Entry
shown AtItsEnd entries = take (count_by is_event entries) entries
shown AtEachMoment entries = entries

abbrev pub shown_entries : RunParts → List Entry
shown_entries run = shown run.judged run.entries

-- the numbers of columns, the members' lines, the arrows, and over them the line of the moment
abbrev pub lines_and_arrows : ℕ → Window → List Entry → List (Option ℕ) → List Bool → Lines → List Shape
lines_and_arrows members w entries sources standing lines =
    option_to_list (numbers_of w) ++ members_drawn members w entries lines
    ++ drawn (entry_arrow w entries sources standing lines.moment) 0 entries
    ++ drawn (entry_stub w sources standing lines.moment) 0 entries ++ moment_drawn members w lines.moment

-- the shapes of what is found: these, and over them paths
abbrev pub AreShapesOf : RunParts → Window → Finding → List Bool → Lines → List Shape → Type 0
AreShapesOf run w finding standing lines shapes =
    (sources : List (Option ℕ)) × AreSources run.entries sources
    × (paths : List Shape) × ArePathsDrawn run w finding (range_with_len 0 run.members) paths
    × (shapes ≡ lines_and_arrows run.members w (shown_entries run) sources standing lines ++ paths)

-- what is drawn within the window of what is found: these shapes, and over them the marks, judged at the moment
pub record IsDrawnOf (run : RunParts) (w : Window) (finding : Finding) (shapes : List Shape) (glyphs : List Glyph) : Type 0 where
  pub standing : List Bool
  pub stand : AreStanding run (cut_of finding.moment) standing
  pub lines : Lines
  pub are : AreLines run finding lines
  pub under : AreShapesOf run w finding standing lines shapes
  pub over : AreGlyphs run (cut_of finding.moment) standing lines w.first 0 (slice_range (shown_entries run) w.first w.end) glyphs
