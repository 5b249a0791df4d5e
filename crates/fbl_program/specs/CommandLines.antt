-- The program's command lines, and the jobs that they ask for.
use Rattle.std.specs.Prelude.{◌≡◌, ℕ, ◌<◌, ◌⊎◌, Bool, true, false, List, [], ◌∷◌, ◌++◌, Option, None, Some, codes, decimal, drop, map, option_map, pos, unwrap_or}
use Rattle.std.specs.Borrow.{Bor}
use Rattle.clap.specs.Simple.{on_top}
use Rattle.clap.specs.Words.{App, HasKind, Row, Rule, Text, all_of, fault_of, first_of, kind_of, new_app, new_rule, one_of, subcommand_of, with_rule, with_subcommand}
use Rattle.clap.specs.declared.builder.ArgAction.{ArgAction}
use Rattle.clap.specs.declared.builder.ArgAction.TheVariants.{Append, Set, SetTrue}
use Rattle.clap.specs.declared.builder.value_parser.ValueParser.TheVariants as parsers
use Rattle.fbl_trace.specs.Configs.{WorkersAllowed}
use Rattle.clap.specs.declared.error.kind.ErrorKind.{ErrorKind}
use Rattle.clap.specs.declared.error.kind.ErrorKind.TheVariants.{DisplayHelp, DisplayVersion, OutOfMemory}
use Rattle.fbl_program.specs.declared.command_line.Misuse.{Misuse}
use Rattle.fbl_program.specs.declared.command_line.Misuse.TheVariants.{Words, NoCommand}
use Rattle.fbl_program.specs.declared.job.Job.{Job}
use Rattle.fbl_program.specs.declared.job.Question.TheVariants.{Audit, Check, Draw}
use Rattle.fbl_program.specs.declared.job.RunTask.TheVariants.{Judge, Merge}
use Rattle.fbl_program.specs.declared.job.ScriptTask.TheVariants.{Play, Record, Show}
use Rattle.fbl_program.specs.declared.job.Task.{Task}
use Rattle.fbl_program.specs.declared.job.Task.TheVariants.{Script, Run}

-- ---- what the parser of command lines is told

-- `--NAME VALUE`, which is given or not
abbrev pub option_rule : Text → Rule
option_rule name = record (new_rule name) { long = Some name; action = Some Set; value_names = 1 }

-- `--NAME`, which is given or not
abbrev pub flag_rule : Text → Rule
flag_rule name = record (new_rule name) { long = Some name; action = Some SetTrue }

-- `--workers N`: a number from 1 to 8, and 2 where it is not given
abbrev pub workers_rule : Rule
workers_rule = record (option_rule (codes "workers")) { parser = Some (parsers.Signed (pos 1) (pos 8)); defaults = codes "2" ∷ [] }

-- `FILE`, a word of its own, which is given or not, or as many as are given, as the action takes them
abbrev pub input_rule : ArgAction → Rule
input_rule action = record (new_rule (codes "input")) { action = Some action; value_names = 1 }

-- `-o FILE` or `--output FILE`, which is given or not
abbrev pub output_rule : Rule
output_rule = record (option_rule (codes "output")) { short = Some 111 }

-- what each subcommand has: what it reads, the file to write, and `--explain`
abbrev pub with_shared : Rule → App → App
with_shared read app = with_rule (with_rule (with_rule app read) output_rule) (flag_rule (codes "explain"))

-- a subcommand of this name that plays a script
abbrev pub player_app : Text → App
player_app name = with_rule (new_app name) workers_rule

abbrev pub play_app : App
play_app = with_shared (input_rule Set) (with_rule (player_app (codes "play")) (flag_rule (codes "strict")))

abbrev pub draw_app : App
draw_app = with_shared (input_rule Append) (with_rule (new_app (codes "draw")) (option_rule (codes "around")))

-- a subcommand of this name that reads files, with no more
abbrev pub shared_app : Text → App
shared_app name = with_shared (input_rule Append) (new_app name)

-- a program with a version, which asks for a subcommand
abbrev pub top_app : App
top_app = on_top (λ s. record s { subcommand_required = true; has_version = true }) (new_app (codes "fblrun"))

-- the same with a subcommand of this name that plays a script, with no more
abbrev pub with_player : Text → App → App
with_player name app = with_subcommand app (with_shared (input_rule Set) (player_app name)).top

-- the same with a subcommand of this name that has no more than each
abbrev pub with_reader : Text → App → App
with_reader name app = with_subcommand app (shared_app name).top

-- the program with the subcommands `play`, `show` and `record`
abbrev pub with_players : App
with_players = with_player (codes "record") (with_player (codes "show") (with_subcommand top_app play_app.top))

-- the program with the subcommands `play`, `show`, `record`, `merge`, `audit`, `check` and `draw`
abbrev pub program : App
program = with_subcommand (with_reader (codes "check") (with_reader (codes "audit") (with_reader (codes "merge") with_players))) draw_app.top

-- ---- what it makes of the words

-- the words, and `--workers N` behind them
abbrev pub with_workers : ℕ → List Text → List Text
with_workers n line = line ++ codes "--workers" ∷ decimal n ∷ []

-- the words, and `--strict` behind them or not
abbrev pub with_strict : Bool → List Text → List Text
with_strict true line = line ++ codes "--strict" ∷ []
with_strict false line = line

-- the words, and `--explain` behind them or not
abbrev pub with_explain : Bool → List Text → List Text
with_explain true line = line ++ codes "--explain" ∷ []
with_explain false line = line

-- the words, behind the program's name, are this line, with or without `--explain`
abbrev pub IsLine : List Text → List Text → Type 0
IsLine words line = (explain : Bool) × (drop 1 words ≡ with_explain explain line)

-- the words, behind the program's name, are `merge`, `audit`, `check`, `draw`, or `play`, `show` or `record`, with `--workers N` behind them
-- or not, N from 1 to 8; `--strict` may stand behind those of a play, and `--explain` behind all
pub data IsCommandLine (words : List Text) : Type 0 where
  is_merge : IsLine words (codes "merge" ∷ []) → IsCommandLine words
  is_audit : IsLine words (codes "audit" ∷ []) → IsCommandLine words
  is_check : IsLine words (codes "check" ∷ []) → IsCommandLine words
  is_draw : IsLine words (codes "draw" ∷ []) → IsCommandLine words
  is_play : (strict : Bool) → IsLine words (with_strict strict (codes "play" ∷ [])) → IsCommandLine words
  is_workers : (strict : Bool) (n : ℕ) → WorkersAllowed n → IsLine words (with_strict strict (with_workers n (codes "play" ∷ []))) → IsCommandLine words
  is_show : IsLine words (codes "show" ∷ []) → IsCommandLine words
  is_show_workers : (n : ℕ) → WorkersAllowed n → IsLine words (with_workers n (codes "show" ∷ [])) → IsCommandLine words
  is_record : IsLine words (codes "record" ∷ []) → IsCommandLine words
  is_record_workers : (n : ℕ) → WorkersAllowed n → IsLine words (with_workers n (codes "record" ∷ [])) → IsCommandLine words

-- what they ask for: where no number of workers is said there are 2
abbrev pub task_for : {words : List Text} → IsCommandLine words → Task
task_for (is_merge line) = Run Merge
task_for (is_audit line) = Run (Judge Audit)
task_for (is_check line) = Run (Judge Check)
task_for (is_draw line) = Run (Judge (Draw None))
task_for (is_play strict line) = Script (Play 2 strict)
task_for (is_workers strict n allowed line) = Script (Play n strict)
task_for (is_show line) = Script (Show 2)
task_for (is_show_workers n allowed line) = Script (Show n)
task_for (is_record line) = Script (Record 2)
task_for (is_record_workers n allowed line) = Script (Record n)

-- whether they ask for explanations
abbrev pub explain_for : {words : List Text} → IsCommandLine words → Bool
explain_for (is_merge line) = line.0
explain_for (is_audit line) = line.0
explain_for (is_check line) = line.0
explain_for (is_draw line) = line.0
explain_for (is_play strict line) = line.0
explain_for (is_workers strict n allowed line) = line.0
explain_for (is_show line) = line.0
explain_for (is_show_workers n allowed line) = line.0
explain_for (is_record line) = line.0
explain_for (is_record_workers n allowed line) = line.0

-- the job is what the line asks for, and names no file
pub record IsJobFor {words : List Text} (line : IsCommandLine words) (job : Job) : Type 0 where
  pub task : job.task ≡ task_for line
  pub explain : job.explain ≡ explain_for line
  pub inputs : job.inputs.items ≡ []
  pub output : job.output ≡ None

-- ---- what a subcommand's arguments say

-- what a flag that is given or not has as its text
abbrev pub flag_text : Bool → Text
flag_text true = codes "true"
flag_text false = codes "false"

-- whether the flag of this name is given
abbrev pub IsFlag : Text → List Row → Bool → Type 0
IsFlag name rows flag = (given : Bool) → one_of name rows ≡ Some (flag_text given) → flag ≡ given

-- the number of workers, where it has one digit
abbrev pub AreWorkers : List Row → ℕ → Type 0
AreWorkers rows workers = (n : ℕ) → n < 10 → one_of (codes "workers") rows ≡ Some (decimal n) → workers ≡ n

-- the texts of an argument that may be given more than once
abbrev pub texts_in : Text → List Row → List Text
texts_in id rows = unwrap_or (all_of id rows) []

-- a word that is given or not is this text
abbrev pub Names : Option (Bor Text) → Option Text → Type 0
Names name text = option_map (λ s. s.now) name ≡ text

-- the task is that of a subcommand of this name with these arguments
pub record IsTaskAt (name : Text) (rows : List Row) (task : Option Task) : Type 0 where
  pub play : name ≡ codes "play" → (workers : ℕ) × AreWorkers rows workers × (strict : Bool) × IsFlag (codes "strict") rows strict × (task ≡ Some (Script (Play workers strict)))
  pub show : name ≡ codes "show" → (workers : ℕ) × AreWorkers rows workers × (task ≡ Some (Script (Show workers)))
  pub recorded : name ≡ codes "record" → (workers : ℕ) × AreWorkers rows workers × (task ≡ Some (Script (Record workers)))
  pub merge : name ≡ codes "merge" → task ≡ Some (Run Merge)
  pub audit : name ≡ codes "audit" → task ≡ Some (Run (Judge Audit))
  pub check : name ≡ codes "check" → task ≡ Some (Run (Judge Check))
  pub draw : name ≡ codes "draw" → (around : Option (Bor Text)) × Names around (first_of (codes "around") rows) × (task ≡ Some (Run (Judge (Draw around))))

-- the names are these texts
abbrev pub AreNames : List (Bor Text) → List Text → Type 0
AreNames names texts = map (λ s. s.now) names ≡ texts

-- the job is that of a subcommand of this name with these arguments, if there is one of this name
abbrev pub IsJobAt : Text → List Row → Option Job → Type 0
IsJobAt name rows None = IsTaskAt name rows None
IsJobAt name rows (Some job) =
    IsTaskAt name rows (Some job.task) × IsFlag (codes "explain") rows job.explain
    × AreNames job.inputs.items (texts_in (codes "input") rows) × Names job.output (first_of (codes "output") rows)

-- ---- jobs

-- the job is that of the subcommand that the parser of command lines finds in the words, with its arguments; if the words are one of
-- these lines, it is what the line asks for
pub record IsJobOf (words : List Text) (job : Job) : Type 0 where
  pub name : Text
  pub rows : List Row
  pub found : subcommand_of program words ≡ Some (name, rows)
  pub asked : IsJobAt name rows (Some job)
  pub line : (line : IsCommandLine words) → IsJobFor line job

-- ---- refusals

-- why words are refused, if they are one of these lines: memory ran out
abbrev pub IsRefusedFor : Misuse → Type 0
IsRefusedFor (Words error) = kind_of error ≡ OutOfMemory
IsRefusedFor NoCommand = ⊥

-- why words are refused: as the parser of command lines refuses them, or memory ran out
abbrev pub IsMisuseOf : List Text → Misuse → Type 0
IsMisuseOf words (Words error) = HasKind (fault_of program words) error
IsMisuseOf words NoCommand = (name : Text) (rows : List Row) → subcommand_of program words ≡ Some (name, rows) → IsTaskAt name rows None

-- the exit status after what the parser of command lines tells: help and the version are asked for, and may fail to be printed
abbrev pub EndsKind : ErrorKind → ℕ → Type 0
EndsKind DisplayHelp status = (status ≡ 0) ⊎ (status ≡ 3)
EndsKind DisplayVersion status = (status ≡ 0) ⊎ (status ≡ 3)
EndsKind OutOfMemory status = status ≡ 4
EndsKind kind status = status ≡ 2

-- the exit status where words are refused
abbrev pub EndsMisuse : Misuse → ℕ → Type 0
EndsMisuse (Words error) status = EndsKind (kind_of error) status
EndsMisuse NoCommand status = status ≡ 2
