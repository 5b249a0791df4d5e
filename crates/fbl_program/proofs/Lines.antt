-- What the parser of command lines makes of the program's command lines.
use Rattle.fbl_program.proofs.Common.{◌≡◌, ℕ, zero, suc, ◌+◌, ◌<◌, ◌&&◌, Bool, true, false, List, [], ◌∷◌, ◌++◌, Option, Some, None, option_map, Result, Ok, Err, IfErr, refl, sym, ap, ◌∙◌, arith, codes}
use Rattle.fbl_program.proofs.Common.{decimal, drop, subst, unwrap_or, decimal_digit, parse-decimal, Box, box_value, IsErrAnd, ParsesUnsigned, built, entered, is_simple, Bor, Misuse, NoCommand, Words, AreNames}
use Rattle.fbl_program.proofs.Common.{AreWorkers, IsFlag, IsJobAt, IsJobOf, IsTaskAt, Job, task_for, explain_for, IsMisuseOf, IsRefusedFor, Names, all_of, is_merge, first_of, subcommand_of}
use Rattle.fbl_program.proofs.Common.{names_of, built_takes, takes, nothing_held, stop_after, App, HasKind, HasMatchesOf, ReadsOne, Row, Text, fault_of, is_simple_and_free, kind_of, one_of, subcommand_name_of, subcommand_rows}
use Rattle.fbl_program.proofs.Common.{subcommand_rows_of, Error, OutOfMemory, ArgMatches, out-ArgMatches, out-SubCommand, SubCommand, WorkersAllowed, IsCommandLine, is_audit, is_check, is_draw}
use Rattle.fbl_program.proofs.Common.{is_play, is_record, is_record_workers, is_show, is_show_workers, is_workers, flag_text, program, with_explain}
use Rattle.fbl_program.proofs.Common.{with_strict, Draw, Judge, Play, Record, Run, Script, Show, Task}
use Rattle.clap.proofs.OnLiterals.{clap_on_literals}

-- the subcommand that the words behind the program's name give, with what was found of it
abbrev named : List Text → Option (Text × List Row)
named line = entered (built program) (stop_after (built program).top.rules (names_of (built program)) line)

-- its name, the texts of the number of workers and of the two flags, the names of the files that are read, that of the one written, and the
-- entry around which is drawn
abbrev Asked : Type 0
Asked = Text × Option Text × Option Text × Option Text × Option (List Text) × Option Text × Option Text

abbrev asked : Option (Text × List Row) → Option Asked
asked found =
    option_map (λ p. (p.0, one_of (codes "workers") p.1, one_of (codes "strict") p.1, one_of (codes "explain") p.1, all_of (codes "input") p.1, first_of (codes "output") p.1, first_of (codes "around") p.1)) found

-- the words are taken
abbrev IsTaken : List Text → Type 0
IsTaken line = built_takes (built program) nothing_held line ≡ true

-- ---- the command lines, computed

program_simple : is_simple program ≡ true
unfolding clap_on_literals
program_simple = refl

-- the words of a line are taken, with or without `--explain`, and ask for this
abbrev Gives : List Text → Text → Option Text → Option Text → Bool → Type 0
Gives line name workers strict e = (asked (named (with_explain e line)) ≡ Some (name, workers, strict, Some (flag_text e), None, None, None)) × IsTaken (with_explain e line)

-- the same of a line of a play, with or without `--strict`
abbrev PlayGives : List Text → Text → Bool → Bool → Type 0
PlayGives line workers s e = Gives (with_strict s line) (codes "play") (Some workers) (Some (flag_text s)) e

-- a fact of each number of workers
by_count : (P : ℕ → Type 0) → P 1 → P 2 → P 3 → P 4 → P 5 → P 6 → P 7 → P 8 → (n : ℕ) → WorkersAllowed n → P n
by_count P a b c d e f g h zero is = absurd (omega (arith, is.0))
by_count P a b c d e f g h (suc zero) is = a
by_count P a b c d e f g h (suc (suc zero)) is = b
by_count P a b c d e f g h (suc (suc (suc zero))) is = c
by_count P a b c d e f g h (suc (suc (suc (suc zero)))) is = d
by_count P a b c d e f g h (suc (suc (suc (suc (suc zero))))) is = e
by_count P a b c d e f g h (suc (suc (suc (suc (suc (suc zero)))))) is = f
by_count P a b c d e f g h (suc (suc (suc (suc (suc (suc (suc zero))))))) is = g
by_count P a b c d e f g h (suc (suc (suc (suc (suc (suc (suc (suc zero)))))))) is = h
by_count P a b c d e f g h (suc (suc (suc (suc (suc (suc (suc (suc (suc n))))))))) is = absurd (omega (arith, is.1))

abbrev with_word : Text → List Text → List Text
with_word word line = line ++ codes "--workers" ∷ word ∷ []

-- the words of a play with or without `--strict`, or of a picture, with a number of workers
abbrev WordGives : Option Bool → Bool → Text → Type 0
WordGives (Some s) e word = PlayGives (with_word word (codes "play" ∷ [])) word s e
WordGives None e word = Gives (with_word word (codes "show" ∷ [])) (codes "show") (Some word) None e

digit_gives : (o : Option Bool) (e : Bool) (n : ℕ) → WorkersAllowed n → WordGives o e ((48 + n) ∷ [])
unfolding clap_on_literals
digit_gives (Some true) true = by_count (λ n. WordGives (Some true) true ((48 + n) ∷ [])) (refl, refl) (refl, refl) (refl, refl) (refl, refl) (refl, refl) (refl, refl) (refl, refl) (refl, refl)
digit_gives (Some true) false = by_count (λ n. WordGives (Some true) false ((48 + n) ∷ [])) (refl, refl) (refl, refl) (refl, refl) (refl, refl) (refl, refl) (refl, refl) (refl, refl) (refl, refl)
digit_gives (Some false) true = by_count (λ n. WordGives (Some false) true ((48 + n) ∷ [])) (refl, refl) (refl, refl) (refl, refl) (refl, refl) (refl, refl) (refl, refl) (refl, refl) (refl, refl)
digit_gives (Some false) false = by_count (λ n. WordGives (Some false) false ((48 + n) ∷ [])) (refl, refl) (refl, refl) (refl, refl) (refl, refl) (refl, refl) (refl, refl) (refl, refl) (refl, refl)
digit_gives None true = by_count (λ n. WordGives None true ((48 + n) ∷ [])) (refl, refl) (refl, refl) (refl, refl) (refl, refl) (refl, refl) (refl, refl) (refl, refl) (refl, refl)
digit_gives None false = by_count (λ n. WordGives None false ((48 + n) ∷ [])) (refl, refl) (refl, refl) (refl, refl) (refl, refl) (refl, refl) (refl, refl) (refl, refl) (refl, refl)

workers_gives : (o : Option Bool) (e : Bool) (n : ℕ) → WorkersAllowed n → WordGives o e (decimal n)
workers_gives o e n is = subst (WordGives o e) (sym (decimal_digit n (omega (arith, is.1)))) (digit_gives o e n is)

-- the words of a record, with a number of workers
abbrev RecordGives : Bool → Text → Type 0
RecordGives e word = Gives (with_word word (codes "record" ∷ [])) (codes "record") (Some word) None e

record_digit_gives : (e : Bool) (n : ℕ) → WorkersAllowed n → RecordGives e ((48 + n) ∷ [])
unfolding clap_on_literals
record_digit_gives true = by_count (λ n. RecordGives true ((48 + n) ∷ [])) (refl, refl) (refl, refl) (refl, refl) (refl, refl) (refl, refl) (refl, refl) (refl, refl) (refl, refl)
record_digit_gives false = by_count (λ n. RecordGives false ((48 + n) ∷ [])) (refl, refl) (refl, refl) (refl, refl) (refl, refl) (refl, refl) (refl, refl) (refl, refl) (refl, refl)

record_gives : (e : Bool) (n : ℕ) → WorkersAllowed n → RecordGives e (decimal n)
record_gives e n is = subst (RecordGives e) (sym (decimal_digit n (omega (arith, is.1)))) (record_digit_gives e n is)

-- what a command line asks for
abbrev words_for : {words : List Text} → IsCommandLine words → Text × Option Text × Option Text
words_for (is_merge line) = (codes "merge", None, None)
words_for (is_audit line) = (codes "audit", None, None)
words_for (is_check line) = (codes "check", None, None)
words_for (is_draw line) = (codes "draw", None, None)
words_for (is_play s line) = (codes "play", Some (codes "2"), Some (flag_text s))
words_for (is_workers s n count line) = (codes "play", Some (decimal n), Some (flag_text s))
words_for (is_show line) = (codes "show", Some (codes "2"), None)
words_for (is_show_workers n count line) = (codes "show", Some (decimal n), None)
words_for (is_record line) = (codes "record", Some (codes "2"), None)
words_for (is_record_workers n count line) = (codes "record", Some (decimal n), None)

abbrev asked_for : {words : List Text} → IsCommandLine words → Asked
asked_for line = (let words = words_for line in (words.0, words.1, words.2, Some (flag_text (explain_for line)), None, None, None))

-- its words are taken, and ask for this
line_gives : (words : List Text) (line : IsCommandLine words) → (asked (named (drop 1 words)) ≡ Some (asked_for line)) × IsTaken (drop 1 words)
unfolding clap_on_literals
line_gives words (is_merge line) = rw line.1 (elim line.0 as (Gives (codes "merge" ∷ []) (codes "merge") None None) [ true ↦ (refl, refl) | false ↦ (refl, refl) ])
line_gives words (is_audit line) = rw line.1 (elim line.0 as (Gives (codes "audit" ∷ []) (codes "audit") None None) [ true ↦ (refl, refl) | false ↦ (refl, refl) ])
line_gives words (is_check line) = rw line.1 (elim line.0 as (Gives (codes "check" ∷ []) (codes "check") None None) [ true ↦ (refl, refl) | false ↦ (refl, refl) ])
line_gives words (is_draw line) = rw line.1 (elim line.0 as (Gives (codes "draw" ∷ []) (codes "draw") None None) [ true ↦ (refl, refl) | false ↦ (refl, refl) ])
line_gives words (is_play true line) = rw line.1 (elim line.0 as (PlayGives (codes "play" ∷ []) (codes "2") true) [ true ↦ (refl, refl) | false ↦ (refl, refl) ])
line_gives words (is_play false line) = rw line.1 (elim line.0 as (PlayGives (codes "play" ∷ []) (codes "2") false) [ true ↦ (refl, refl) | false ↦ (refl, refl) ])
line_gives words (is_workers s n count line) = rw line.1 (workers_gives (Some s) line.0 n count)
line_gives words (is_show line) = rw line.1 (elim line.0 as (Gives (codes "show" ∷ []) (codes "show") (Some (codes "2")) None) [ true ↦ (refl, refl) | false ↦ (refl, refl) ])
line_gives words (is_show_workers n count line) = rw line.1 (workers_gives None line.0 n count)
line_gives words (is_record line) = rw line.1 (elim line.0 as (Gives (codes "record" ∷ []) (codes "record") (Some (codes "2")) None) [ true ↦ (refl, refl) | false ↦ (refl, refl) ])
line_gives words (is_record_workers n count line) = rw line.1 (record_gives line.0 n count)

-- ---- refusals

pub taken : (a : App) (words : List Text) → a ≡ program → IsCommandLine words → takes a words ≡ true
taken a words is line = ap (λ p. takes p words) is ∙ (λ i. program_simple i && (line_gives words line).1 i)

pub refused : {T : Type 0} (words : List Text) (e : Error) (r : Result T Misuse) → IsErrAnd r (λ f. f ≡ Words e)
    → (IsCommandLine words → kind_of e ≡ OutOfMemory) → IfErr r (λ f. IsCommandLine words → IsRefusedFor f)
refused words e (Ok x) is h = tt
refused words e (Err f) is h = λ line. subst IsRefusedFor (sym is) (h line)

-- the parser of command lines refuses the words as it says
program_free : is_simple_and_free program ≡ true
unfolding clap_on_literals
program_free = refl

pub misused : {T : Type 0} (a : App) (words : List Text) (e : Error) (r : Result T Misuse) → a ≡ program → IsErrAnd r (λ f. f ≡ Words e)
    → (is_simple_and_free a ≡ true → HasKind (fault_of a words) e) → IfErr r (IsMisuseOf words)
misused a words e (Ok x) is same kinds = tt
misused a words e (Err f) is same kinds =
    subst (IsMisuseOf words) (sym same) (subst (λ (p : App). HasKind (fault_of p words) e) is (kinds (ap is_simple_and_free is ∙ program_free)))

-- ---- jobs

two : decimal 2 ≡ codes "2"
two = decimal_digit 2 (omega arith)

-- the name of the subcommand, as the matches tell it
name_is : {Z : Type 0} (o : Option (Box SubCommand Z)) → option_map (λ p. p.0) (subcommand_rows o) ≡ option_map (λ b. (out-SubCommand (box_value b)).name.now) o
name_is None = refl
name_is (Some b) = refl

matches_name : (m : ArgMatches) → option_map (λ p. p.0) (subcommand_rows_of m) ≡ subcommand_name_of m
matches_name m = name_is (out-ArgMatches m).subcommand

-- what was asked for, where a subcommand was found
record IsFound (name : Text) (rows : List Row) (x : Asked) : Type 0 where
  pub named : name ≡ x.0
  pub workers : one_of (codes "workers") rows ≡ x.1
  pub strict : one_of (codes "strict") rows ≡ x.2
  pub explain : one_of (codes "explain") rows ≡ x.3
  pub input : all_of (codes "input") rows ≡ x.4
  pub output : first_of (codes "output") rows ≡ x.5
  pub around : first_of (codes "around") rows ≡ x.6

found_asked : (o : Option (Text × List Row)) (name : Text) (rows : List Row) (x : Asked) → option_map (λ p. p.0) o ≡ Some name → option_map (λ p. p.1) o ≡ Some rows → asked o ≡ Some x
    → IsFound name rows x
found_asked None name rows x is found e = absurd (cc)
found_asked (Some p) name rows x is found e = record { named = cc; workers = cc; strict = cc; explain = cc; input = cc; output = cc; around = cc }

-- the task of a play is by the number of workers, and whether it is strict
play_found : (rows : List Row) (task : Option Task) (n : ℕ) (strict : Bool)
    → (workers : ℕ) × AreWorkers rows workers × (b : Bool) × IsFlag (codes "strict") rows b × (task ≡ Some (Script (Play workers b)))
    → n < 10 → one_of (codes "workers") rows ≡ Some (decimal n) → one_of (codes "strict") rows ≡ Some (flag_text strict) → task ≡ Some (Script (Play n strict))
play_found rows task n strict (workers, are, b, flag, is) small counted stated =
    is ∙ ap (λ w. Some (Script (Play w b))) (are n small counted) ∙ ap (λ s. Some (Script (Play n s))) (flag strict stated)

-- that of a picture is by the number of workers
show_found : (rows : List Row) (task : Option Task) (n : ℕ) → (workers : ℕ) × AreWorkers rows workers × (task ≡ Some (Script (Show workers)))
    → n < 10 → one_of (codes "workers") rows ≡ Some (decimal n) → task ≡ Some (Script (Show n))
show_found rows task n (workers, are, is) small counted = is ∙ ap (λ w. Some (Script (Show w))) (are n small counted)

-- so is that of a record
record_found : (rows : List Row) (task : Option Task) (n : ℕ) → (workers : ℕ) × AreWorkers rows workers × (task ≡ Some (Script (Record workers)))
    → n < 10 → one_of (codes "workers") rows ≡ Some (decimal n) → task ≡ Some (Script (Record n))
record_found rows task n (workers, are, is) small counted = is ∙ ap (λ w. Some (Script (Record w))) (are n small counted)

-- a name that has no text is not given
not_named : (name : Option (Bor Text)) (text : Option Text) → Names name text → text ≡ None → name ≡ None
not_named None text is none = refl
not_named (Some x) text is none = absurd (cc)

-- that of a picture of a run has no entry where none is named
draw_found : (rows : List Row) (task : Option Task) → (around : Option (Bor Text)) × Names around (first_of (codes "around") rows) × (task ≡ Some (Run (Judge (Draw around))))
    → first_of (codes "around") rows ≡ None → task ≡ Some (Run (Judge (Draw None)))
draw_found rows task (around, named, is) none = is ∙ ap (λ a. Some (Run (Judge (Draw a)))) (not_named around (first_of (codes "around") rows) named none)

-- what was found is what a command line asks for: the task at it is the line's
task_found : {words : List Text} (name : Text) (rows : List Row) (task : Option Task) → IsTaskAt name rows task
    → (line : IsCommandLine words) → IsFound name rows (asked_for line) → task ≡ Some (task_for line)
task_found name rows task at (is_merge line) f = at.merge f.named
task_found name rows task at (is_audit line) f = at.audit f.named
task_found name rows task at (is_check line) f = at.check f.named
task_found name rows task at (is_draw line) f = draw_found rows task (at.draw f.named) f.around
task_found name rows task at (is_play s line) f = play_found rows task 2 s (at.play f.named) (omega arith) (f.workers ∙ ap Some (sym two)) f.strict
task_found name rows task at (is_workers s n count line) f = play_found rows task n s (at.play f.named) (omega (arith, count.1)) f.workers f.strict
task_found name rows task at (is_show line) f = show_found rows task 2 (at.show f.named) (omega arith) (f.workers ∙ ap Some (sym two))
task_found name rows task at (is_show_workers n count line) f = show_found rows task n (at.show f.named) (omega (arith, count.1)) f.workers
task_found name rows task at (is_record line) f = record_found rows task 2 (at.recorded f.named) (omega arith) (f.workers ∙ ap Some (sym two))
task_found name rows task at (is_record_workers n count line) f = record_found rows task n (at.recorded f.named) (omega (arith, count.1)) f.workers

-- names that have no text are none
none_named : (names : List (Bor Text)) (texts : Option (List Text)) → AreNames names (unwrap_or texts []) → texts ≡ None → names ≡ []
none_named [] texts is none = refl
none_named (x ∷ xs) texts is none = absurd (cc)

-- there is no pair without a name
no_pair : (o : Option (Text × List Row)) → option_map (λ p. p.0) o ≡ None → o ≡ None
no_pair None none = refl
no_pair (Some p) none = absurd (cc)

-- a pair with this name and these rows
paired : (o : Option (Text × List Row)) (name : Text) (rows : List Row) → option_map (λ p. p.0) o ≡ Some name → option_map (λ p. p.1) o ≡ Some rows → o ≡ Some (name, rows)
paired None name rows is has = absurd (cc)
paired (Some p) name rows is has =
    let n : p.0 ≡ name = cc in
    let r : p.1 ≡ rows = cc in ap (λ (x : Text). Some (x, p.1)) n ∙ ap (λ (x : List Row). Some (name, x)) r

-- the matches are those of the program on the words
module _ (a : App) (words : List Text) (m : ArgMatches) (is : a ≡ program) (matches : HasMatchesOf a words m) where
  rows_are : subcommand_rows_of m ≡ subcommand_of program words
  rows_are = (subst (λ (p : App). HasMatchesOf p words m) is matches program_simple).1

  -- where no subcommand was found there is no job
  pub none_found : subcommand_name_of m ≡ None → IsMisuseOf words NoCommand
  none_found none name rows found =
      let e : subcommand_of program words ≡ None = no_pair (subcommand_of program words) (ap (option_map (λ p. p.0)) (sym rows_are) ∙ matches_name m ∙ none) in absurd (cc)

  -- a subcommand was found, with these rows
  module _ (name : Text) (rows : List Row) (named_so : Some name ≡ subcommand_name_of m) (has : Some rows ≡ option_map (λ p. p.1) (subcommand_rows_of m)) where
    found_here : subcommand_of program words ≡ Some (name, rows)
    found_here = sym rows_are ∙ paired (subcommand_rows_of m) name rows (matches_name m ∙ sym named_so) (sym has)

    is_found : (line : IsCommandLine words) → IsFound name rows (asked_for line)
    is_found line = found_asked _ name rows (asked_for line) (ap (option_map (λ p. p.0)) found_here) (ap (option_map (λ p. p.1)) found_here) (line_gives words line).0

    -- the job is the one at its name and rows
    asked_is : (job : Job) → IsJobAt name rows (Some job) → IsJobOf words job
    asked_is job at = record {
      name = name;
      rows = rows;
      found = found_here;
      asked = at;
      line = λ line. (
          let found = is_found line in
          let task : Some job.task ≡ Some (task_for line) = task_found name rows (Some job.task) at.0 line found in
          record {
            task = cc;
            explain = at.1 (explain_for line) found.explain;
            inputs = none_named job.inputs.items _ at.2 found.input;
            output = not_named job.output _ at.3 found.output;
          }
          );
    }

    pub job_is : (found : Option Job) (job : Job) → found ≡ Some job → IsJobAt name rows found → IsJobOf words job
    job_is found job e at = asked_is job (subst (IsJobAt name rows) e at)

    -- where there is none at its name, the words are none of the lines
    pub no_job : {A : Type 0} (found : Option Job) → found ≡ None → IsJobAt name rows found → IsCommandLine words → A
    no_job found e at line =
        let n : ◌≡◌ {A = Option Task} None (Some (task_for line)) = task_found name rows None (subst (IsJobAt name rows) e at) line (is_found line) in absurd (cc)

    -- there is none whatever was found
    pub no_task : (found : Option Job) → found ≡ None → IsJobAt name rows found → IsMisuseOf words NoCommand
    no_task found e at other others found_other =
        let same : ◌≡◌ {A = Option (Text × List Row)} (Some (name, rows)) (Some (other, others)) = sym found_here ∙ found_other in
        let n : name ≡ other = ap (λ (o : Option (Text × List Row)). unwrap_or (option_map (λ p. p.0) o) name) same in
        let r : rows ≡ others = ap (λ (o : Option (Text × List Row)). unwrap_or (option_map (λ p. p.1) o) rows) same in
        subst (λ (x : List Row). IsTaskAt other x None) r (subst (λ (x : Text). IsTaskAt x rows None) n (subst (IsJobAt name rows) e at))

-- ---- the number of workers

-- a number that was read from its decimal
pub read_number : {E : Type 0} (gives : List ℕ → Result ℕ E → Type 0) (n other : ℕ) (o : Option ℕ) → n < 10
    → ((r : Result ℕ E) → gives (decimal n) r → ParsesUnsigned 8 10 (decimal n) r) → ReadsOne gives (decimal n) o → unwrap_or o other ≡ n
read_number {E} gives n other (Some v) small parses h =
    let r : Result ℕ E = Ok v in
    let same : r ≡ Ok n = parse-decimal 8 n (decimal n) r (omega arith) (omega arith) refl (parses r h) in cc
read_number {E} gives n other None small parses h =
    let r : Result ℕ E = Err h.0 in
    let same : r ≡ Ok n = parse-decimal 8 n (decimal n) r (omega arith) (omega arith) refl (parses r h.1) in absurd (cc)

-- ---- whether a flag is given

-- what a flag's text says
pub flag_is : (flag result : Bool) (text : Option Text) → (text ≡ Some (codes "true") → result ≡ true)
    → (text ≡ Some (codes "false") → result ≡ false) → text ≡ Some (flag_text flag) → result ≡ flag
flag_is true result text given other e = given e
flag_is false result text given other e = other e
