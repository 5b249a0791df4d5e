-- A run goes on by one command, and where a play of its commands ends.
use Rattle.fbl_trace.specs.declared.trace.Note.{Note}
use Rattle.fbl_play.proofs.Common.{◌≡◌, ℕ, ◌<◌, ◌≤◌, ◌+◌, List, [], ◌∷◌, ◌++◌, length, map_push, take, get_or, refl, ap, ◌∙◌, inl, inr, Some, None, Result}
use Rattle.fbl_play.proofs.Common.{Ok, Err, take_all, take_more, IsErrAnd, err_from_is_err_and, Settings, Next, GroupRecord, Command, OutputFault, Column}
use Rattle.fbl_play.proofs.Common.{Answer, Along, IsAdded, IsBegun, IsOfGroup, IsPlay, IsSound, IsRun, IsRunOne, IsStopped, Moment, Observes, Ran, Runs, Transcript}
use Rattle.fbl_input.specs.declared.output.OutputFault.TheVariants as outputs
use Rattle.fbl_play.specs.Transcripts.{history, text}

module _ (next : Next ℕ Note) (workers : ℕ) where
  along_more : (ran : List Ran) (one : Ran) (old : Moment) → Along next workers ran old one.old → IsRunOne next workers one → Along next workers (ran ++ one ∷ []) old one.new
  along_more [] one old is last = (is, last, refl)
  along_more (r ∷ ran) one old is last = (is.0, is.1, along_more ran one r.new is.2 last)

  -- a history that has begun goes on
  goes_on : (r : GroupRecord ℕ Note) (answer : Answer) (columns : List Column) (t : Transcript) → IsAdded next r answer (history (Some columns)) t → (later : List Column) × (t ≡ history (Some later))
  goes_on r answer columns (text has) is = absurd is
  goes_on r answer columns (history None) is = absurd is
  goes_on r answer columns (history (Some later)) is = (later, refl)

  all_go_on : (ran : List Ran) (old new : Moment) (columns : List Column) → old.transcript ≡ history (Some columns) → Along next workers ran old new → (last : List Column) × (new.transcript ≡ history (Some last))
  all_go_on [] old new columns some is = (columns, (rw is some))
  all_go_on (r ∷ ran) old new columns some is =
      let begun : r.old.transcript ≡ history (Some columns) = ap (λ (m : Moment). m.transcript) is.0 ∙ some in
      let one = goes_on r.new.group r.answer columns r.new.transcript (rw begun at is.1.added) in
      all_go_on ran r.new new one.0 one.1 is.2

  has_begun : (r : GroupRecord ℕ Note) (t : Transcript) → IsBegun next r (history None) t → (columns : List Column) × (t ≡ history (Some columns))
  has_begun r (text has) is = absurd is
  has_begun r (history has) is = (_, ap history is)

  -- so after all commands were run there is one
  pub history_ends : (config : Settings Note) (cs : List Command) (has : Transcript) → Runs next workers config cs (history None) has (Ok tt) → (last : List Column) × (has ≡ history (Some last))
  history_ends config cs has (ran, r, run) = (let begun = has_begun run.first run.begun run.begins in all_go_on ran _ _ begun.0 begun.1 run.along)

-- a run comes to a sound group
along-sound : (next : Next ℕ Note) (workers : ℕ) (ran : List Ran) (old new : Moment) → IsSound next old.group → Along next workers ran old new → IsSound next new.group
along-sound next workers [] old new sound is = rw is sound
along-sound next workers (r ∷ ran) old new sound is = along-sound next workers ran r.new new is.1.sound is.2

pub run_sound : (next : Next ℕ Note) (workers : ℕ) (config : Settings Note) (cs : List Command) (had : Transcript) (ran : List Ran) (end : Moment) → IsRun next workers config cs had ran end
    → IsSound next end.group
run_sound next workers config cs had ran end run = along-sound next workers ran (record { group = run.first; transcript = run.begun }) end run.sound run.along

module _ {O : Type 0} (before : GroupRecord ℕ Note → Transcript → O → Command → O → Type 0) (after : GroupRecord ℕ Note → Transcript → O → Command → Answer → O → Type 0) where
  observes_more : (ran : List Ran) (one : Ran) (old mid begun new : O) → Observes before after ran old mid → before one.old.group one.old.transcript mid one.command begun
      → after one.new.group one.new.transcript begun one.command one.answer new → Observes before after (ran ++ one ∷ []) old new
  observes_more [] one old mid begun new is b a = (begun, new, (rw is at b), a, refl)
  observes_more (r ∷ ran) one old mid begun new is b a = (is.0, is.1, is.2, is.3, observes_more ran one is.1 mid begun new is.4 b a)

  module _ (next : Next ℕ Note) (workers : ℕ) (config : Settings Note) (cs : List Command) (had : Transcript) (old : O) where
    -- the first commands, as many as this, have led to this moment and this observer
    abbrev pub HasRun : ℕ → Moment → O → Type 0
    HasRun place at observer = (ran : List Ran) × IsRun next workers config (take place cs) had ran at × Observes before after ran old observer

    module _ (i : ℕ) (at : Moment) (observer : O) (run : HasRun i at observer) where
      -- there is no other one
      pub play_all : length cs ≤ i → IsPlay before after next workers config cs had at.transcript old observer (Ok tt)
      play_all all = ((run.0, at.group, (rw (take_all i cs all) at run.1)), run.2)

      module _ (c : Command) (within : i < length cs) (is : c ≡ get_or cs i c) (begun : O) (observed : before at.group at.transcript observer c begun) where
        -- the next one was run
        pub run_more : (answer : Answer) (new : Moment) (last : O) → IsRunOne next workers (record { old = at; command = c; answer = answer; new = new })
            → after new.group new.transcript begun c answer last → IsOfGroup next new.group new.transcript → HasRun (i + 1) new last
        run_more answer new last one seen told = (
          run.0 ++ record { old = at; command = c; answer = answer; new = new } ∷ [],
          record {
            first = run.1.first;
            begun = run.1.begun;
            start = run.1.start;
            sound = run.1.sound;
            begins = run.1.begins;
            commands = rw (take_more cs i c within, ← is) (map_push (λ (r : Ran). r.command) run.0 _ ∙ ap (λ l. l ++ c ∷ []) run.1.commands);
            along = along_more next workers run.0 _ _ run.1.along one;
            told = told;
          },
          observes_more run.0 _ old observer begun last run.2 observed seen,
        )

        -- or it stopped
        pub play_stopped : (r : Result (Unit {0}) OutputFault) (fault : OutputFault) (has : Transcript) → IsErrAnd r (λ e. e ≡ fault)
            → IsStopped next workers at c fault has → IsPlay before after next workers config cs had has old begun r
        play_stopped r fault has failed stopped =
            let e = err_from_is_err_and r failed in
            rw (e.1, e.2) (inr (record { done = i; ran = run.0; at = at; command = c; within = within; is = is; run = run.1; stopped = stopped }, observer, run.2, observed))

    -- what is left of the transcript, whoever observed
    pub unobserved : (has : Transcript) (new : O) (r : Result (Unit {0}) OutputFault) → IsPlay before after next workers config cs had has old new r → Runs next workers config cs had has r
    unobserved has new (Ok x) play = play.0
    unobserved has new (Err fault) (inl none) = inl (none.0, none.1)
    unobserved has new (Err fault) (inr s) = inr s.0

    -- so it stops, for want of memory, where it could not go on
    pub stops_short : (has : Transcript) (new : O) (fault : OutputFault) → IsPlay before after next workers config cs had has old new (Err fault)
        → (last : Transcript) × IsPlay before after next workers config cs had last old new (Err outputs.Memory)
    stops_short has new fault (inl none) = (had, inl (refl, refl, none.2))
    stops_short has new fault (inr (s, mid, seen, last)) = (
      s.at.transcript,
      inr (record { done = s.done; ran = s.ran; at = s.at; command = s.command; within = s.within; is = s.is; run = s.run; stopped = inl (refl, refl) }, mid, seen, last),
    )
