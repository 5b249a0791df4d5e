-- Turns that are recorded.
use Rattle.fbl_turns.proofs.Common.{◌≡◌, ℕ, ◌<◌, ◌∙◌, ◌∷◌, [], Bool, true, false, List, Option, Some, None, refl, sym, ap, inl, inr, cond, length, append-nil, is_none, is_some, not, ∥∥₁_map}
use Rattle.fbl_turns.proofs.Common.{Next, Members, Strike, GroupRecord, member, Ticket, CommitRefusal, Full, Memory, Stale, Down, RefusesCommit, struck_at, Counts, Commits, more_at, commits_one}
use Rattle.fbl_turns.proofs.Common.{undoes, Turn, commits, crashes, strikes, is_full, wants, is_late, Reached, starts, turns, nothing_done, TurnRecord, CrashRecord, RecoveryRecord, IsReceiptRecord}
use Rattle.fbl_turns.proofs.Common.{IsRecordedAs, ReachedBy, begins, goes_on, ReachedAs, TurnAs, IsAdded, CountsRefusal, CrashesAs, with_record}

-- ---- runs

module _ {S N : Type 0} where
  first_run : (next : Next S N) (plan : List Strike) (workers : ℕ) (start : GroupRecord S N) (keeps : Bool)
      → ReachedAs next plan workers start (cond keeps (Some []) None) start (nothing_done workers)
  first_run next plan workers start true = record { run = begins }
  first_run next plan workers start false = record { run = starts }

  pub opens : (next : Next S N) (plan : List Strike) {start group : GroupRecord S N} {workers n : ℕ} {c : Counts} {records : Option (List (TurnRecord S N))} (keeps : Bool) → start ≡ group
      → workers ≡ n → c ≡ nothing_done n → records ≡ cond keeps (Some []) None → ReachedAs next plan workers start records group c
  opens next plan {start} {group} {workers} {n} keeps at same none is = rw (is, none, ← same, ← at) (first_run next plan workers start keeps)

  pub kept_if : {records : Option (List (TurnRecord S N))} (keeps : Bool) → records ≡ cond keeps (Some []) None → is_some records ≡ keeps
  kept_if true is = ap is_some is
  kept_if false is = ap is_some is

  -- a run whose turns are recorded is a run
  pub forgets : {next : Next S N} {plan : List Strike} {workers : ℕ} {start r : GroupRecord S N} {c : Counts} {list : List (TurnRecord S N)}
      → ReachedBy next plan workers start list r c → Reached next plan workers start r c
  forgets begins = starts
  forgets (goes_on old new before after w ticket list more run below turn is) = turns old new before after w ticket (forgets run) below turn

  a_run : {next : Next S N} {plan : List Strike} {workers : ℕ} {start r : GroupRecord S N} {c : Counts} (records : Option (List (TurnRecord S N)))
      → ReachedAs next plan workers start records r c → Reached next plan workers start r c
  a_run None x = x.run
  a_run (Some list) x = forgets x.run

  pub some_run : {next : Next S N} {plan : List Strike} {workers : ℕ} {start r : GroupRecord S N} {c : Counts} (records : Option (List (TurnRecord S N)))
      → ∥ ReachedAs next plan workers start records r c ∥₁ → ∥ Reached next plan workers start r c ∥₁
  some_run records run = ∥∥₁_map run (λ x. a_run records x)

  pub listed : {next : Next S N} {plan : List Strike} {workers : ℕ} {start r : GroupRecord S N} {c : Counts} {list : List (TurnRecord S N)}
      → ∥ ReachedAs next plan workers start (Some list) r c ∥₁ → ∥ ReachedBy next plan workers start list r c ∥₁
  listed run = ∥∥₁_map run (λ x. x.run)

  pub one_more : {next : Next S N} {plan : List Strike} {workers w : ℕ} {start r r' : GroupRecord S N} {c c' : Counts} {ticket : Ticket S N} {ends : Bool} (records records' : Option (List (TurnRecord S N)))
      → ∥ ReachedAs next plan workers start records r c ∥₁ → w < workers → TurnAs next plan w ticket r c r' c' ends records records' → ∥ ReachedAs next plan workers start records' r' c' ∥₁
  one_more {r = r} {r' = r'} {c = c} {c' = c'} {ticket = ticket} None records' run below t = rw t.added (∥∥₁_map run (λ x. record { run = turns r r' c c' _ ticket x.run below t.turn }))
  one_more {r = r} {r' = r'} {c = c} {c' = c'} {ticket = ticket} (Some list) records' run below t =
      rw t.added.2 (∥∥₁_map run (λ x. record { run = goes_on r r' c c' _ ticket list t.added.0 x.run below t.turn t.added.1 }))

  -- where records are kept they are after a turn
  pub keeps_on : {next : Next S N} {plan : List Strike} {w : ℕ} {r r' : GroupRecord S N} {c c' : Counts} {ticket : Ticket S N} {ends : Bool} (records records' : Option (List (TurnRecord S N)))
      → TurnAs next plan w ticket r c r' c' ends records records' → is_some records' ≡ is_some records
  keeps_on None records' t = ap is_some t.added
  keeps_on (Some list) records' t = ap is_some t.added.2

  -- one turn
  none_added : {next : Next S N} {plan : List Strike} {w : ℕ} {ticket : Ticket S N} {old new : GroupRecord S N} {c c' : Counts} {ends : Bool} (turn : Turn next plan w ticket old c new c' ends)
      → IsRecordedAs turn [] → (before after : Option (List (TurnRecord S N))) → after ≡ before → IsAdded turn before after
  none_added turn is None after same = same
  none_added turn is (Some list) after same = ([], is, same ∙ ap Some (sym (append-nil list)))

  one_added : {next : Next S N} {plan : List Strike} {w : ℕ} {ticket : Ticket S N} {old new : GroupRecord S N} {c c' : Counts} {ends : Bool} (turn : Turn next plan w ticket old c new c' ends)
      (t : TurnRecord S N) → IsRecordedAs turn (t ∷ []) → (before after : Option (List (TurnRecord S N))) → after ≡ with_record t before → IsAdded turn before after
  one_added turn t is None after kept = kept
  one_added turn t is (Some list) after kept = (t ∷ [], is, kept)

module _ {S N : Type 0} {next : Next S N} {plan : List Strike} {w : ℕ} {ticket : Ticket S N} {old : GroupRecord S N} {c : Counts} {before after : Option (List (TurnRecord S N))} where
  refuses : {new : GroupRecord S N} {c' c'' : Counts} {ends ends' : Bool} (turn : Turn next plan w ticket old c old c' ends) → IsRecordedAs turn [] → (c'' ≡ c') × (ends' ≡ ends) → new ≡ old → after ≡ before
      → TurnAs next plan w ticket old c new c'' ends' before after
  refuses turn is counts same unchanged = rw (same, counts.0, counts.1) (record { turn = turn; added = none_added turn is before after unchanged })

  pub refused : {new : GroupRecord S N} {c' : Counts} {ends : Bool} (refusal : CommitRefusal) → RefusesCommit next old ticket refusal → CountsRefusal refusal c c' ends → new ≡ old → after ≡ before
      → TurnAs next plan w ticket old c new c' ends before after
  refused Full why counts same unchanged = refuses (is_full why) refl counts same unchanged
  refused Memory why counts same unchanged = refuses (wants why) refl counts same unchanged
  refused Stale why counts same unchanged = refuses (is_late (inl why)) refl counts same unchanged
  refused Down why counts same unchanged = refuses (is_late (inr why)) refl counts same unchanged

  module _ {between : GroupRecord S N} (commit : Commits next old between ticket) {t : TurnRecord S N} {mid : Option (List (TurnRecord S N))} (receipt : IsReceiptRecord w ticket between t)
      (same : mid ≡ before) (kept : after ≡ with_record t mid) {by : List ℕ} (is : by ≡ more_at c.by_worker w 1) where
    pub committed : struck_at plan between.receipts_ever ≡ None → t.crash ≡ None → TurnAs next plan w ticket old c between (record c { by_worker = by }) false before after
    committed none no_crash =
        rw is (record { turn = commits between commit none; added = one_added {c = c} (commits between commit none) t (t, refl, receipt, no_crash) before after (kept ∙ ap (with_record t) same) })

    as_crashed : {new : GroupRecord S N} {c' : Counts} (set : Members) (recovery : Option RecoveryRecord) → struck_at plan between.receipts_ever ≡ Some set
        → CrashesAs next w set between (commits_one w c) new c' recovery → t.crash ≡ Some (record { set = set; recovery = recovery })
        → TurnAs next plan w ticket old c new c' (is_none recovery) before after
    as_crashed {new} {c'} set (Some r) at crash is_crash =
        rw crash.2
        (record {
          turn = crashes between new set r.recovered commit at crash.0;
          added = one_added {c = c} (crashes between new set r.recovered commit at crash.0) t (t, refl, receipt, (r, is_crash, crash.1)) before after (kept ∙ ap (with_record t) same);
        })
    as_crashed {new} {c'} set None at crash is_crash =
        rw crash.1
        (record {
          turn = strikes between new set commit at crash.0;
          added = one_added {c = c} (strikes between new set commit at crash.0) t (t, refl, receipt, is_crash) before after (kept ∙ ap (with_record t) same);
        })

    pub crashed : {new : GroupRecord S N} {c' : Counts} {ends : Bool} (set : Members) (recovery : Option RecoveryRecord) → ends ≡ is_none recovery → struck_at plan between.receipts_ever ≡ Some set
        → CrashesAs next w set between (record c { by_worker = by }) new c' recovery → t.crash ≡ Some (record { set = set; recovery = recovery })
        → TurnAs next plan w ticket old c new c' ends before after
    crashed {new} {c'} set recovery ends at crash is_crash = rw ends (as_crashed {new = new} {c' = c'} set recovery at (rw is at crash) is_crash)

-- ---- what is recorded

pub ends_without : (some ends : Bool) → some ≡ not ends → ends ≡ not some
ends_without some true is = rw is refl
ends_without some false is = rw is refl

-- as many more are undone
pub undone_more : (c : Counts) (w : ℕ) {n m : ℕ} {undone : List ℕ} → undone ≡ more_at c.undone_by_worker w n → n ≡ m → record c { undone_by_worker = undone } ≡ undoes w m c
undone_more c w is same = rw (is, same) refl

pub receipt_record : {S N : Type 0} {w : ℕ} {given ticket : Ticket S N} {new : GroupRecord S N} {sent : ℕ} {crash : Option CrashRecord} → ticket ≡ given → sent ≡ length (member new ticket.to).log
    → IsReceiptRecord w given new (record { worker = w; ticket = ticket; sent = sent; crash = crash })
receipt_record is sent = record { worker = refl; ticket = is; sent = rw is at sent }
