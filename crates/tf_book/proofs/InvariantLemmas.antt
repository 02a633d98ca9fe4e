-- What stays true of a book when one more entry was to be recorded.
use Rattle.std.proofs.Common.{◌≡◌, ◌≢◌, ◌<◌, inl, inr, ⊎_elim, ℕ, ◌+◌, true, false, List, [], ◌∷◌, ◌++◌, length, Option, Some, None, refl, sym, ◌∙◌, ap, subst}
use Rattle.std.specs.Prelude.{IsTrue, Result, Ok, Err}
use Rattle.tf_numbers.proofs.TruthLemmas.{clash}
use Rattle.tf_desk.specs.Crash.{shown_with}
use Rattle.tf_desk.specs.State.{DeskState, bytes_now, Passes, passes_none, passes_on}
use Rattle.tf_desk.proofs.CountLemmas.{rises_later}
use Rattle.tf_desk.proofs.StateLemmas.{extends_told, continues_none, continues_on}
use Rattle.tf_flow.specs.Plan.{PlanValue}
use Rattle.tf_states.specs.declared.record.Entry.{Entry}
use Rattle.tf_states.specs.declared.record.What.TheVariants as event
use Rattle.tf_journal.specs.Format.{SIZE_LIMIT, bodies, journal_bytes, recovered, Held, IsAtRest, IsOpen, LeavesBodies, LeavesEither}
use Rattle.tf_journal.proofs.AppendLemmas.{rest_leaves}
use Rattle.tf_journal.specs.declared.title.Title.{Title}
use Rattle.tf_journal.specs.declared.title.Title.TheVariants.{Book2 as book_title}
use Rattle.tf_machine.specs.Machine.{MachineValue}
use Rattle.tf_model.specs.History.{snapshot}
use Rattle.tf_model.specs.Plan.{outline_of}
use Rattle.tf_model.specs.Steps.{Step}
use Rattle.tf_report.specs.Lines.{line}
use Rattle.tf_details.specs.Elements.{IsForm, IsHistoryOf, Contents, with_entries}
use Rattle.tf_details.proofs.BookLemmas.{history_legal}
use Rattle.tf_book.specs.Book.{BookValue, outline, moment, entry_body, bodies_with, size_of}
use Rattle.tf_book.specs.SessionInvariant.{said_of, is_logged, LeavesLogged, StaysOffDisk, Logged, said, IsSpoken, LeavesEntries, MayFollow, nothing_more, one_more, HasFailed, IsPending, IsExact, IsFullFor, HasCause, SessionInvariant, Proceeds}
use Rattle.tf_book.specs.Recording.{halt_after, failed_after, past_after, contents_after}
use Rattle.tf_book.specs.Sound.{IsSoundBook}
use Rattle.tf_book.specs.declared.faults.Halt.{Halt}
use Rattle.tf_book.specs.declared.faults.Halt.TheVariants as halt
use Rattle.tf_book.proofs.LogLemmas.{off_none, off_on}
use Rattle.tf_book.proofs.SpokenLemmas.{shown_none, same_line, said_more, said_cut, left_before, left_now, none_pending}

-- a book that isn't halted wasn't halted by the disk
pub not_disk : (halted : Option Halt) → halted ≡ None → halted ≢ Some halt.Disk
not_disk halted is disk = cc

-- some entry, where it doesn't matter which
any_entry : Entry
any_entry = record { hand = 0; what = event.Restart 0 }

-- what is said of an entry recorded next
abbrev pub next_line : {K : Type 0} → BookValue K → Entry → List ℕ
next_line old e = said_of old.quiet (line (outline old) (length old.past + 1) e)

-- what is known of a call that was to record an entry: the old book's journal was ready, and what the append and the line did
pub record Wrote {K : Type 0} (state : K → DeskState) (old : BookValue K) (j : Held K) (e : Entry) (r : Result (Unit {0}) Halt) : Type 0 where
  pub step : Step (outline old) (moment old) e
  pub form : IsForm e
  pub title : old.journal.title ≡ book_title
  pub size : old.journal.size ≡ size_of old.contents
  pub sound : old.journal.halted ≡ false
  pub ready : IsOpen state old.journal → IsAtRest state old.journal (bodies_with old.contents [])
  pub logged : Logged state (entry_body old.contents.number e) (next_line old e) old.journal j r

module _ {K : Type 0} (state : K → DeskState) where
  module _ (start old : BookValue K) (j : Held K) (e : Entry) (sound : old.halt ≡ None) (k : SessionInvariant state start old) where
    the_line : next_line old e ≡ said_of start.quiet (line (outline start) (length (k.entries ++ start.past) + 1) e)
    the_line = same_line old.quiet start.quiet old.plan start.plan old.past start.past k.entries e k.quiet k.plan k.recorded

    shown_then : (state old.journal.desk).shown ≡ shown_with (state start.journal.desk).shown (said start.quiet (outline start) start.past k.entries)
    shown_then = subst (λ (h : Option Halt). IsSpoken start.quiet (outline_of start.plan) start.past (state start.journal.desk).shown k.entries h (state old.journal.desk).shown) sound k.text

    bodies_then : bodies_with old.contents [] ≡ bodies_with start.contents k.entries
    bodies_then = ap (λ (c : Contents). bodies_with c []) k.held

    number_then : old.contents.number ≡ start.contents.number
    number_then = ap (λ (c : Contents). c.number) k.held

    opened_then : (r : Result (Unit {0}) Halt) → Wrote state old j e r → IsTrue (state start.journal.desk).tells → start.journal.volatile ≡ false → IsOpen state old.journal
    opened_then r w told kept = record { told = extends_told k.continues.extends told; sound = w.sound; kept = k.volatile ∙ kept }

    passes_then : (r : Result (Unit {0}) Halt) → Wrote state old j e r → IsTrue (state start.journal.desk).tells → start.journal.volatile ≡ false
        → Passes (LeavesEntries start.contents start.plan start.quiet start.past (e ∷ k.entries) (state start.journal.desk).shown) (state start.journal.desk) (state j.desk)
    passes_then r w told kept =
        let d = k.crash told kept in
        let opened = opened_then r w told kept in
        passes_on d.passes (w.logged.at_most opened (bodies_with old.contents []) (w.ready opened)).crash
        (left_before start.contents start.plan start.quiet start.past k.entries d.pending (state start.journal.desk).shown e (none_pending _ _ old.halt old.failed d.pending sound d.few))
        (λ image text left. left_now start.contents start.plan start.quiet start.past k.entries (state start.journal.desk).shown (state old.journal.desk).shown e old.journal.title (next_line old e)
        (bodies_with old.contents []) w.title bodies_then the_line shown_then image text
        (subst (λ (n : ℕ). LeavesLogged old.journal.title (bodies_with old.contents []) (entry_body n e) (next_line old e) (state old.journal.desk).shown image text) number_then left))

    full_then : (r : Result (Unit {0}) Halt) → Wrote state old j e r → (size need : ℕ) → (size ≡ old.journal.size) × (need ≡ 5 + length (entry_body old.contents.number e)) × (SIZE_LIMIT < size + need)
        → IsFullFor (HasFailed (Some e)) old.contents start.plan old.past size need
    full_then r w size need is = record {
      entry = e;
      so = refl;
      step = subst (λ (p : PlanValue). Step (outline_of p) (snapshot (outline_of p) old.past) e) k.plan w.step;
      form = w.form;
      size_is = is.0 ∙ w.size;
      need_is = is.1;
      over = is.2;
    }

    -- with the entry behind them
    more_then : bodies (bodies_with old.contents [] ++ entry_body old.contents.number e ∷ []) ≡ bodies (bodies_with start.contents (e ∷ k.entries))
    more_then =
        ap (λ (h : List (List ℕ)). bodies (h ++ entry_body old.contents.number e ∷ [])) bodies_then
        ∙ ap (λ (n : ℕ). bodies (bodies_with start.contents k.entries ++ entry_body n e ∷ [])) number_then

    -- what a crash leaves now, after the append
    leaves_recorded : (r : Result (Unit {0}) Halt) → Wrote state old j e r → is_logged r ≡ true → j.title ≡ old.journal.title → IsTrue (state start.journal.desk).tells → start.journal.volatile ≡ false
        → LeavesBodies book_title (state j.desk) (bodies_with start.contents (e ∷ k.entries))
    leaves_recorded r w recorded titled told kept image left_now =
        let opened = opened_then r w told kept in
        ap (λ (t : Title). recovered t image) (sym (titled ∙ w.title))
        ∙ rest_leaves state j (bodies_with old.contents [] ++ entry_body old.contents.number e ∷ []) (w.logged.records recorded opened (bodies_with old.contents []) (w.ready opened)).rest image left_now
        ∙ more_then

    -- the same where the append found a disk fault
    leaves_pending : (r : Result (Unit {0}) Halt) → Wrote state old j e r → IsTrue (state start.journal.desk).tells → start.journal.volatile ≡ false
        → LeavesEither book_title (state j.desk) (bodies_with start.contents k.entries) (bodies_with start.contents (e ∷ k.entries))
    leaves_pending r w told kept image left_now =
        let opened = opened_then r w told kept in
        let titled = ap (λ (t : Title). recovered t image) (sym w.title) in
        ⊎_elim
        (λ was. inl (titled ∙ was ∙ ap bodies bodies_then))
        (λ is. inr (titled ∙ is ∙ more_then))
        ((w.logged.at_most opened (bodies_with old.contents []) (w.ready opened)).leaves image left_now)

    -- where nothing is kept in a file the disk isn't touched
    off_then : (r : Result (Unit {0}) Halt) → Wrote state old j e r → start.journal.volatile ≡ true → StaysOffDisk (state start.journal.desk) (state j.desk)
    off_then r w volatile = off_on (k.off_disk volatile) (λ told. extends_told k.continues.extends told) (w.logged.off_disk (k.volatile ∙ volatile))

    -- the entry may follow what was recorded since the start
    follows_then : (r : Result (Unit {0}) Halt) → Wrote state old j e r → MayFollow (HasFailed (Some e)) start.plan (k.entries ++ start.past) (e ∷ [])
    follows_then r w = one_more e
        (subst (λ (p : List Entry). Step (outline start) (snapshot (outline start) p) e) k.recorded
        (subst (λ (p : PlanValue). Step (outline_of p) (snapshot (outline_of p) old.past) e) k.plan w.step)) w.form refl

    -- an exact file stays exact
    exact_recorded : (r : Result (Unit {0}) Halt) → Wrote state old j e r → is_logged r ≡ true → IsTrue (state start.journal.desk).tells → start.journal.volatile ≡ false
        → IsExact (state start.journal.desk) start.contents → IsExact (state j.desk) (with_entries old.contents (e ∷ []))
    exact_recorded r w recorded told kept just =
        let opened = opened_then r w told kept in
        let was : bytes_now (state old.journal.desk) ≡ journal_bytes old.journal.title (bodies_with old.contents []) =
        k.exact told kept w.sound just ∙ ap (λ (t : Title). journal_bytes t (bodies_with old.contents [])) (sym w.title) in
        (w.logged.records recorded opened (bodies_with old.contents []) (w.ready opened)).exact was
        ∙ ap (λ (t : Title). journal_bytes t (bodies_with old.contents [] ++ entry_body old.contents.number e ∷ [])) w.title

    recorded_kept : (halted : Option Halt) (r : Result (Unit {0}) Halt) → Wrote state old j e r → is_logged r ≡ true → j.title ≡ old.journal.title → j.volatile ≡ old.journal.volatile
        → IsPending start.plan ((e ∷ k.entries) ++ start.past) halted old.failed [] → IsSpoken start.quiet (outline_of start.plan) start.past (state start.journal.desk).shown (e ∷ k.entries) halted (state j.desk).shown
        → HasCause (with_entries old.contents (e ∷ [])) start.plan (e ∷ old.past) (state start.journal.desk) (state j.desk) old.failed halted
        → SessionInvariant state start (record old { past = e ∷ old.past; contents = with_entries old.contents (e ∷ []); journal = j; halt = halted })
    recorded_kept halted r w recorded titled volatile none text cause = record {
      entries = e ∷ k.entries;
      recorded = ap (λ (l : List Entry). e ∷ l) k.recorded;
      held = ap (λ (c : Contents). with_entries c (e ∷ [])) k.held;
      plan = k.plan;
      quiet = k.quiet;
      volatile = volatile ∙ k.volatile;
      continues = continues_on k.continues w.logged.continues;
      off_disk = off_then r w;
      text = text;
      crash = λ told kept. record { pending = []; few = none; passes = passes_then r w told kept; left = λ before image left_now. inl (leaves_recorded r w recorded titled told kept image left_now) };
      exact = λ told kept unhalted just. exact_recorded r w recorded told kept just;
      cause = cause;
    }

    -- the book is halted with nothing recorded
    halted_here : (halted : Option Halt) (failed : Option Entry)
        → ((pending : List Entry) → pending ≡ [] → IsPending start.plan (k.entries ++ start.past) halted failed pending)
        → IsSpoken start.quiet (outline_of start.plan) start.past (state start.journal.desk).shown k.entries halted (state old.journal.desk).shown
        → HasCause old.contents start.plan old.past (state start.journal.desk) (state old.journal.desk) failed halted
        → SessionInvariant state start (record old { halt = halted; failed = failed })
    halted_here halted failed few text cause = record {
      entries = k.entries;
      recorded = k.recorded;
      held = k.held;
      plan = k.plan;
      quiet = k.quiet;
      volatile = k.volatile;
      continues = k.continues;
      off_disk = k.off_disk;
      text = text;
      crash = λ told kept. (let d = k.crash told kept in record { pending = d.pending; few = few d.pending (none_pending _ _ old.halt old.failed d.pending sound d.few); passes = d.passes; left = d.left });
      exact = k.exact;
      cause = cause;
    }

    by_result : (r : Result (Unit {0}) Halt) → Wrote state old j e r → SessionInvariant state start (record old { past = past_after e old.past r; contents = contents_after e old.contents r; journal = j; halt = halt_after r; failed = failed_after e old.failed r })
    by_result (Ok u) w =
        recorded_kept None (Ok u) w refl (ap (λ (h : Held K). h.title) w.logged.journal) (ap (λ (h : Held K). h.volatile) w.logged.journal) refl
        (said_more start.quiet (outline start) start.past k.entries (state start.journal.desk).shown (state old.journal.desk).shown (state j.desk).shown e (next_line old e) the_line shown_then w.logged.text) tt
    by_result (Err halt.Out) w =
        recorded_kept (Some halt.Out) (Err halt.Out) w refl (ap (λ (h : Held K). h.title) w.logged.journal) (ap (λ (h : Held K). h.volatile) w.logged.journal) refl
        (said_cut start.quiet (outline start) start.past k.entries (state start.journal.desk).shown (state old.journal.desk).shown (state j.desk).shown e (next_line old e) the_line shown_then w.logged.text)
        (rises_later (state start.journal.desk).out_faults (state old.journal.desk).out_faults (state j.desk).out_faults k.continues.extends.out_faults w.logged.cause)
    by_result (Err halt.Disk) w = record {
      entries = k.entries;
      recorded = k.recorded;
      held = k.held;
      plan = k.plan;
      quiet = k.quiet;
      volatile = ap (λ (h : Held K). h.volatile) w.logged.journal ∙ k.volatile;
      continues = continues_on k.continues w.logged.continues;
      off_disk = off_then (Err halt.Disk) w;
      text = w.logged.text ∙ shown_then;
      crash = λ told kept. record { pending = e ∷ []; few = follows_then (Err halt.Disk) w; passes = passes_then (Err halt.Disk) w told kept; left = λ before. leaves_pending (Err halt.Disk) w told kept };
      exact = λ told kept unhalted just. absurd (clash j.halted (ap (λ (h : Held K). h.halted) w.logged.journal) unhalted);
      cause = rises_later (state start.journal.desk).disk_faults (state old.journal.desk).disk_faults (state j.desk).disk_faults k.continues.extends.disk_faults w.logged.cause;
    }
    by_result (Err (halt.Full size need)) w =
        subst (λ (h : Held K). SessionInvariant state start (record old { journal = h; halt = Some (halt.Full size need); failed = Some e })) (sym w.logged.journal)
        (halted_here (Some (halt.Full size need)) (Some e) (λ p none. none) shown_then (full_then (Err (halt.Full size need)) w size need w.logged.cause))
    by_result (Err halt.Memory) w = absurd w.logged.cause

  -- one entry that was to be recorded
  pub keeps_on : (start old new : BookValue K) (e : Entry) (r : Result (Unit {0}) Halt) → old.halt ≡ None → Wrote state old new.journal e r
      → new ≡ record old { past = past_after e old.past r; contents = contents_after e old.contents r; journal = new.journal; halt = halt_after r; failed = failed_after e old.failed r } → SessionInvariant state start old → SessionInvariant state start new
  keeps_on start old new e r sound w same k = subst (λ (b : BookValue K). SessionInvariant state start b) (sym same) (by_result start old new.journal e sound k r w)

  -- want of memory halts
  pub keeps_halted : (start old : BookValue K) → old.halt ≡ None → SessionInvariant state start old → SessionInvariant state start (record old { halt = Some halt.Memory })
  keeps_halted start old sound k = halted_here start old old.journal any_entry sound k (Some halt.Memory) old.failed (λ p none. none) (shown_then start old old.journal any_entry sound k) tt

  -- at the start
  pub keeps_none : (start : BookValue K) → start.halt ≡ None → SessionInvariant state start start
  keeps_none start sound = record {
    entries = [];
    recorded = refl;
    held = refl;
    plan = refl;
    quiet = refl;
    volatile = refl;
    continues = continues_none;
    off_disk = λ volatile. off_none;
    text = subst (λ (h : Option Halt). IsSpoken start.quiet (outline_of start.plan) start.past (state start.journal.desk).shown [] h (state start.journal.desk).shown) (sym sound)
        (sym (shown_none (state start.journal.desk).shown));
    crash = λ told kept. record { pending = []; few = none_few start.halt start.failed sound; passes = passes_none; left = λ before image left_now. inl (before image left_now) };
    exact = λ told kept unhalted just. just;
    cause = subst (λ (h : Option Halt). HasCause start.contents start.plan start.past (state start.journal.desk) (state start.journal.desk) start.failed h) (sym sound) tt;
  }
    where
      none_few : (halted : Option Halt) (failed : Option Entry) → halted ≡ None → IsPending start.plan start.past halted failed []
      none_few None failed is = refl
      none_few (Some h) failed is = absurd (cc)

  -- the same of a book that is open, whose parts are as these
  pub book_proceeds : (old o : BookValue K) (p : PlanValue) (past : List Entry) (c : Contents) (j : Held K) (h : Option Halt) (f : Option Entry) (n : ℕ) (machine : MachineValue) (kept : List ℕ) (e : Entry) (r : Result (Unit {0}) Halt)
      → o ≡ old → n ≡ length o.past → old.halt ≡ None → Step (outline old) (moment old) e → IsForm e → IsSoundBook state machine kept o
      → Logged state (entry_body o.contents.number e) (said_of o.quiet (line (outline o) (n + 1) e)) o.journal j r
      → p ≡ o.plan → past ≡ past_after e o.past r → c ≡ contents_after e o.contents r → h ≡ halt_after r → f ≡ failed_after e o.failed r
      → Proceeds state old (record { plan = p; past = past; contents = c; journal = j; quiet = o.quiet; halt = h; failed = f; limit = o.limit })
  book_proceeds old o p past c j h f n machine kept e r same number sound step form is logged plan_is past_is contents_is halt_is failed_is =
      subst (λ (x : BookValue K). Proceeds state x next) same (record {
        plan = plan_is;
        limit = refl;
        unasked = logged.unasked;
        keeps = λ start k. keeps_on start o next e r sound_here wrote turned k;
      })
    where
      sound_here : o.halt ≡ None
      sound_here = ap (λ (b : BookValue K). b.halt) same ∙ sound

      next : BookValue K
      next = record { plan = p; past = past; contents = c; journal = j; quiet = o.quiet; halt = h; failed = f; limit = o.limit }

      wrote : Wrote state o j e r
      wrote = record {
        step = subst (λ (b : BookValue K). Step (outline b) (moment b) e) (sym same) step;
        form = form;
        title = is.title;
        size = is.size (is.sound (not_disk o.halt sound_here));
        sound = is.sound (not_disk o.halt sound_here);
        ready = is.ready;
        logged = subst (λ (m : ℕ). Logged state (entry_body o.contents.number e) (said_of o.quiet (line (outline o) (m + 1) e)) o.journal j r) number logged;
      }

      turned : next ≡ record o { past = past_after e o.past r; contents = contents_after e o.contents r; journal = j; halt = halt_after r; failed = failed_after e o.failed r }
      turned =
          ap (λ (x : Option Halt). record o { plan = p; past = past; contents = c; journal = j; halt = x; failed = f }) halt_is
          ∙ ap (λ (x : Option Entry). record o { plan = p; past = past; contents = c; journal = j; halt = halt_after r; failed = x }) failed_is
          ∙ ap (λ (x : PlanValue). record o { plan = x; past = past; contents = c; journal = j; halt = halt_after r; failed = failed_after e o.failed r }) plan_is
          ∙ ap (λ (x : List Entry). record o { past = x; contents = c; journal = j; halt = halt_after r; failed = failed_after e o.failed r }) past_is
          ∙ ap (λ (x : Contents). record o { past = past_after e o.past r; contents = x; journal = j; halt = halt_after r; failed = failed_after e o.failed r }) contents_is

-- one call that records after another
pub proceeds_on : {K : Type 0} {state : K → DeskState} {old mid new : BookValue K} → Proceeds state old mid → Proceeds state mid new → Proceeds state old new
proceeds_on a b = record {
  plan = b.plan ∙ a.plan;
  limit = b.limit ∙ a.limit;
  unasked = record { asks = b.unasked.asks ∙ a.unasked.asks; turns = b.unasked.turns ∙ a.unasked.turns };
  keeps = λ start k. b.keeps start (a.keeps start k);
}

-- what a crash leaves of a book that the disk didn't halt
pub sound_leaves : {K : Type 0} (state : K → DeskState) (machine : MachineValue) (kept : List ℕ) (b old : BookValue K) → b ≡ old → IsSoundBook state machine kept b
    → IsTrue (state old.journal.desk).tells → old.journal.volatile ≡ false → old.halt ≢ Some halt.Disk
    → LeavesBodies book_title (state old.journal.desk) (bodies_with old.contents [])
sound_leaves {K} state machine kept b old same is told saved apart =
    subst (λ (x : BookValue K). LeavesBodies book_title (state x.journal.desk) (bodies_with x.contents [])) same here
  where
    opened : IsOpen state b.journal
    opened = subst (λ (x : BookValue K). IsOpen state x.journal) (sym same)
        (record { told = told; sound = subst (λ (x : BookValue K). x.journal.halted ≡ false) same (is.sound (λ disk. apart (sym (ap (λ (x : BookValue K). x.halt) same) ∙ disk))); kept = saved })

    here : LeavesBodies book_title (state b.journal.desk) (bodies_with b.contents [])
    here image left_now = ap (λ (t : Title). recovered t image) (sym is.title) ∙ rest_leaves state b.journal (bodies_with b.contents []) (is.ready opened) image left_now

-- what came before is a history too
pub history_before : {plan : PlanValue} (newer older : List Entry) → IsHistoryOf plan (newer ++ older) → IsHistoryOf plan older
history_before [] older h = h
history_before (e ∷ newer) older h =
    history_before newer older (record { accepted = h.accepted; limits = h.limits; runs = h.runs; legal = h.legal.1; forms = h.forms.1 })

-- and so is a history with an entry that may follow it
pub history_on : {is_so : Entry → Type 0} {plan : PlanValue} {past pending : List Entry} → MayFollow is_so plan past pending → IsHistoryOf plan past → IsHistoryOf plan (pending ++ past)
history_on nothing_more h = h
history_on (one_more e step form so) h = record { accepted = h.accepted; limits = h.limits; runs = h.runs; legal = (step, h.legal); forms = (form, h.forms) }

-- a book holds a history that a book may hold
pub sound_history : {K : Type 0} (state : K → DeskState) (machine : MachineValue) (kept : List ℕ) (b old : BookValue K) → b ≡ old → IsSoundBook state machine kept b → IsHistoryOf old.plan old.past
sound_history {K} state machine kept b old same is =
    subst (λ (x : BookValue K). IsHistoryOf x.plan x.past) same
    (subst (IsHistoryOf b.plan) is.told (history_legal b.contents.elements b.contents.number b.plan is.held.legal is.held.of_detail))
