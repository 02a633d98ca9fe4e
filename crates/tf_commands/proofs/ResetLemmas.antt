-- A flow that is put back, put together from what the book keeps and what was said last.
use Rattle.std.proofs.Common.{◌≡◌, ◌≢◌, ℕ, List, [], ◌++◌, Bool, true, false, Option, Some, None, refl, sym, ap, ◌∙◌, subst, inl, inr}
use Rattle.std.proofs.lemmas.List.{append_cancel_right}
use Rattle.std.specs.Prelude.{IsSome}
use Rattle.tf_desk.proofs.StateLemmas.{continues_on, says_continues}
use Rattle.tf_desk.specs.Crash.{shown_with}
use Rattle.tf_desk.specs.State.{DeskState}
use Rattle.tf_flow.specs.Plan.{PlanValue}
use Rattle.tf_states.specs.declared.record.Entry.{Entry}
use Rattle.tf_states.specs.declared.state.FlowState.{FlowState}
use Rattle.tf_states.specs.declared.state.FlowState.TheVariants as flow
use Rattle.tf_model.specs.History.{flow_of}
use Rattle.tf_model.specs.Plan.{outline_of}
use Rattle.tf_details.specs.Elements.{detail_name, with_entries}
use Rattle.tf_book.specs.Book.{BookValue, outline, moment, flow_state}
use Rattle.tf_book.specs.SessionInvariant.{said}
use Rattle.tf_book.specs.Turns.{may_reset, AreReset, IsPutBackOn, IsTried, IsNextReset, HasTriedToReset}
use Rattle.tf_book.specs.Faults.{IsFault}
use Rattle.tf_book.specs.declared.faults.BookFault.{BookFault}
use Rattle.tf_book.specs.declared.faults.Halt.{Halt}
use Rattle.tf_book.specs.declared.faults.Halt.TheVariants as halt
use Rattle.tf_book.proofs.SpokenLemmas.{shown_none}
use Rattle.tf_journal.specs.Start.{Open}
use Rattle.tf_commands.specs.Books.{Refuses, RefusesOrStops, exhausted, unopened_book, ResetsBook, unfound_reset, reset_forbidden, was_reset, Lasts, PutBack, IsResetSaid, all_back, disk_failed_back, filled_back, ShowsLines, closed}
use Rattle.tf_commands.specs.Messages.{state_forbids}
use Rattle.tf_commands.specs.Runs.{IsHeld, HoldsBook, HasSaidHalt, book_desk, IsPutBackTo, GoesBack}
use Rattle.tf_report.specs.Closing.{said as was_said}
use Rattle.tf_report.specs.declared.statuses.TheConstants.{SUCCEEDED, FORBIDDEN}
use Rattle.tf_commands.proofs.HaltLemmas.{says_nothing, halt_lasts, halt_ended, halt_shows, said_lasts, sound_text}
use Rattle.tf_commands.proofs.PathLemmas.{ReadsPicked}
use Rattle.tf_commands.proofs.PromiseLemmas.{opened_lasts}

-- what isn't false is true
pub is_so : (b : Bool) → (b ≡ false → ⊥) → b ≡ true
is_so true never = refl
is_so false never = absurd (never refl)

-- a call that failed left a book halted
pub halts_so : (before after : Option Halt) (why : BookFault) → before ≡ None → IsFault before after why → IsSome after
halts_so (Some cause) after why sound by = absurd (cc)
halts_so None (Some cause) why sound by = refl
halts_so None None why sound by = absurd by

-- the entries that were recorded put the flow back
put_entries : (plan : PlanValue) (before after entries : List Entry) → IsPutBackOn (outline_of plan) before after → after ≡ entries ++ before → AreReset (outline_of plan) entries before
put_entries plan before after entries put recorded =
    subst (λ (l : List Entry). AreReset (outline_of plan) l before) (append_cancel_right put.entries entries before (sym put.is ∙ recorded)) put.are

-- the entry that couldn't be recorded, by the plan at the start
pub reset_failed : {K : Type 0} (start now : BookValue K) → now.plan ≡ start.plan → HasTriedToReset now → IsTried (IsNextReset (outline start) now.past) now.halt now.failed
reset_failed start now plan tried = subst (λ (p : PlanValue). IsTried (IsNextReset (outline_of p) now.past) now.halt now.failed) plan tried

module _ {K : Type 0} (state : K → DeskState) where
  -- why the book was halted was said, or cut, or it says nothing
  pub halts_back : (start book : BookValue K) (why : Halt) (now : DeskState) (status : ℕ) → IsPutBackTo state start book → book.halt ≡ Some why
      → (book.halt ≢ Some halt.Disk → book.journal.halted ≡ false)
      → HasSaidHalt why (book_desk state book) now status → IsHeld book.plan book
      → GoesBack state start now status
  halts_back start book why now status to halted unhalted s held =
      let k = to.kept in
      record {
        entries = k.entries;
        closing = s.closing;
        lasts = halt_lasts state (IsNextReset (outline start)) start book why now status halted unhalted s k (subst (λ (p : PlanValue). IsHeld p book) k.plan held) to.failed;
        put_back = record {
          steps = put_entries start.plan start.past book.past k.entries to.put k.recorded;
          text = subst (λ (b : Bool). ShowsLines start.plan b start.past k.entries (book_desk state start).shown now.shown (IsResetSaid (with_entries start.contents k.entries) start.plan (k.entries ++ start.past)) s.closing status) to.speaks
              (halt_shows state start book why now status (IsResetSaid (with_entries start.contents k.entries) start.plan (k.entries ++ start.past)) (IsNextReset (outline start)) halted s k disk_failed_back filled_back to.failed);
        };
        continues = continues_on k.continues (says_continues s.says);
        ended = halt_ended state start book why now status halted s k;
      }

  -- all of it was recorded
  pub all_goes_back : (start book : BookValue K) → IsPutBackTo state start book → book.halt ≡ None → book.journal.halted ≡ false
      → flow_state book ≡ flow.Pending → IsHeld book.plan book → GoesBack state start (book_desk state book) SUCCEEDED
  all_goes_back start book to sound unhalted pending held =
      let k = to.kept in
      let spoken = sound_text state start book sound k in
      record {
        entries = k.entries;
        closing = [];
        lasts = said_lasts state (IsNextReset (outline start)) start book [] (book_desk state book) says_nothing (λ unrisen. unhalted) k (subst (λ (p : PlanValue). IsHeld p book) k.plan held) to.failed (inl spoken);
        put_back = record {
          steps = put_entries start.plan start.past book.past k.entries to.put k.recorded;
          text = subst (λ (b : Bool). ShowsLines start.plan b start.past k.entries (book_desk state start).shown (book_desk state book).shown (IsResetSaid (with_entries start.contents k.entries) start.plan (k.entries ++ start.past)) [] SUCCEEDED) to.speaks
              (closed [] SUCCEEDED SUCCEEDED (all_back (ap flow_of (sym k.recorded) ∙ pending)) (was_said (spoken ∙ sym (shown_none (shown_with (book_desk state start).shown (said start.quiet (outline start) start.past k.entries))))));
        };
        continues = k.continues;
        ended = record { unsaid = λ is. absurd (cc); failed = λ is. absurd (cc) };
      }

  -- the flow of a book that was opened was put back
  pub resets_over : (name : List ℕ) (wanted : Option (List ℕ)) (entry : DeskState) (book : BookValue K) (now : DeskState) (status : ℕ)
      → Open name entry (book_desk state book) → HoldsBook name wanted entry book
      → book.journal.volatile ≡ false → book.quiet ≡ false → may_reset (outline book) (moment book) ≡ true
      → GoesBack state book now status → ReadsPicked name now
      → ResetsBook name wanted entry now status
  resets_over name wanted entry book now status o holds kept speaks may b laws =
      was_reset book.contents book.plan book.past holds may (record {
        entries = b.entries;
        closing = b.closing;
        put_back = subst (λ (t : Option (List ℕ)). PutBack book.contents book.plan book.past b.entries t now.shown b.closing status) o.untouched.quiet b.put_back;
        lasts = λ told.
            subst (λ (q : Bool). Lasts (IsNextReset (outline book)) name book.contents book.plan q book.past b.entries entry now b.closing) speaks
            (opened_lasts state (IsNextReset (outline book)) name wanted entry book now b.entries b.closing o kept holds b.lasts b.continues laws told);
      })

  -- the flow of a book can't be put back, or memory ran out
  pub forbidden_back : (name : List ℕ) (wanted : Option (List ℕ)) (entry : DeskState) (book : BookValue K) (named : List ℕ) (at : FlowState) (now : DeskState) (status : ℕ) → named ≡ detail_name book.plan → at ≡ flow_state book
      → HoldsBook name wanted entry book → may_reset (outline book) (moment book) ≡ false
      → RefusesOrStops name entry now (state_forbids named at) FORBIDDEN status
      → ResetsBook name wanted entry now status
  forbidden_back name wanted entry book named at now status named_is at_is holds never (inl stops) = unfound_reset (unopened_book (exhausted stops))
  forbidden_back name wanted entry book named at now status named_is at_is holds never (inr refuses) =
      reset_forbidden book.contents book.plan book.past holds never
      (subst (λ (n : List ℕ). Refuses name entry now (state_forbids n (flow_state book)) FORBIDDEN status) named_is
      (subst (λ (f : FlowState). Refuses name entry now (state_forbids named f) FORBIDDEN status) at_is refuses))
