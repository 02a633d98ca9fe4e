-- How a new detail begins: where its body is added, why it isn't, and that the book of it is sound.
use Rattle.std.proofs.Common.{◌≡◌, ◌≢◌, ◌<◌, ◌≤◌, ℕ, Bool, false, List, [], ◌∷◌, ◌++◌, length, None, refl, sym, ap, ◌∙◌, subst, arith}
use Rattle.std.specs.Prelude.{IsTrue, Result, Ok, Err, IfOk, IfErr, vec_len, vec_capacity}
use Rattle.tf_desk.specs.Crash.{Pairs}
use Rattle.tf_desk.specs.State.{DeskState, bytes_now, anything, Trusts, GoesOn, Passes, passes_none}
use Rattle.tf_desk.proofs.CountLemmas.{rises_later}
use Rattle.tf_desk.proofs.StateLemmas.{goes_none, trusts_of}
use Rattle.tf_states.specs.declared.record.Entry.{Entry}
use Rattle.tf_flow.specs.Plan.{PlanValue}
use Rattle.tf_entries.specs.Plans.{IsPlan}
use Rattle.tf_journal.specs.Format.{journal_bytes, desk_after, Held, IsBody, IsAtRest}
use Rattle.tf_journal.specs.declared.title.Title.TheVariants.{Book2 as book_title}
use Rattle.tf_machine.specs.Machine.{MachineValue, StandsFor}
use Rattle.tf_details.specs.Elements.{Element, details, bodies_of, IsAcceptedPlan, CanRun, IsHistoryOf, MayBegin, IsLegalBook, Contents, IsContents, past_of}
use Rattle.tf_details.proofs.BookLemmas.{at_last}
use Rattle.tf_details.proofs.ContentsLemmas.{elements_long, elements_many}
use Rattle.tf_details.proofs.ElementLemmas.{none_past}
use Rattle.tf_details.specs.Marks.{elements_shown}
use Rattle.tf_details.specs.Reading.{elements_in}
use Rattle.tf_details.specs.declared.gathering.Gathering.{Gathering}
use Rattle.tf_book.specs.Book.{bodies_with, size_of, detail_body, with_detail, begun_contents, HasPlaceFor}
use Rattle.tf_book.specs.Histories.{framed_bodies}
use Rattle.tf_book.specs.Holding.{contents_of}
use Rattle.tf_book.specs.declared.holding.Holding.{Holding}
use Rattle.tf_book.specs.SessionInvariant.{IsExact}
use Rattle.tf_book.specs.Shelf.{ShelfValue, desk_at, HoldsElements, IsPlaced}
use Rattle.tf_book.specs.Sound.{IsSoundBook}
use Rattle.tf_book.specs.Starting.{HasAdded, AddsTo, EndsThere, FailsToAdd, FailsToStart}
use Rattle.tf_book.specs.declared.faults.BookFault.{BookFault}
use Rattle.tf_book.specs.declared.faults.BookFault.TheVariants as fault
use Rattle.tf_book.specs.declared.shelf.Place.{Place}
use Rattle.tf_book.specs.declared.shelf.Place.TheVariants as place

-- a plan that may begin
pub may_begin : (elements : List Element) (plan : PlanValue) → HasPlaceFor elements plan → IsAcceptedPlan plan → IsPlan plan → CanRun plan → MayBegin elements plan
may_begin elements plan room accepted limits runs = record { accepted = accepted; limits = limits; runs = runs; few = room.few; unnamed = room.unnamed }

-- before its first entry it has a history that a book may hold
pub new_history : (plan : PlanValue) → IsAcceptedPlan plan → IsPlan plan → CanRun plan → IsHistoryOf plan []
new_history plan accepted limits runs = record { accepted = accepted; limits = limits; runs = runs; legal = tt; forms = tt }

-- what its book's file holds then
pub begun_held : (holding : Holding) (elements : List Element) (plan : PlanValue) → holding.number ≡ length (details elements) → elements_shown holding.marks.items ≡ with_detail elements plan
    → contents_of holding ≡ begun_contents elements plan
begun_held holding elements plan numbered held =
    ap (λ (n : ℕ). record { number = n; elements = elements_shown holding.marks.items }) numbered
    ∙ ap (λ (l : List Element). record { number = length (details elements); elements = l }) held

-- there is room for its mark
pub room_begun : {K H : Type 0} (state : K → DeskState) (g : Gathering H) (body : List ℕ) (journal : Held K) → 67108864 ≤ vec_capacity g.marks → HasAdded state (elements_in g) body journal
    → vec_len g.marks < vec_capacity g.marks
room_begun state g body journal room added = omega (arith, room, elements_long (elements_in g), elements_many g.marks.items, added.size, added.limit)

module _ {K : Type 0} (state : K → DeskState) where
  -- where nothing was done
  pub goes_nowhere : (old new : K) → new ≡ old → Trusts (GoesOn anything) (state old) (state new)
  goes_nowhere old new same = subst (λ (d : K). Trusts (GoesOn anything) (state old) (state d)) (sym same) (trusts_of refl goes_none)

  pub passes_nowhere : {during : Pairs} (old new : K) → new ≡ old → Passes during (state old) (state new)
  passes_nowhere {during} old new same = subst (λ (d : K). Passes during (state old) (state d)) (sym same) passes_none

  -- ---- a body that is added to an unborn file is its first one

  -- what is told behind an addition was told before it
  pub told_made : (made : Held K) (r : Result (Held K) (K × BookFault)) → (state (desk_after r)).tells ≡ (state made.desk).tells
      → IfOk r (λ after. IsTrue (state after.desk).tells → IsTrue (state made.desk).tells)
  told_made made (Ok after) same = λ told. subst IsTrue same told
  told_made made (Err back) same = tt

  pub first_adds : (desk : K) (made after : Held K) (elements : List Element) (body : List ℕ) → elements ≡ [] → HoldsElements state made [] → made.volatile ≡ false
      → (EndsThere state (place.Unborn desk) → IsTrue (state made.desk).tells → length (bytes_now (state made.desk)) ≡ 18) → (IsTrue (state after.desk).tells → IsTrue (state made.desk).tells)
      → AddsTo state (place.Kept made) [] body after → AddsTo state (place.Unborn desk) elements body after
  first_adds desk made after elements body none holds kept short falls adds = record {
    has = subst (λ (l : List Element). HasAdded state l body after) (sym none) adds.has;
    volatile = adds.volatile ∙ kept;
    exact = λ ends told.
        let told_made = falls told in
        adds.exact (record { told = told_made; sound = holds.sound; kept = kept }, short ends told_made ∙ sym holds.size) told
        ∙ ap (λ (l : List Element). journal_bytes book_title (bodies_of l ++ body ∷ [])) (sym none);
  }

  -- it always fits there, and a fault of the disk is one since the file was made a journal
  pub first_fails : (desk back : K) (made : Held K) (elements : List Element) (body : List ℕ) (why : BookFault) → (state desk).disk_faults ≤ (state made.desk).disk_faults
      → IsBody book_title body → why ≢ fault.Memory → FailsToAdd state [] body why made.desk back → FailsToAdd state elements body why desk back
  first_fails desk back made elements body fault.Disk later short apart fails =
      rises_later (state desk).disk_faults (state made.desk).disk_faults (state back).disk_faults later fails
  first_fails desk back made elements body fault.Memory later short apart fails = absurd (apart refl)
  first_fails desk back made elements body (fault.Full size need) later short apart fails = absurd (omega (arith, fails.0, fails.1, fails.2, short.1))
  first_fails desk back made elements body fault.Out later short apart fails = absurd fails
  first_fails desk back made elements body (fault.Halted cause) later short apart fails = absurd fails

  -- by all that is known of both calls
  pub first_added : (at : Place K) (desk : K) (made : Held K) (body : List ℕ) (r : Result (Held K) (K × BookFault)) → at ≡ place.Unborn desk → HoldsElements state made [] → made.volatile ≡ false
      → (EndsThere state (place.Unborn desk) → IsTrue (state made.desk).tells → length (bytes_now (state made.desk)) ≡ 18) → IfOk r (λ after. IsTrue (state after.desk).tells → IsTrue (state made.desk).tells)
      → IfOk r (λ after. (elements : List Element) → HoldsElements state made elements → AddsTo state (place.Kept made) elements body after)
      → IfOk r (λ after. (elements : List Element) → IsPlaced state at elements → AddsTo state at elements body after)
  first_added at desk made body (Err back) is holds kept short falls adds = tt
  first_added at desk made body (Ok after) is holds kept short falls adds = λ elements placed.
      subst (λ (p : Place K). AddsTo state p elements body after) (sym is)
      (first_adds desk made after elements body (subst (λ (p : Place K). IsPlaced state p elements) is placed).0 holds kept short falls (adds [] holds))

  pub first_failed : (at : Place K) (desk : K) (made : Held K) (body : List ℕ) (r : Result (Held K) (K × BookFault)) → at ≡ place.Unborn desk → HoldsElements state made []
      → (state desk).disk_faults ≤ (state made.desk).disk_faults → IsBody book_title body → IfErr r (λ back. back.1 ≢ fault.Memory)
      → IfErr r (λ back. (elements : List Element) → HoldsElements state made elements → FailsToAdd state elements body back.1 made.desk back.0)
      → IfErr r (λ back. (elements : List Element) → IsPlaced state at elements → FailsToAdd state elements body back.1 (desk_at at) back.0)
  first_failed at desk made body (Ok after) is holds later short apart fails = tt
  first_failed at desk made body (Err back) is holds later short apart fails = λ elements placed.
      subst (λ (p : Place K). FailsToAdd state elements body back.1 (desk_at p) back.0) (sym is)
      (first_fails desk back.0 made elements body back.1 later short apart (fails [] holds))

  -- ---- the book of the new detail

  pub begun_sound : (elements : List Element) (machine : MachineValue) (kept : List ℕ) (past : List Entry) (contents : Contents) (journal : Held K) (quiet : Bool)
      → kept ≡ [] → past ≡ [] → contents ≡ begun_contents elements machine.plan → IsLegalBook elements → MayBegin elements machine.plan → StandsFor machine []
      → HasAdded state elements (detail_body machine.plan) journal
      → IsSoundBook state machine kept (record {
        plan = machine.plan;
        past = past;
        contents = contents;
        journal = journal;
        quiet = quiet;
        halt = None;
        failed = None;
        limit = None;
      })
  begun_sound elements machine kept past contents journal quiet unkept none contents_are legal may fresh added = record {
    stands = subst (StandsFor machine) (sym none) fresh;
    plan = refl;
    kept_is = unkept ∙ ap framed_bodies (sym none);
    held = subst (IsContents machine.plan) (sym contents_are) (record { legal = (may, legal); of_detail = at_last (details elements) machine.plan });
    told = ap past_of contents_are ∙ none_past elements (length (details elements)) legal (omega arith) ∙ sym none;
    title = added.title;
    sound = λ apart. added.sound;
    ready = λ opened. subst (λ (c : Contents). IsAtRest state journal (bodies_with c [])) (sym contents_are) (added.rest opened);
    size = λ unhalted. added.size ∙ ap size_of (sym contents_are);
    limit = added.limit;
  }

  -- in a file where nothing stood behind the elements each byte is told
  pub begun_exact : (shelf : ShelfValue K) (plan : PlanValue) (contents : Contents) (journal : Held K) → contents ≡ begun_contents shelf.elements plan
      → AddsTo state shelf.place shelf.elements (detail_body plan) journal → EndsThere state shelf.place → IsTrue (state journal.desk).tells → IsExact (state journal.desk) contents
  begun_exact shelf plan contents journal contents_are adds ends told =
      adds.exact ends told ∙ ap (λ (c : Contents). journal_bytes book_title (bodies_with c [])) (sym contents_are)

  -- why no book started
  pub start_fails : (shelf : ShelfValue K) (plan : PlanValue) (why : BookFault) (old new : K) → IsHistoryOf plan []
      → FailsToAdd state shelf.elements (detail_body plan) why old new → FailsToStart state shelf plan why old new
  start_fails shelf plan fault.Disk old new history fails = (history, fails)
  start_fails shelf plan fault.Memory old new history fails = fails
  start_fails shelf plan (fault.Full size need) old new history fails =
      (record { history = history; size_is = fails.0; need_is = fails.1; over = fails.2 }, fails.3)
  start_fails shelf plan fault.Out old new history fails = absurd fails
  start_fails shelf plan (fault.Halted cause) old new history fails = absurd fails
