-- How a detail is opened: what was read again is what the shelf has, and the book of it is sound.
use Rattle.std.proofs.Common.{◌≡◌, ◌<◌, ◌≤◌, ◌⊎◌, inl, inr, ℕ, ◌+◌, false, List, length, Some, None, refl, sym, ap, ◌∙◌, subst, arith}
use Rattle.std.specs.Prelude.{IsTrue}
use Rattle.tf_numbers.proofs.TruthLemmas.{clash, never_true}
use Rattle.tf_desk.specs.State.{DeskState}
use Rattle.tf_states.specs.declared.record.Entry.{Entry}
use Rattle.tf_journal.specs.Format.{SIZE_LIMIT, prefix_of, Held, IsAtRest}
use Rattle.tf_journal.specs.Reading.{OnlyReads}
use Rattle.tf_journal.specs.declared.faults.LoadFault.{LoadFault}
use Rattle.tf_journal.specs.declared.faults.LoadFault.TheVariants as load_fault
use Rattle.tf_journal.specs.declared.title.Title.{Title}
use Rattle.tf_journal.specs.declared.title.Title.TheVariants.{Book2 as book_title}
use Rattle.tf_machine.specs.Machine.{MachineValue, StandsFor}
use Rattle.tf_records.specs.Replaying.{HasReadAll, FailsToReadBack}
use Rattle.tf_details.specs.Elements.{Element, details, plan_of, history, bodies_of, IsLegalBook, CannotFollow}
use Rattle.tf_details.specs.Whole.{AreAlike}
use Rattle.tf_details.specs.Reading.{elements_in, HasGathered}
use Rattle.tf_details.specs.declared.gathering.Gathering.{Gathering}
use Rattle.tf_details.proofs.BookLemmas.{size_is}
use Rattle.tf_details.proofs.MachineLemmas.{as_many as machines_many}
use Rattle.tf_details.proofs.OnceLemmas.{as_many, read_once, never_refused}
use Rattle.tf_book.specs.Histories.{past_shown, framed_bodies, KeepsHistory}
use Rattle.tf_book.specs.Shelf.{ShelfValue, desk_at, desk_of, HoldsElements, IsPlaced}
use Rattle.tf_book.specs.declared.shelf.Place.{Place}
use Rattle.tf_book.specs.declared.shelf.Place.TheVariants as place
use Rattle.tf_book.specs.Sound.{IsSoundBook}
use Rattle.tf_book.specs.declared.history.History.{History}

-- a journal that was read back whole has the elements that were read
pub read_holds : {K H : Type 0} (state : K → DeskState) (keeps : H → List Entry → Type 0) (old now : Held K) (g : Gathering H) → old.title ≡ book_title → old.halted ≡ false → old.volatile ≡ false
    → (IsTrue (state old.desk).tells → (held : List (List ℕ)) × IsAtRest state old held) → HasReadAll state (HasGathered keeps) old now.desk g → OnlyReads state old now
    → HoldsElements state now (elements_in g)
read_holds {K} state keeps old now g titled sound kept rest read reads = record {
  title = ap (λ (h : Held K). h.title) reads.journal ∙ titled;
  sound = ap (λ (h : Held K). h.halted) reads.journal ∙ sound;
  size = ap (λ (h : Held K). h.size) reads.journal ∙ read.size
      ∙ ap (λ (t : Title). length (prefix_of t read.bodies) + 1) titled
      ∙ ap (λ (b : List (List ℕ)). length (prefix_of book_title b) + 1) read.is_replayed.bodies_are
      ∙ size_is (elements_in g);
  limit = subst (λ (n : ℕ). n ≤ SIZE_LIMIT) (sym (ap (λ (h : Held K). h.size) reads.journal)) read.limit;
  none_kept = λ volatile. absurd (clash now.volatile volatile (ap (λ (h : Held K). h.volatile) reads.journal ∙ kept));
  ready = λ opened.
      let lies = rest (reads.rests.falls opened.told) in
      subst (IsAtRest state now) (read.whole opened.told lies.0 lies.1.lies ∙ read.is_replayed.bodies_are) (reads.stays opened.told lies.0 lies.1);
}

-- the book of a detail whose history was gathered is sound
pub gathered_sound : {K : Type 0} (state : K → DeskState) (journal : Held K) (g : Gathering History) (machine : MachineValue) → HoldsElements state journal (elements_in g) → IsLegalBook (elements_in g)
    → KeepsHistory g.kept (history g.number (elements_in g)) → plan_of (elements_in g) g.number ≡ Some machine.plan → StandsFor machine (history g.number (elements_in g))
    → IsSoundBook state machine g.kept.bodies.items (record {
      plan = machine.plan;
      past = past_shown g.kept.entries.items;
      contents = record { number = g.number; elements = elements_in g };
      journal = journal;
      quiet = false;
      halt = None;
      failed = None;
      limit = None;
    })
gathered_sound state journal g machine holds legal kept found stands = record {
  stands = subst (StandsFor machine) (sym kept.entries) stands;
  plan = refl;
  kept_is = kept.bodies ∙ ap framed_bodies (sym kept.entries);
  held = record { legal = legal; of_detail = found };
  told = sym kept.entries;
  title = holds.title;
  sound = λ apart. holds.sound;
  ready = holds.ready;
  size = λ unhalted. holds.size;
  limit = holds.limit;
}

-- what is known of a shelf of which that detail is opened: its elements stand in a journal that is kept in a file
pub record StandsIn {K : Type 0} (state : K → DeskState) (shelf : ShelfValue K) (number : ℕ) (journal : Held K) : Type 0 where
  pub holds : HoldsElements state journal shelf.elements
  pub legal : IsLegalBook shelf.elements
  pub within : number < length (details shelf.elements)
  pub kept : journal.volatile ≡ false
  pub desk : desk_of shelf ≡ journal.desk

-- a journal with a detail is kept in a file
in_file : {K : Type 0} (state : K → DeskState) (journal : Held K) (elements : List Element) (number : ℕ) → HoldsElements state journal elements → number < length (details elements) → journal.volatile ≡ false
in_file state journal elements number holds within =
    never_true journal.volatile (λ is. omega (arith, within, ap (λ (l : List Element). length (details l)) (holds.none_kept is)))

pub stands_in : {K : Type 0} (state : K → DeskState) (o shelf : ShelfValue K) (number : ℕ) (journal : Held K) → o ≡ shelf → o.place ≡ place.Kept journal → IsPlaced state o.place o.elements
    → IsLegalBook o.elements → number < length (details shelf.elements) → StandsIn state shelf number journal
stands_in {K} state o shelf number journal same is placed legal within =
    let holds : HoldsElements state journal shelf.elements =
    subst (λ (s : ShelfValue K). HoldsElements state journal s.elements) same (subst (λ (p : Place K). IsPlaced state p o.elements) is placed) in
    record {
      holds = holds;
      legal = subst (λ (s : ShelfValue K). IsLegalBook s.elements) same legal;
      within = within;
      kept = in_file state journal shelf.elements number holds within;
      desk = sym (ap (λ (s : ShelfValue K). desk_of s) same) ∙ ap (λ (p : Place K). desk_at p) is;
    }

module _ {K : Type 0} (state : K → DeskState) (shelf : ShelfValue K) (number : ℕ) (old : Held K) (s : StandsIn state shelf number old) where
  -- where the desk tells its content, the bodies of the elements lie in the journal
  rests_then : IsTrue (state old.desk).tells → IsAtRest state old (bodies_of shelf.elements)
  rests_then told = s.holds.ready (record { told = told; sound = s.holds.sound; kept = s.kept })

  -- so one that couldn't be read back failed for the disk or for want of memory
  pub opening_fails : (fault : LoadFault) (desk : K) → FailsToReadBack state CannotFollow fault old desk → (IsTrue (state desk).tells → IsTrue (state old.desk).tells) → IsTrue (state desk).tells
      → (fault ≡ load_fault.Disk) ⊎ (fault ≡ load_fault.Memory)
  opening_fails load_fault.Disk desk fails falls told = inl refl
  opening_fails load_fault.Memory desk fails falls told = inr refl
  opening_fails (load_fault.NotABook offset byte) desk fails falls told =
      let refused = fails.refused told (bodies_of shelf.elements) (rests_then (falls told)).lies in
      absurd (never_refused shelf.elements refused.before refused.after refused.body s.legal refused.splits refused.cannot)
  opening_fails load_fault.Old desk fails falls told = absurd (fails.new_format refl)

  module _ (now : Held K) (g : Gathering History) (reads : OnlyReads state old now) (read : HasReadAll state (HasGathered KeepsHistory) old now.desk g) where
    r : HasGathered KeepsHistory g read.bodies
    r = read.is_replayed

    -- just the bodies of the shelf were read again, and a book with these tells the same
    pub same_bodies : IsTrue (state now.desk).tells → bodies_of (elements_in g) ≡ bodies_of shelf.elements
    same_bodies told = sym (read.whole told (bodies_of shelf.elements) (rests_then (reads.rests.falls told)).lies ∙ r.bodies_are)

    alike : IsTrue (state now.desk).tells → AreAlike (elements_in g) shelf.elements
    alike told = read_once (elements_in g) shelf.elements r.legal s.legal (same_bodies told)

    -- so the detail is there again
    pub still_there : length g.details ≤ number → IsTrue (state now.desk).tells → ⊥
    still_there missing told =
        omega (arith, s.within, missing, machines_many g.details (elements_in g) r.machines_are, as_many (elements_in g) shelf.elements (alike told))

    module _ (numbered : g.number ≡ number) where
      -- its history was gathered
      past_is : past_shown g.kept.entries.items ≡ history number (elements_in g)
      past_is = r.kept.entries ∙ ap (λ (n : ℕ). history n (elements_in g)) numbered

      -- and is the same
      pub same_past : IsTrue (state now.desk).tells → past_shown g.kept.entries.items ≡ history number shelf.elements
      same_past told = past_is ∙ (alike told).histories number

      -- the book of a detail that was read again is sound
      pub opened_sound : (machine : MachineValue) → plan_of (elements_in g) number ≡ Some machine.plan
          → StandsFor machine (history number (elements_in g)) → IsSoundBook state machine g.kept.bodies.items (record {
            plan = machine.plan;
            past = past_shown g.kept.entries.items;
            contents = record { number = number; elements = elements_in g };
            journal = now;
            quiet = false;
            halt = None;
            failed = None;
            limit = None;
          })
      opened_sound machine found stands = record {
        stands = subst (StandsFor machine) (sym past_is) stands;
        plan = refl;
        kept_is = r.kept.bodies ∙ ap framed_bodies (sym r.kept.entries);
        held = record { legal = r.legal; of_detail = found };
        told = sym past_is;
        title = now_holds.title;
        sound = λ apart. now_holds.sound;
        ready = now_holds.ready;
        size = λ unhalted. now_holds.size;
        limit = now_holds.limit;
      }
        where
          now_holds : HoldsElements state now (elements_in g)
          now_holds =
              read_holds state KeepsHistory old now g s.holds.title s.holds.sound s.kept (λ told. (bodies_of shelf.elements, rests_then told)) read reads
