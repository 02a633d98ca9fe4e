-- A book stays sound where an entry was to be recorded.
use Rattle.std.proofs.Common.{◌≡◌, ◌≢◌, ◌≤◌, ℕ, ◌+◌, true, false, List, [], ◌∷◌, length, Option, Some, None, refl, sym, ap, ◌∙◌, subst}
use Rattle.std.specs.Prelude.{IsTrue, Result, Ok, Err}
use Rattle.tf_numbers.proofs.TruthLemmas.{clash}
use Rattle.tf_desk.specs.State.{DeskState}
use Rattle.tf_flow.specs.Plan.{PlanValue}
use Rattle.tf_states.specs.declared.record.Entry.{Entry}
use Rattle.tf_journal.specs.Format.{SIZE_LIMIT, Held, IsAtRest, IsOpen}
use Rattle.tf_machine.specs.Machine.{MachineValue, StandsFor}
use Rattle.tf_model.specs.History.{snapshot}
use Rattle.tf_model.specs.Steps.{Step}
use Rattle.tf_details.specs.Elements.{IsForm, Contents, with_entries, IsContents}
use Rattle.tf_details.proofs.ContentsLemmas.{past_on, contents_on}
use Rattle.tf_book.specs.Book.{BookValue, outline, moment, entry_body, bodies_with}
use Rattle.tf_book.specs.Histories.{framed_bodies}
use Rattle.tf_book.specs.Recording.{halt_after, past_after, contents_after}
use Rattle.tf_book.specs.SessionInvariant.{is_logged, Logged}
use Rattle.tf_book.specs.Sound.{IsSoundBook}
use Rattle.tf_book.specs.declared.faults.Halt.{Halt}
use Rattle.tf_book.specs.declared.faults.Halt.TheVariants as halt
use Rattle.tf_book.proofs.InvariantLemmas.{not_disk}

module _ {K : Type 0} (state : K → DeskState) (machine : MachineValue) (kept : List ℕ) (o : BookValue K) (is : IsSoundBook state machine kept o) (sound : o.halt ≡ None)
    (next : MachineValue) (kept_now : List ℕ) (j : Held K) (f : Option Entry) (line : List ℕ) (e : Entry) where
  -- the book with these parts
  abbrev after : List Entry → Contents → Option Halt → BookValue K
  after past contents h = record { plan = next.plan; past = past; contents = contents; journal = j; quiet = o.quiet; halt = h; failed = f; limit = o.limit }

  unhalted_then : o.journal.halted ≡ false
  unhalted_then = is.sound (not_disk o.halt sound)

  -- the body was appended
  recorded_sound : (h : Option Halt) (r : Result (Unit {0}) Halt) → Logged state (entry_body o.contents.number e) line o.journal j r → is_logged r ≡ true
      → j ≡ record o.journal { desk = j.desk; size = o.journal.size + 5 + length (entry_body o.contents.number e) } → Step (outline o) (moment o) e → IsForm e
      → next.plan ≡ machine.plan → StandsFor next (e ∷ o.past) → kept_now ≡ framed_bodies (e ∷ o.past)
      → IsSoundBook state next kept_now (after (e ∷ o.past) (with_entries o.contents (e ∷ [])) h)
  recorded_sound h r logged recorded same step form planned stands kept_is = record {
    stands = stands;
    plan = refl;
    kept_is = kept_is;
    held = subst (λ (p : PlanValue). IsContents p (with_entries o.contents (e ∷ []))) (sym plan_is) (contents_on o.plan o.contents e is.held
        (subst (λ (l : List Entry). Step (outline o) (snapshot (outline o) l) e) (sym is.told) step) form);
    told = past_on o.contents e ∙ ap (λ (l : List Entry). e ∷ l) is.told;
    title = ap (λ (i : Held K). i.title) same ∙ is.title;
    sound = λ apart. ap (λ (i : Held K). i.halted) same ∙ unhalted_then;
    ready = λ opened.
        let before : IsOpen state o.journal = record {
          told = subst IsTrue logged.continues.extends.tells opened.told;
          sound = unhalted_then;
          kept = sym (ap (λ (i : Held K). i.volatile) same) ∙ opened.kept;
        } in
        (logged.records recorded before (bodies_with o.contents []) (is.ready before)).rest;
    size = λ unhalted. ap (λ (i : Held K). i.size) same ∙ ap (λ (n : ℕ). n + 5 + length (entry_body o.contents.number e)) (is.size unhalted_then);
    limit = logged.limit recorded;
  }
    where
      plan_is : next.plan ≡ o.plan
      plan_is = planned ∙ is.plan

  -- it wasn't, and the journal has no more
  unrecorded_sound : (h : Option Halt) → (h ≢ Some halt.Disk → j.halted ≡ false) → j.title ≡ o.journal.title → j.size ≡ o.journal.size → (j.halted ≡ false → j ≡ o.journal)
      → next ≡ machine → kept_now ≡ kept → IsSoundBook state next kept_now (after o.past o.contents h)
  unrecorded_sound h sound_now titled sized open_same same kept_same = record {
    stands = subst (λ (m : MachineValue). StandsFor m o.past) (sym same) is.stands;
    plan = refl;
    kept_is = kept_same ∙ is.kept_is;
    held = subst (λ (p : PlanValue). IsContents p o.contents) (sym plan_is) is.held;
    told = is.told;
    title = titled ∙ is.title;
    sound = sound_now;
    ready = λ opened.
        let back = open_same opened.sound in
        subst (λ (i : Held K). IsAtRest state i (bodies_with o.contents [])) (sym back) (is.ready (subst (λ (i : Held K). IsOpen state i) back opened));
    size = λ unhalted. sized ∙ is.size unhalted_then;
    limit = subst (λ (n : ℕ). n ≤ SIZE_LIMIT) (sym sized) is.limit;
  }
    where
      plan_is : next.plan ≡ o.plan
      plan_is = ap (λ (m : MachineValue). m.plan) same ∙ is.plan

  by_result : (r : Result (Unit {0}) Halt) → Logged state (entry_body o.contents.number e) line o.journal j r → Step (outline o) (moment o) e → IsForm e
      → (is_logged r ≡ true → (next.plan ≡ machine.plan) × StandsFor next (e ∷ o.past) × (kept_now ≡ framed_bodies (e ∷ o.past))) → (is_logged r ≡ false → (next ≡ machine) × (kept_now ≡ kept))
      → IsSoundBook state next kept_now (after (past_after e o.past r) (contents_after e o.contents r) (halt_after r))
  by_result (Ok u) logged step form on off =
      let now = on refl in recorded_sound None (Ok u) logged refl logged.journal step form now.0 now.1 now.2
  by_result (Err halt.Out) logged step form on off =
      let now = on refl in recorded_sound (Some halt.Out) (Err halt.Out) logged refl logged.journal step form now.0 now.1 now.2
  by_result (Err halt.Disk) logged step form on off =
      let now = off refl in
      unrecorded_sound (Some halt.Disk) (λ apart. absurd (apart refl)) (ap (λ (i : Held K). i.title) logged.journal) (ap (λ (i : Held K). i.size) logged.journal)
      (λ unhalted. absurd (clash j.halted (ap (λ (i : Held K). i.halted) logged.journal) unhalted)) now.0 now.1
  by_result (Err (halt.Full size need)) logged step form on off =
      let now = off refl in
      unrecorded_sound (Some (halt.Full size need)) (λ apart. ap (λ (i : Held K). i.halted) logged.journal ∙ unhalted_then) (ap (λ (i : Held K). i.title) logged.journal)
      (ap (λ (i : Held K). i.size) logged.journal) (λ unhalted. logged.journal) now.0 now.1
  by_result (Err halt.Memory) logged step form on off = absurd logged.cause

  -- whatever the call answered
  pub sound_after : (past : List Entry) (contents : Contents) (h : Option Halt) (r : Result (Unit {0}) Halt) → Logged state (entry_body o.contents.number e) line o.journal j r
      → Step (outline o) (moment o) e → IsForm e
      → (is_logged r ≡ true → (next.plan ≡ machine.plan) × StandsFor next (e ∷ o.past) × (kept_now ≡ framed_bodies (e ∷ o.past))) → (is_logged r ≡ false → (next ≡ machine) × (kept_now ≡ kept))
      → past ≡ past_after e o.past r → contents ≡ contents_after e o.contents r → h ≡ halt_after r → IsSoundBook state next kept_now (after past contents h)
  sound_after past contents h r logged step form on off past_is contents_are halted =
      subst (λ (l : List Entry). IsSoundBook state next kept_now (after l contents h)) (sym past_is)
      (subst (λ (c : Contents). IsSoundBook state next kept_now (after (past_after e o.past r) c h)) (sym contents_are)
      (subst (λ (x : Option Halt). IsSoundBook state next kept_now (after (past_after e o.past r) (contents_after e o.contents r) x)) (sym halted)
      (by_result r logged step form on off)))
