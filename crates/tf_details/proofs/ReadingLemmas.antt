-- How a book is read body by body.
use Rattle.std.proofs.Common.{◌≡◌, ◌<◌, ◌^◌, ℕ, List, [], ◌∷◌, ◌++◌, sym, ap, ◌∙◌, subst, arith}
use Rattle.std.specs.Prelude.{◌≤◌, nat_eq, if◌then◌else◌, vec_capacity, Result, Ok, Err, OnOk}
use Rattle.tf_states.specs.declared.record.Entry.{Entry}
use Rattle.tf_entries.specs.Heads.{head_bytes, BeginsWith}
use Rattle.tf_entries.specs.declared.heads.Head.{Head}
use Rattle.tf_entries.specs.declared.heads.Head.TheVariants as head
use Rattle.tf_machine.specs.Machine.{MachineValue}
use Rattle.tf_details.specs.Elements.{Element, detail, entry, history, element_bytes, bodies_of, IsLegalBook, IsNoDetail, IsNoEntry, no_head, bad_detail, bad_entry, CannotFollow}
use Rattle.tf_details.specs.Reading.{AreMachinesOf, HasReplayed, HasGathered, HasReadDetail, IsReadEntry, elements_in, HasGatheredDetail, HasGatheredEntry}
use Rattle.tf_details.specs.Marks.{elements_shown}
use Rattle.tf_details.specs.declared.gathering.Gathering.{Gathering}
use Rattle.tf_details.proofs.MachineLemmas.{began, took, none_yet}

-- one body more
one_more : (before : List (List ℕ)) (body : List ℕ) (book : List Element) (element : Element) → before ≡ bodies_of book → body ≡ element_bytes element
    → before ++ body ∷ [] ≡ bodies_of (element ∷ book)
one_more before body book element are is = ap (λ (l : List (List ℕ)). l ++ body ∷ []) are ∙ ap (λ (b : List ℕ). bodies_of book ++ b ∷ []) is

-- the body of a plan that was read
plan_body : (old new : List MachineValue) (form body : List ℕ) (read : HasReadDetail old new form) → body ≡ head_bytes head.Detail ++ form → body ≡ element_bytes (detail read.machine.plan)
plan_body old new form body read is = is ∙ ap (λ (f : List ℕ). head_bytes head.Detail ++ f) (sym read.form_is)

-- the body of an entry that was read
entry_body : (machines : List MachineValue) (number : ℕ) (form body : List ℕ) (e : Entry) → IsReadEntry machines number form e → body ≡ head_bytes (head.Entry number) ++ form
    → body ≡ element_bytes (entry number e)
entry_body machines number form body e read is = is ∙ ap (λ (f : List ℕ). head_bytes (head.Entry number) ++ f) (sym read.form_is)

-- ---- what was refused

pub refused_head : (machines : List MachineValue) (before : List (List ℕ)) (body : List ℕ) → HasReplayed machines before → ((first : Head) → BeginsWith body first → ⊥) → CannotFollow before body
refused_head machines before body r none = record { book = r.book; legal = r.legal; bodies_are = r.bodies_are; cannot = no_head none }

pub refused_detail : (machines : List MachineValue) (before : List (List ℕ)) (body form : List ℕ) → HasReplayed machines before → body ≡ head_bytes head.Detail ++ form
    → ((book : List Element) → AreMachinesOf machines book → IsNoDetail book form) → CannotFollow before body
refused_detail machines before body form r is refused = record { book = r.book; legal = r.legal; bodies_are = r.bodies_are; cannot = bad_detail form is (refused r.book r.machines_are) }

pub refused_entry : (machines : List MachineValue) (before : List (List ℕ)) (body form : List ℕ) (number : ℕ) → HasReplayed machines before → number < 2 ^ 16
    → body ≡ head_bytes (head.Entry number) ++ form → ((book : List Element) → AreMachinesOf machines book → IsNoEntry book number form) → CannotFollow before body
refused_entry machines before body form number r short is refused =
    record { book = r.book; legal = r.legal; bodies_are = r.bodies_are; cannot = bad_entry number form short is (refused r.book r.machines_are) }

-- ---- what was gathered

module _ {H : Type 0} (keeps : H → List Entry → Type 0) where
  -- it was read, too
  pub gathered_read : (g : Gathering H) (bodies : List (List ℕ)) → HasGathered keeps g bodies → HasReplayed g.details bodies
  gathered_read g bodies r = record { book = elements_in g; legal = r.legal; bodies_are = r.bodies_are; machines_are = r.machines_are }

  pub gathered_detail : (old new : Gathering H) (before : List (List ℕ)) (body form : List ℕ) → HasGathered keeps old before → body ≡ head_bytes head.Detail ++ form
      → HasGatheredDetail old new form → HasGathered keeps new (before ++ body ∷ [])
  gathered_detail old new before body form r is g =
      let book = elements_in old in
      let now = began old.details new.details form book r.legal r.machines_are g.read in
      let more = one_more before body book (detail g.read.machine.plan) r.bodies_are (plan_body old.details new.details form body g.read is) in
      record {
        legal = subst IsLegalBook (sym g.marked) now.0;
        bodies_are = more ∙ ap bodies_of (sym g.marked);
        machines_are = subst (AreMachinesOf new.details) (sym g.marked) now.1;
        kept = subst (λ (b : List Element). keeps new.kept (history new.number b)) (sym g.marked)
            (subst (λ (h : H). keeps h (history new.number book)) (sym g.kept) (subst (λ (n : ℕ). keeps old.kept (history n book)) (sym g.number) r.kept));
        room = omega (arith, r.room, g.room);
      }

  pub gathered_entry : (old new : Gathering H) (before : List (List ℕ)) (body form : List ℕ) (number : ℕ) → HasGathered keeps old before
      → body ≡ head_bytes (head.Entry number) ++ form → HasGatheredEntry keeps old new number form → HasGathered keeps new (before ++ body ∷ [])
  gathered_entry old new before body form number r is g =
      let book = elements_in old in
      let now = took old.details new.details number form g.e book r.legal r.machines_are g.read g.taken in
      let more = one_more before body book (entry number g.e) r.bodies_are (entry_body old.details number form body g.e g.read is) in
      record {
        legal = subst IsLegalBook (sym g.marked) now.0;
        bodies_are = more ∙ ap bodies_of (sym g.marked);
        machines_are = subst (AreMachinesOf new.details) (sym g.marked) now.1;
        kept = subst (λ (b : List Element). keeps new.kept (history new.number b)) (sym g.marked)
            (subst (λ (n : ℕ). keeps new.kept (if nat_eq number n then g.e ∷ history n book else history n book)) (sym g.same) (g.kept (history old.number book) r.kept));
        room = omega (arith, r.room, g.room);
      }

-- ---- before anything was read

pub none_gathered : {H : Type 0} (keeps : H → List Entry → Type 0) (g : Gathering H) → g.details ≡ [] → g.marks.items ≡ [] → 67108864 ≤ vec_capacity g.marks → keeps g.kept []
    → HasGathered keeps g []
none_gathered keeps g none unmarked room kept =
    let empty : elements_in g ≡ [] = ap elements_shown unmarked in
    record {
      legal = subst IsLegalBook (sym empty) tt;
      bodies_are = ap bodies_of (sym empty);
      machines_are = subst (AreMachinesOf g.details) (sym empty) (none_yet g.details none);
      kept = subst (λ (b : List Element). keeps g.kept (history g.number b)) (sym empty) kept;
      room = room;
    }

-- what follows from what an answer that is Ok says
pub ok_so : {A B : Type 0} (r : Result A B) {P Q : Type 0} → (P → Q) → OnOk r P → OnOk r Q
ok_so (Ok a) follows is = follows is
ok_so (Err b) follows is = tt
