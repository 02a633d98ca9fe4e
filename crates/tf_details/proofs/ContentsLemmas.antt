-- What a book's file holds, after one entry more.
use Rattle.std.proofs.Common.{◌≡◌, ◌≤◌, ℕ, ◌+◌, List, [], ◌∷◌, length, Bool, true, false, refl, ◌∙◌, arith}
use Rattle.std.specs.Prelude.{map, nat_eq, if◌then◌else◌}
use Rattle.std.proofs.lemmas.Bool.{eqb-false}
use Rattle.std.proofs.lemmas.List.{length-map, length-reverse}
use Rattle.std.specs.declared.snapshot.Snapshot.{Snapshot}
use Rattle.tf_states.specs.declared.record.Entry.{Entry}
use Rattle.tf_flow.specs.Plan.{PlanValue}
use Rattle.tf_model.specs.History.{snapshot}
use Rattle.tf_model.specs.Plan.{outline_of}
use Rattle.tf_model.specs.Steps.{Step}
use Rattle.tf_details.specs.Elements.{Element, detail, entry, history, book_size, IsForm, Contents, with_entries, past_of, IsContents}
use Rattle.tf_details.specs.Marks.{element_shown, elements_shown}
use Rattle.tf_details.specs.declared.marks.Mark.{Mark}

-- a number is itself
same_number : (n : ℕ) → nat_eq n n ≡ true
same_number n = by (nat_eq n n) refl
  where
    by : (b : Bool) → nat_eq n n ≡ b → nat_eq n n ≡ true
    by true is = is
    by false is = absurd (eqb-false n n is refl)

-- an entry of the detail is the newest of its history
own : (b : Bool) (e : Entry) (past : List Entry) → b ≡ true → (if b then e ∷ past else past) ≡ e ∷ past
own true e past is = refl
own false e past is = absurd (cc)

pub past_on : (contents : Contents) (e : Entry) → past_of (with_entries contents (e ∷ [])) ≡ e ∷ past_of contents
past_on contents e = own (nat_eq contents.number contents.number) e (past_of contents) (same_number contents.number)

-- the contents with an entry that may follow
pub contents_on : (plan : PlanValue) (contents : Contents) (e : Entry) → IsContents plan contents
    → Step (outline_of plan) (snapshot (outline_of plan) (past_of contents)) e → IsForm e → IsContents plan (with_entries contents (e ∷ []))
contents_on plan contents e is step form = record {
  legal = (record { plan = plan; of_detail = is.of_detail; step = step; form = form }, is.legal);
  of_detail = is.of_detail;
}

-- each element takes a byte at least
pub elements_long : (elements : List Element) → length elements ≤ book_size elements
elements_long [] = omega arith
elements_long (x ∷ elements) = omega (arith, elements_long elements)

-- an entry more, if it is one of the detail
one_more : (b : Bool) (e : Entry) (past : List Entry) → length (if b then e ∷ past else past) ≤ length past + 1
one_more true e past = omega arith
one_more false e past = omega arith

-- the history of a detail has no more entries than the book has elements
history_many : (number : ℕ) (elements : List Element) → length (history number elements) ≤ length elements
history_many number [] = omega arith
history_many number (detail plan ∷ before) = omega (arith, history_many number before)
history_many number (entry its e ∷ before) = omega (arith, history_many number before, one_more (nat_eq its number) e (history number before))

pub history_short : (number : ℕ) (elements : List Element) → length (history number elements) ≤ book_size elements
history_short number elements = omega (arith, history_many number elements, elements_long elements)

-- as many elements as marks
pub elements_many : (marks : List (Snapshot Mark)) → length (elements_shown marks) ≡ length marks
elements_many marks = length-reverse (map element_shown marks) ∙ length-map marks element_shown
