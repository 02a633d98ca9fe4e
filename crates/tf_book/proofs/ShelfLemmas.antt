-- What a shelf has: no detail yet, or the list of its details.
use Rattle.std.proofs.Common.{◌≡◌, ℕ, ◌+◌, true, false, List, [], ◌∷◌, ◌++◌, length, drop, Option, Some, None, refl, sym, ap, ◌∙◌, arith, append_assoc}
use Rattle.std.specs.Prelude.{slice_get, option_map}
use Rattle.std.proofs.lemmas.List.{drop_more}
use Rattle.std.proofs.lemmas.Option.{slice_get_within, get_or_from_slice_get}
use Rattle.tf_numbers.proofs.TruthLemmas.{clash}
use Rattle.tf_desk.specs.State.{DeskState}
use Rattle.tf_flow.specs.Plan.{PlanValue}
use Rattle.tf_states.specs.declared.state.FlowState.{FlowState}
use Rattle.tf_journal.specs.Format.{Held}
use Rattle.tf_journal.specs.declared.title.Title.TheVariants.{Book2 as book_title}
use Rattle.tf_model.specs.History.{flow_of}
use Rattle.tf_details.specs.Elements.{Element, details, plan_of, history, detail_name, element_bytes, bodies_of, book_size}
use Rattle.tf_book.specs.Shelf.{HoldsElements}
use Rattle.tf_book.specs.Book.{listed_from, listed}
use Rattle.tf_book.specs.declared.shelf.Detail.{Detail}

-- ---- no detail yet

not_empty : {A : Type 0} (xs ys : List A) (x : A) → xs ++ x ∷ ys ≡ [] → ⊥
not_empty [] ys x is = cc
not_empty (y ∷ xs) ys x is = cc

-- no body, so no element
pub no_elements : (elements : List Element) → [] ≡ bodies_of elements → elements ≡ []
no_elements [] are = refl
no_elements (element ∷ before) are = absurd (not_empty (bodies_of before) [] (element_bytes element) (sym are))

-- a journal without a body that keeps nothing has no element
pub holds_none : {K : Type 0} (state : K → DeskState) (journal : Held K) (elements : List Element) → elements ≡ [] → journal.title ≡ book_title → journal.size ≡ 18
    → journal.halted ≡ false → journal.volatile ≡ true → HoldsElements state journal elements
holds_none state journal elements none titled size sound volatile = record {
  title = titled;
  sound = sound;
  size = size ∙ ap book_size (sym none);
  limit = omega (arith, size);
  none_kept = λ keeps_nothing. none;
  ready = λ opened. absurd (clash journal.volatile volatile opened.kept);
}

-- ---- the list of the details

-- a plan at a place stands before those behind it
first_at : (plans : List PlanValue) (n : ℕ) (plan : PlanValue) → slice_get plans n ≡ Some plan → drop n plans ≡ plan ∷ drop (n + 1) plans
first_at plans n plan is =
    drop_more plans n plan (slice_get_within plans n plan is) ∙ ap (λ (p : PlanValue). p ∷ drop (n + 1) plans) (get_or_from_slice_get plans n plan plan is)

-- it has as many as there are plans
listed_many : (elements : List Element) (n : ℕ) (plans : List PlanValue) → length (listed_from elements n plans) ≡ length plans
listed_many elements n [] = refl
listed_many elements n (plan ∷ plans) = omega (arith, listed_many elements (n + 1) plans)

pub listed_long : (elements : List Element) → length (listed elements) ≡ length (details elements)
listed_long elements = listed_many elements 0 (details elements)

-- one detail more of the list
pub listed_on : (elements : List Element) (n : ℕ) (made : List Detail) (name : List ℕ) (state : FlowState) → option_map detail_name (plan_of elements n) ≡ Some name
    → state ≡ flow_of (history n elements) → made ++ listed_from elements n (drop n (details elements)) ≡ listed elements
    → (made ++ record { name = name; state = state } ∷ []) ++ listed_from elements (n + 1) (drop (n + 1) (details elements)) ≡ listed elements
listed_on elements n made name state named told so_far = by (plan_of elements n) refl named
  where
    rest : List Detail
    rest = listed_from elements (n + 1) (drop (n + 1) (details elements))

    by : (found : Option PlanValue) → plan_of elements n ≡ found → option_map detail_name found ≡ Some name
        → (made ++ record { name = name; state = state } ∷ []) ++ rest ≡ listed elements
    by None is same = absurd (cc)
    by (Some plan) is same =
        let own : detail_name plan ≡ name = cc in
        append_assoc made (record { name = name; state = state } ∷ []) rest
        ∙ ap (λ (s : FlowState). made ++ (record { name = name; state = s } ∷ rest)) told
        ∙ ap (λ (l : List ℕ). made ++ (record { name = l; state = flow_of (history n elements) } ∷ rest)) (sym own)
        ∙ ap (λ (plans : List PlanValue). made ++ listed_from elements n plans) (sym (first_at (details elements) n plan is))
        ∙ so_far
