-- The histories of a legal book, and its size.
use Rattle.std.proofs.Common.{◌≡◌, ◌⊎◌, inl, inr, ℕ, zero, suc, ◌+◌, List, [], ◌∷◌, ◌++◌, length, Bool, true, false, Some, refl, sym, ap, ◌∙◌, subst, arith, length-append, slice_get}
use Rattle.std.specs.Prelude.{nat_eq, if◌then◌else◌}
use Rattle.std.specs.List.{flat_map}
use Rattle.std.proofs.lemmas.Bool.{eqb-true}
use Rattle.tf_flow.specs.Plan.{PlanValue}
use Rattle.tf_states.specs.declared.record.Entry.{Entry}
use Rattle.tf_journal.specs.Format.{OPEN, record_of, prefix_of, title_of}
use Rattle.tf_journal.specs.declared.title.Title.TheVariants.{Book2}
use Rattle.tf_journal.proofs.ReachLemmas.{flat_map-push, length-record_of}
use Rattle.tf_details.specs.Elements.{Element, detail, entry, details, plan_of, history, element_bytes, bodies_of, book_size, IsHistoryOf, MayBegin, MayFollow, IsLegalBook}
use Rattle.tf_details.proofs.ElementLemmas.{none_past}

-- ---- the element at a place

-- what stands at a place of a list that ends with one more: an older one, or that one
pub at_push : {A : Type 0} (xs : List A) (y : A) (n : ℕ) (x : A) → slice_get (xs ++ y ∷ []) n ≡ Some x → (slice_get xs n ≡ Some x) ⊎ ((n ≡ length xs) × (y ≡ x))
at_push [] y zero x is = inr (refl, (let same : y ≡ x = cc in same))
at_push [] y (suc n) x is = absurd (cc)
at_push (a ∷ xs) y zero x is = inl is
at_push (a ∷ xs) y (suc n) x is = elim (at_push xs y n x is) [
  | inl older ↦ inl older
  | inr last ↦ inr (ap suc last.0 ∙ omega arith, last.1)
]

-- an older one stands where it stood
pub at_older : {A : Type 0} (xs : List A) (y : A) (n : ℕ) (x : A) → slice_get xs n ≡ Some x → slice_get (xs ++ y ∷ []) n ≡ Some x
at_older [] y n x is = absurd (cc)
at_older (a ∷ xs) y zero x is = is
at_older (a ∷ xs) y (suc n) x is = at_older xs y n x is

-- the one more stands last
pub at_last : {A : Type 0} (xs : List A) (y : A) → slice_get (xs ++ y ∷ []) (length xs) ≡ Some y
at_last [] y = refl
at_last (a ∷ xs) y = ap (λ (n : ℕ). slice_get (a ∷ (xs ++ y ∷ [])) n) (let more : length (a ∷ xs) ≡ suc (length xs) = omega arith in more) ∙ at_last xs y

-- ---- histories

-- a plan that may begin has the empty history
begun : (before : List Element) (plan : PlanValue) → MayBegin before plan → IsHistoryOf plan []
begun before plan may = record { accepted = may.accepted; limits = may.limits; runs = may.runs; legal = tt; forms = tt }

-- a history with one entry more
followed : (before : List Element) (number : ℕ) (e : Entry) (plan : PlanValue) → MayFollow before number e → plan_of before number ≡ Some plan
    → IsHistoryOf plan (history number before) → IsHistoryOf plan (e ∷ history number before)
followed before number e plan may is h =
    let both : Some may.plan ≡ Some plan = sym may.of_detail ∙ is in
    let same : may.plan ≡ plan = cc in
    subst (λ (p : PlanValue). IsHistoryOf p (e ∷ history number before)) same (
    let own : IsHistoryOf may.plan (history number before) = subst (λ (p : PlanValue). IsHistoryOf p (history number before)) (sym same) h in
    record { accepted = own.accepted; limits = own.limits; runs = own.runs; legal = (may.step, own.legal); forms = (may.form, own.forms) }
    )

-- the history of a detail, whose last entry may be of another
follows : (before : List Element) (number : ℕ) (e : Entry) (n : ℕ) (plan : PlanValue) → MayFollow before number e → plan_of before n ≡ Some plan
    → IsHistoryOf plan (history n before) → (b : Bool) → nat_eq number n ≡ b → IsHistoryOf plan (if b then e ∷ history n before else history n before)
follows before number e n plan may is h true at =
    subst (λ (k : ℕ). MayFollow before k e → IsHistoryOf plan (e ∷ history n before)) (sym (eqb-true number n at)) (λ here. followed before n e plan here is h) may
follows before number e n plan may is h false at = h

-- the history of each detail
pub history_legal : (book : List Element) (n : ℕ) (plan : PlanValue) → IsLegalBook book → plan_of book n ≡ Some plan → IsHistoryOf plan (history n book)
history_legal [] n plan legal is = absurd (cc)
history_legal (detail p ∷ book) n plan legal is = elim (at_push (details book) p n plan is) [
  | inl older ↦ history_legal book n plan legal.1 older
  | inr last ↦ subst (λ (l : List Entry). IsHistoryOf plan l) (sym (none_past book n legal.1 (omega (arith, last.0)))) (subst (λ (q : PlanValue). IsHistoryOf q []) last.1 (begun book p legal.0))
]
history_legal (entry number e ∷ book) n plan legal is = follows book number e n plan legal.0 is (history_legal book n plan legal.1 is) (nat_eq number n) refl

-- ---- the size

records_size : (book : List Element) → length (flat_map record_of (bodies_of book)) + 18 ≡ book_size book
records_size [] = refl
records_size (element ∷ book) =
    omega (arith, records_size book, ap length (flat_map-push (bodies_of book) (element_bytes element)), length-append (flat_map record_of (bodies_of book)) (record_of (element_bytes element)), length-record_of (element_bytes element))

pub size_is : (book : List Element) → length (prefix_of Book2 (bodies_of book)) + 1 ≡ book_size book
size_is book = omega (arith, records_size book, length-append (OPEN ∷ title_of Book2) (flat_map record_of (bodies_of book)))
