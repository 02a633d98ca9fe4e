-- A list of atoms that isn't empty has a last and a first one.
use Rattle.std.proofs.Common.{◌≡◌, ℕ, List, [], ◌∷◌, Bool, true, false, not, refl, sym, ◌∙◌, eq-eqb}
use Rattle.std.specs.Prelude.{nat_eq}
use Rattle.std.specs.List.{list_all}
use Rattle.tf_model.specs.Plan.{Outline, is_before}
use Rattle.tf_model.specs.Scope.{is_earlier}
use Rattle.tf_model.specs.Laws.{AreOrdered, is_not_after, Extreme}
use Rattle.tf_numbers.proofs.TruthLemmas.{and_first, and_second, true_first, true_second, true_both, not_true}
use Rattle.tf_model.proofs.BeforeLemmas.{never_before_itself, before_chain}

none : (b : Bool) → b ≡ false → not b ≡ true
none false is = refl
none true is = absurd (cc)

-- what is after none of them, or else after m, is passed on to what is after m
one_beyond : (below beyond : Bool) → (beyond ≡ true → below ≡ true) → not below ≡ true → not beyond ≡ true
one_beyond below false leads is = refl
one_beyond below true leads is = let no : true ≡ false = sym (leads refl) ∙ not_true below is in absurd (cc)

all_beyond : (less : ℕ → ℕ → Bool) → ((a b c : ℕ) → less a b ≡ true → less b c ≡ true → less a c ≡ true) → (m a : ℕ) → less m a ≡ true
    → (ys : List ℕ) → list_all (is_not_after less m) ys ≡ true → list_all (is_not_after less a) ys ≡ true
all_beyond less chain m a under [] is = refl
all_beyond less chain m a under (y ∷ ys) is =
    true_both (not (less a y)) _
    (one_beyond (less m y) (less a y) (chain m a y under) (and_first (not (less m y)) _ is))
    (all_beyond less chain m a under ys (and_second (not (less m y)) _ is))

further : (less : ℕ → ℕ → Bool) → ((a b c : ℕ) → less a b ≡ true → less b c ≡ true → less a c ≡ true) → ((a : ℕ) → less a a ≡ false)
    → (a : ℕ) (ys : List ℕ) (tail : Extreme less ys) (b : Bool) → less tail.atom a ≡ b → Extreme less (a ∷ ys)
further less chain strict a ys tail true is = record {
  atom = a;
  among = true_first (nat_eq a a) _ (eq-eqb a a refl);
  extreme = true_both (not (less a a)) _ (none (less a a) (strict a)) (all_beyond less chain tail.atom a is ys tail.extreme);
}
further less chain strict a ys tail false is = record {
  atom = tail.atom;
  among = true_second (nat_eq tail.atom a) _ tail.among;
  extreme = true_both (not (less tail.atom a)) _ (none (less tail.atom a) is) tail.extreme;
}

extreme_of : (less : ℕ → ℕ → Bool) → ((a b c : ℕ) → less a b ≡ true → less b c ≡ true → less a c ≡ true) → ((a : ℕ) → less a a ≡ false)
    → (a : ℕ) (others : List ℕ) → Extreme less (a ∷ others)
extreme_of less chain strict a [] = record {
  atom = a;
  among = true_first (nat_eq a a) _ (eq-eqb a a refl);
  extreme = true_both (not (less a a)) _ (none (less a a) (strict a)) refl;
}
extreme_of less chain strict a (b ∷ others) =
    let tail = extreme_of less chain strict b others in further less chain strict a (b ∷ others) tail (less tail.atom a) refl

pub last_of : (plan : Outline) → AreOrdered plan.flows → (a : ℕ) (others : List ℕ) → Extreme (is_before plan) (a ∷ others)
last_of plan ordered a others = extreme_of (is_before plan) (before_chain plan ordered) (never_before_itself plan) a others

earlier_chain : (plan : Outline) → AreOrdered plan.flows → (a b c : ℕ) → is_earlier plan a b ≡ true → is_earlier plan b c ≡ true → is_earlier plan a c ≡ true
earlier_chain plan ordered a b c first second = before_chain plan ordered c b a second first

pub first_of : (plan : Outline) → AreOrdered plan.flows → (a : ℕ) (others : List ℕ) → Extreme (is_earlier plan) (a ∷ others)
first_of plan ordered a others = extreme_of (is_earlier plan) (earlier_chain plan ordered) (never_before_itself plan) a others
