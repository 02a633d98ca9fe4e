-- Truth values.
use Rattle.std.proofs.Common.{◌≡◌, Bool, true, false, not, ◌&&◌, ◌||◌, refl, sym, ◌∙◌, ◌⊎◌, inl, inr}

-- ---- one value

-- it is the same as another where each follows from the other
pub same_truth : (a b : Bool) → (a ≡ true → b ≡ true) → (b ≡ true → a ≡ true) → a ≡ b
same_truth true b to from = sym (to refl)
same_truth false true to from = from refl
same_truth false false to from = refl

pub never_true : (b : Bool) → (b ≡ true → ⊥) → b ≡ false
never_true true no_way = absurd (no_way refl)
never_true false no_way = refl

pub clash : (b : Bool) → b ≡ true → b ≡ false → ⊥
clash b is isnt = let no : true ≡ false = sym is ∙ isnt in cc

pub either_way : (b : Bool) → (b ≡ true) ⊎ (b ≡ false)
either_way true = inl refl
either_way false = inr refl

pub not_true : (b : Bool) → not b ≡ true → b ≡ false
not_true true is = absurd (cc)
not_true false is = refl

-- ---- both

pub true_both : (a b : Bool) → a ≡ true → b ≡ true → a && b ≡ true
true_both true b is more = more
true_both false b is more = absurd (cc)

pub and_first : (a b : Bool) → a && b ≡ true → a ≡ true
and_first true b is = refl
and_first false b is = is

pub and_second : (a b : Bool) → a && b ≡ true → b ≡ true
and_second true b is = is
and_second false b is = cc

pub first_false : (a b : Bool) → a ≡ false → a && b ≡ false
first_false true b is = absurd (cc)
first_false false b is = refl

pub second_false : (a b : Bool) → b ≡ false → a && b ≡ false
second_false true b is = is
second_false false b is = refl

pub and_true : (b : Bool) → b && true ≡ b
and_true true = refl
and_true false = refl

pub and_false : (b : Bool) → b && false ≡ false
and_false true = refl
and_false false = refl

-- ---- one of two

pub true_first : (a b : Bool) → a ≡ true → a || b ≡ true
true_first true b is = refl
true_first false b is = absurd (cc)

pub true_second : (a b : Bool) → b ≡ true → a || b ≡ true
true_second true b is = refl
true_second false b is = is

pub or_either : (a b : Bool) → a || b ≡ true → (a ≡ true) ⊎ (b ≡ true)
or_either true b is = inl refl
or_either false b is = inr is

pub neither : (a b : Bool) → a ≡ false → b ≡ false → a || b ≡ false
neither true b first second = absurd (cc)
neither false b first second = second

pub neither_first : (a b : Bool) → a || b ≡ false → a ≡ false
neither_first true b is = absurd (cc)
neither_first false b is = refl

pub neither_second : (a b : Bool) → a || b ≡ false → b ≡ false
neither_second true b is = absurd (cc)
neither_second false b is = is

pub or_false : (b : Bool) → b || false ≡ b
or_false true = refl
or_false false = refl

pub or_true : (b : Bool) → b || true ≡ true
or_true true = refl
or_true false = refl

pub only_first : (b : Bool) → b || false ≡ true → b ≡ true
only_first true is = refl
only_first false is = is

-- nothing is added by a second that is false
pub or_nothing : (a b : Bool) → b ≡ false → a ≡ a || b
or_nothing true b is = refl
or_nothing false b is = sym is

pub or_turn : (a b : Bool) → a || b ≡ b || a
or_turn true true = refl
or_turn true false = refl
or_turn false true = refl
or_turn false false = refl

pub or_chain : (a b c : Bool) → a || (b || c) ≡ (a || b) || c
or_chain true b c = refl
or_chain false b c = refl

pub or_of_not : (a b : Bool) → (a ≡ true → b ≡ true) → not a || b ≡ true
or_of_not true b gives = gives refl
or_of_not false b gives = refl

-- ---- both and one of two

pub and_spread : (a b c : Bool) → (a && b) || (a && c) ≡ a && (b || c)
and_spread true b c = refl
and_spread false b c = refl

pub or_spread : (a b c d : Bool) → (a || (b && c)) || (b && d) ≡ a || (b && (c || d))
or_spread true b c d = refl
or_spread false true c d = refl
or_spread false false c d = refl

-- what holds of truth values as it stands
pub ruleset truth = (true_both, and_first, and_second, true_first, true_second, never_true)
