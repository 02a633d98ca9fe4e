-- Options.
use Rattle.std.proofs.Common.{◌≡◌, ℕ, Bool, true, false, Option, Some, None, refl, ap, ◌⊎◌, inl, inr, eqb-true}
use Rattle.std.specs.Prelude.{if◌then◌else◌, option_map}
use Rattle.std.specs.Option.{option_or}
use Rattle.tf_numbers.specs.Numbers.{is_number}

-- what is there on a condition
pub if_some : {X : Type 0} (b : Bool) (v w : X) → (if b then Some v else None) ≡ Some w → (b ≡ true) × (v ≡ w)
if_some true v w is = (refl, cc)
if_some false v w is = absurd (cc)

pub only_if : {X : Type 0} (b : Bool) (x : Option X) (w : X) → (if b then x else None) ≡ Some w → (b ≡ true) × (x ≡ Some w)
only_if true x w is = (refl, is)
only_if false x w is = absurd (cc)

-- the first of two that is there
pub or_none : {X : Type 0} (o : Option X) → option_or o None ≡ o
or_none None = refl
or_none (Some x) = refl

pub option_either : {X : Type 0} (x y : Option X) (w : X) → option_or x y ≡ Some w → (x ≡ Some w) ⊎ (y ≡ Some w)
option_either None y w is = inr is
option_either (Some v) y w is = inl is

-- neither of two is there
pub neither_there : {X : Type 0} (x y : Option X) → option_or x y ≡ None → (x ≡ None) × (y ≡ None)
neither_there None y is = (refl, is)
neither_there (Some v) y is = absurd (cc)

-- what is made of nothing
pub none_mapped : {X Y : Type 0} (f : X → Y) (o : Option X) → option_map f o ≡ None → o ≡ None
none_mapped f None is = refl
none_mapped f (Some x) is = absurd (cc)

-- what isn't there on a condition
pub none_if : {X : Type 0} (b : Bool) (x : X) → (if b then Some x else None) ≡ None → b ≡ false
none_if true x is = absurd (cc)
none_if false x is = refl

-- a number that is this one
pub is_this_number : (o : Option ℕ) (n : ℕ) → is_number o n ≡ true → o ≡ Some n
is_this_number None n is = absurd (cc)
is_this_number (Some m) n is = ap Some (eqb-true m n is)
