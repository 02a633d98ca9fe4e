-- Numbers by name, one number at a time.
use Rattle.tf_flow.specs.Paths.{shown_part}
use Rattle.std.proofs.Common.{◌≡◌, ℕ, zero, suc, ◌+◌, ◌-◌, ◌<◌, ◌≤◌, List, [], ◌∷◌, ◌++◌, map, take, length, Bool, true, false, cond, Option, Some, refl, sym, ap, ◌∙◌, add-one, arith, slice_get, get_or, eq-eqb, eqb-true}
use Rattle.std.specs.Prelude.{nat_eq, if◌then◌else◌}
use Rattle.tf_flow.specs.declared.atoms.Provides.{Provides}
use Rattle.tf_flow.specs.Limits.{provided}
use Rattle.tf_flow.specs.Tree.{same_name, is_among}
use Rattle.tf_flow.proofs.NameLemmas.{any_push, any_more}
use Rattle.tf_model.specs.Before.{provides_at}
use Rattle.tf_numbers.specs.Numbers.{is_number, which_below}
use Rattle.tf_flow.specs.Outline.{provided_by}
use Rattle.tf_flow.specs.declared.listing.AtomPlace.{AtomPlace}
use Rattle.tf_flow.specs.declared.listing.ItemPlace.{ItemPlace}
use Rattle.tf_order.specs.Index.{add_once, ends_with, is_named_at}
use Rattle.tf_flow.specs.Listing.{shown_atoms, shown_item}
use Rattle.tf_numbers.proofs.TruthLemmas.{never_true}
use Rattle.tf_numbers.proofs.ListLemmas.{nothing_after, last_pushed, length_more}

-- the last number is the one that is added
pub once_same : (numbers : List ℕ) (n : ℕ) → slice_get numbers (length numbers - 1) ≡ Some n → numbers ≡ add_once numbers n
once_same numbers n is = sym (ap (λ (b : Bool). if b then numbers else numbers ++ n ∷ []) (ap (λ (o : Option ℕ). is_number o n) is ∙ eq-eqb n n refl))

-- ---- the last of some numbers

pub ends_pushed : (xs : List ℕ) (x n : ℕ) → ends_with (xs ++ x ∷ []) n ≡ nat_eq x n
ends_pushed xs x n =
    let at : length (xs ++ x ∷ []) - 1 ≡ length xs = omega (arith, length_more xs x) in
    ap (λ (k : ℕ). is_number (slice_get (xs ++ x ∷ []) k) n) at ∙ ap (λ (o : Option ℕ). is_number o n) (last_pushed xs x)

-- what was added once isn't added again
once_twice : (xs : List ℕ) (n : ℕ) → add_once (add_once xs n) n ≡ add_once xs n
once_twice xs n = by_last (ends_with xs n) refl
  where
    by_last : (b : Bool) → ends_with xs n ≡ b → add_once (if b then xs else xs ++ n ∷ []) n ≡ (if b then xs else xs ++ n ∷ [])
    by_last true is = ap (λ (b : Bool). if b then xs else xs ++ n ∷ []) is
    by_last false is = ap (λ (b : Bool). if b then xs ++ n ∷ [] else (xs ++ n ∷ []) ++ n ∷ []) (ends_pushed xs n n ∙ eq-eqb n n refl)

last_or_not : (m n : ℕ) (test : ℕ → Bool) (b : Bool) → m < n → ends_with (which_below m test) n ≡ false → ends_with (which_below m test ++ (if b then m ∷ [] else [])) n ≡ false
last_or_not m n test true below others = ends_pushed (which_below m test) m n ∙ never_true (nat_eq m n) (λ same. let e : m ≡ n = eqb-true m n same in omega (arith, e, below))
last_or_not m n test false below others = ap (λ (xs : List ℕ). ends_with xs n) (nothing_after (which_below m test)) ∙ others

-- numbers below another don't end with it
pub not_last : (m n : ℕ) (test : ℕ → Bool) → m ≤ n → ends_with (which_below m test) n ≡ false
not_last zero n test below = refl
not_last (suc m) n test below = last_or_not m n test (test m) (omega (arith, below)) (not_last m n test (omega (arith, below)))

-- one number more that passes or doesn't
which_more : (n : ℕ) (test : ℕ → Bool) → (if test n then add_once (which_below n test) n else which_below n test) ≡ which_below (n + 1) test
which_more n test = rw (add-one n) (by_test (test n))
  where
    by_test : (b : Bool) → (if b then add_once (which_below n test) n else which_below n test) ≡ which_below n test ++ (if b then n ∷ [] else [])
    by_test true = ap (λ (b : Bool). if b then which_below n test else which_below n test ++ n ∷ []) (not_last n n test (omega arith))
    by_test false = sym (nothing_after (which_below n test))

-- ---- atoms and items

lists_at : (xs : List AtomPlace) (n : ℕ) (atom : AtomPlace) (symbol : List ℕ) → n < length xs → atom ≡ get_or xs n atom → is_among (provided (provided_by (shown_part atom.part))) symbol ≡ provides_at (shown_atoms xs) symbol n
lists_at [] n atom symbol below is = absurd (omega arith)
lists_at (x ∷ xs) zero atom symbol below is = ap (λ (a : AtomPlace). is_among (provided (provided_by (shown_part a.part))) symbol) is
lists_at (x ∷ xs) (suc n) atom symbol below is = lists_at xs n atom symbol (omega arith) is

pub provides_more : (xs : List AtomPlace) (n : ℕ) (atom : AtomPlace) (provides : Provides) (symbol old new : List ℕ) → n < length xs → atom ≡ get_or xs n atom
    → provides ≡ provided_by (shown_part atom.part)
    → old ≡ which_below n (provides_at (shown_atoms xs) symbol) → new ≡ (if is_among (provided provides) symbol then add_once old n else old)
    → new ≡ which_below (n + 1) (provides_at (shown_atoms xs) symbol)
provides_more xs n atom provides symbol old new below is read was added =
    added
    ∙ (ap (λ (p : Provides). if is_among (provided p) symbol then add_once old n else old) read
    ∙ (ap (λ (b : Bool). if b then add_once old n else old) (lists_at xs n atom symbol below is)
    ∙ (ap (λ (ys : List ℕ). if provides_at (shown_atoms xs) symbol n then add_once ys n else ys) was
    ∙ which_more n (provides_at (shown_atoms xs) symbol))))

named_at : (xs : List ItemPlace) (u : ℕ) (item : ItemPlace) (name : List ℕ) → u < length xs → item ≡ get_or xs u item → same_name item.name name ≡ is_named_at (map shown_item xs) name u
named_at [] u item name below is = absurd (omega arith)
named_at (x ∷ xs) zero item name below is = ap (λ (i : ItemPlace). same_name i.name name) is
named_at (x ∷ xs) (suc u) item name below is = named_at xs u item name (omega arith) is

pub named_more : (xs : List ItemPlace) (u : ℕ) (item : ItemPlace) (name old new : List ℕ) → u < length xs → item ≡ get_or xs u item
    → old ≡ which_below u (is_named_at (map shown_item xs) name) → new ≡ (if same_name item.name name then add_once old u else old)
    → new ≡ which_below (u + 1) (is_named_at (map shown_item xs) name)
named_more xs u item name old new below is was added =
    added
    ∙ (ap (λ (b : Bool). if b then add_once old u else old) (named_at xs u item name below is)
    ∙ (ap (λ (ys : List ℕ). if is_named_at (map shown_item xs) name u then add_once ys u else ys) was
    ∙ which_more u (is_named_at (map shown_item xs) name)))

-- one name more among those whose numbers were added
pub among_more : (names : List (List ℕ)) (i n : ℕ) (more name old now new : List ℕ) → i < length names → more ≡ get_or names i more
    → now ≡ (if is_among (take i names) name then add_once old n else old) → new ≡ (if same_name more name then add_once now n else now)
    → new ≡ (if is_among (take (i + 1) names) name then add_once old n else old)
among_more names i n more name old now new below is was added =
    added ∙ (ap (λ (xs : List ℕ). if same_name more name then add_once xs n else xs) was
    ∙ (by_two (same_name more name) (is_among (take i names) name)
    ∙ ap (λ (b : Bool). if b then add_once old n else old) (any_more names i more name below is)))
  where
    by_two : (a b : Bool) → (if a then add_once (if b then add_once old n else old) n else (if b then add_once old n else old)) ≡ (if cond a true b then add_once old n else old)
    by_two true true = once_twice old n
    by_two true false = refl
    by_two false b = refl

-- one name alone
pub one_provided : (only name old new : List ℕ) (n : ℕ) → new ≡ (if same_name only name then add_once old n else old) → new ≡ (if is_among (only ∷ []) name then add_once old n else old)
one_provided only name old new n added = added ∙ ap (λ (b : Bool). if b then add_once old n else old) (alone (same_name only name) ∙ sym (any_push [] only name))
  where
    alone : (b : Bool) → b ≡ cond b true false
    alone true = refl
    alone false = refl
