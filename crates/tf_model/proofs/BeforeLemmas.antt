-- The order among atoms.
use Rattle.std.proofs.Common.{◌≡◌, ℕ, List, [], ◌∷◌, ◌++◌, Bool, true, false, Option, Some, None, refl, sym, ap, ◌∙◌, eqb-true, eq-eqb}
use Rattle.std.specs.Prelude.{if◌then◌else◌, nat_eq, reverse, filter, flat_map, cond}
use Rattle.std.specs.List.{list_all}
use Rattle.tf_flow.specs.declared.paths.Turn.{Turn}
use Rattle.tf_model.specs.Before.{Flow, item_before, turn_before, path_before}
use Rattle.tf_model.specs.Plan.{Outline, is_before, path}
use Rattle.tf_model.specs.Scope.{members, members_in, is_earlier}
use Rattle.tf_model.specs.Laws.{AreOrdered}
use Rattle.tf_numbers.proofs.TruthLemmas.{and_first, and_second, true_both, second_false}

-- ---- no atom is before itself

turn_itself : (flows : List Flow) (g : ℕ) (item : Option ℕ) (below : Bool) → below ≡ false → turn_before flows g item item below ≡ false
turn_itself flows g None below is = refl
turn_itself flows g (Some u) below is = rw (eq-eqb u u refl) is

pub path_itself : (flows : List Flow) (w : List Turn) → path_before flows w w ≡ false
path_itself flows [] = refl
path_itself flows (x ∷ xs) = second_false (nat_eq x.flow x.flow) _ (turn_itself flows x.flow x.item (path_before flows xs xs) (path_itself flows xs))

pub never_before_itself : (plan : Outline) (a : ℕ) → is_before plan a a ≡ false
unfolding is_before
never_before_itself plan a = path_itself plan.flows (path plan a)

-- ---- what is before an atom is before all that this is before

turn_chain_items : (flows : List Flow) (ordered : AreOrdered flows) (g u v w : ℕ) (xy yz xz : Bool) → (xy ≡ true → yz ≡ true → xz ≡ true)
    → (a : Bool) → nat_eq u v ≡ a → (b : Bool) → nat_eq v w ≡ b → (c : Bool) → nat_eq u w ≡ c
    → (if a then xy else item_before flows g u v) ≡ true → (if b then yz else item_before flows g v w) ≡ true → (if c then xz else item_before flows g u w) ≡ true
turn_chain_items flows ordered g u v w xy yz xz below true uv true vw true uw first second = below first second
turn_chain_items flows ordered g u v w xy yz xz below true uv true vw false uw first second =
    let same : nat_eq u w ≡ true = eq-eqb u w (eqb-true u v uv ∙ eqb-true v w vw) in let no : true ≡ false = sym same ∙ uw in absurd (cc)
turn_chain_items flows ordered g u v w xy yz xz below true uv false vw true uw first second =
    let same : nat_eq v w ≡ true = eq-eqb v w (sym (eqb-true u v uv) ∙ eqb-true u w uw) in let no : true ≡ false = sym same ∙ vw in absurd (cc)
turn_chain_items flows ordered g u v w xy yz xz below true uv false vw false uw first second =
    ap (λ (k : ℕ). item_before flows g k w) (eqb-true u v uv) ∙ second
turn_chain_items flows ordered g u v w xy yz xz below false uv true vw true uw first second =
    let same : nat_eq u v ≡ true = eq-eqb u v (eqb-true u w uw ∙ sym (eqb-true v w vw)) in let no : true ≡ false = sym same ∙ uv in absurd (cc)
turn_chain_items flows ordered g u v w xy yz xz below false uv true vw false uw first second =
    ap (λ (k : ℕ). item_before flows g u k) (sym (eqb-true v w vw)) ∙ first
turn_chain_items flows ordered g u v w xy yz xz below false uv false vw true uw first second =
    let back : item_before flows g u u ≡ true = ap (λ (k : ℕ). item_before flows g u k) (eqb-true u w uw) ∙ ordered.transitive g u v w first second in
    let no : true ≡ false = sym back ∙ ordered.irreflexive g u in absurd (cc)
turn_chain_items flows ordered g u v w xy yz xz below false uv false vw false uw first second = ordered.transitive g u v w first second

turn_chain : (flows : List Flow) → AreOrdered flows → (g : ℕ) (x y z : Option ℕ) (xy yz xz : Bool) → (xy ≡ true → yz ≡ true → xz ≡ true)
    → turn_before flows g x y xy ≡ true → turn_before flows g y z yz ≡ true → turn_before flows g x z xz ≡ true
turn_chain flows ordered g None None z xy yz xz below first second = absurd (cc)
turn_chain flows ordered g None (Some v) None xy yz xz below first second = absurd (cc)
turn_chain flows ordered g None (Some v) (Some w) xy yz xz below first second = refl
turn_chain flows ordered g (Some u) None z xy yz xz below first second = absurd (cc)
turn_chain flows ordered g (Some u) (Some v) None xy yz xz below first second = absurd (cc)
turn_chain flows ordered g (Some u) (Some v) (Some w) xy yz xz below first second =
    turn_chain_items flows ordered g u v w xy yz xz below (nat_eq u v) refl (nat_eq v w) refl (nat_eq u w) refl first second

pub path_chain : (flows : List Flow) → AreOrdered flows → (xs ys zs : List Turn) → path_before flows xs ys ≡ true → path_before flows ys zs ≡ true → path_before flows xs zs ≡ true
path_chain flows ordered [] ys zs first second = absurd (cc)
path_chain flows ordered (x ∷ xs) [] zs first second = absurd (cc)
path_chain flows ordered (x ∷ xs) (y ∷ ys) [] first second = absurd (cc)
path_chain flows ordered (x ∷ xs) (y ∷ ys) (z ∷ zs) first second =
    let xy : x.flow ≡ y.flow = eqb-true x.flow y.flow (and_first (nat_eq x.flow y.flow) _ first) in
    let yz : y.flow ≡ z.flow = eqb-true y.flow z.flow (and_first (nat_eq y.flow z.flow) _ second) in
    true_both (nat_eq x.flow z.flow) _ (eq-eqb x.flow z.flow (xy ∙ yz))
    (turn_chain flows ordered x.flow x.item y.item z.item (path_before flows xs ys) (path_before flows ys zs) (path_before flows xs zs) (path_chain flows ordered xs ys zs)
    (and_second (nat_eq x.flow y.flow) _ first)
    (ap (λ (g : ℕ). turn_before flows g y.item z.item (path_before flows ys zs)) xy ∙ and_second (nat_eq y.flow z.flow) _ second))

pub before_chain : (plan : Outline) → AreOrdered plan.flows → (a b c : ℕ) → is_before plan a b ≡ true → is_before plan b c ≡ true → is_before plan a c ≡ true
unfolding is_before
before_chain plan ordered a b c first second = path_chain plan.flows ordered (path plan a) (path plan b) (path plan c) first second

-- ---- the members of an atom are before it

filter_more : (test : ℕ → Bool) (x : ℕ) (ys : List ℕ) (b : Bool) → test x ≡ b → list_all test ys ≡ true → list_all test (cond b (x ∷ ys) ys) ≡ true
filter_more test x ys true is each = true_both (test x) _ is each
filter_more test x ys false is each = each

all_of_filter : (test : ℕ → Bool) (xs : List ℕ) → list_all test (filter test xs) ≡ true
all_of_filter test [] = refl
all_of_filter test (x ∷ xs) = filter_more test x (filter test xs) (test x) refl (all_of_filter test xs)

all_of_both : (test : ℕ → Bool) (xs ys : List ℕ) → list_all test xs ≡ true → list_all test ys ≡ true → list_all test (xs ++ ys) ≡ true
all_of_both test [] ys first second = second
all_of_both test (x ∷ xs) ys first second = true_both (test x) _ (and_first (test x) _ first) (all_of_both test xs ys (and_second (test x) _ first) second)

all_members : (plan : Outline) (y : ℕ) (turns : List Turn) → list_all (is_earlier plan y) (flat_map (members_in plan y) turns) ≡ true
all_members plan y [] = refl
all_members plan y (turn ∷ turns) = all_of_both (is_earlier plan y) (members_in plan y turn) _ (all_of_filter (is_earlier plan y) _) (all_members plan y turns)

pub members_before : (plan : Outline) (y : ℕ) → list_all (is_earlier plan y) (members plan y) ≡ true
unfolding members
members_before plan y = all_members plan y (reverse (path plan y))
