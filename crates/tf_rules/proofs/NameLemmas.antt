-- A name tells the number of an atom.
use Rattle.std.proofs.Common.{◌≡◌, ℕ, zero, suc, ◌+◌, List, [], ◌∷◌, ◌++◌, map, Bool, true, false, cond, Option, Some, None, refl, sym, ap, ◌∙◌, arith, position, slice_get}
use Rattle.std.specs.Prelude.{option_map}
use Rattle.std.specs.Option.{option_or}
use Rattle.std.specs.List.{position_from}
use Rattle.std.specs.Cmp.Lexicographic.{bytes_decides}
use Rattle.std.proofs.lemmas.Iterator.Adapters.{position_from-zero}
use Rattle.std.proofs.lemmas.List.Folds.{list_any-append}
use Rattle.tf_numbers.proofs.TruthLemmas.{neither_first, neither_second}
use Rattle.tf_flow.specs.declared.faults.PlanFault.TheVariants as fault
use Rattle.tf_flow.specs.Limits.{capped, too_large}
use Rattle.tf_flow.specs.Tree.{same_name, is_among, first_again, first_again_after, name_at, tree_order, tree_of, nesting}
use Rattle.tf_flow.specs.Plan.{PlanValue, atoms}
use Rattle.tf_flow.specs.Rules.{first_refusal, duplicate, empty, broken_rule}
use Rattle.tf_flow.proofs.NameLemmas.{atoms_once}

or_none_second : {X : Type 0} (o p : Option X) → option_or o p ≡ None → p ≡ None
or_none_second None p is = is
or_none_second (Some x) p is = absurd (cc)

or_none_first : {X : Type 0} (o p : Option X) → option_or o p ≡ None → o ≡ None
or_none_first None p is = refl
or_none_first (Some x) p is = absurd (cc)

map_none : {X Y : Type 0} (f : X → Y) (o : Option X) → option_map f o ≡ None → o ≡ None
map_none f None is = refl
map_none f (Some x) is = absurd (cc)

-- no two atoms of a plan have one name
pub names_once : (plan : PlanValue) → first_refusal plan.root plan.store ≡ None → first_again same_name (atoms plan) ≡ None
names_once plan accepted =
    let rules = or_none_second (too_large (capped (nesting (tree_of plan.root))) (tree_order plan.root) plan.store) (broken_rule plan.root.name plan.store (tree_order plan.root)) accepted in
    let after_empty = or_none_second (empty (tree_order plan.root)) _ rules in
    let once = or_none_first (duplicate (tree_order plan.root)) _ after_empty in
    atoms_once (tree_order plan.root) (map_none (λ name. fault.Duplicate name) (first_again same_name (map name_at (tree_order plan.root))) once)

pub itself : (name : List ℕ) → same_name name name ≡ true
itself name = (bytes_decides name name).1 refl

none_first : {X : Type 0} (b : Bool) (x : X) (o : Option X) → cond b (Some x) o ≡ None → b ≡ false
none_first true x o is = absurd (cc)
none_first false x o is = refl

none_second : {X : Type 0} (b : Bool) (x : X) (o : Option X) → cond b (Some x) o ≡ None → o ≡ None
none_second true x o is = absurd (cc)
none_second false x o is = is

-- what stands later isn't among what was seen
not_seen : (seen names : List (List ℕ)) (k : ℕ) (name : List ℕ) → first_again_after same_name seen names ≡ None → slice_get names k ≡ Some name → is_among seen name ≡ false
not_seen seen [] k name once is = absurd (cc)
not_seen seen (x ∷ xs) zero name once is = let same : x ≡ name = cc in ap (is_among seen) (sym same) ∙ none_first (is_among seen x) x _ once
not_seen seen (x ∷ xs) (suc k) name once is =
    neither_first (is_among seen name) (is_among (x ∷ []) name)
    (sym (list_any-append (same_name name) seen (x ∷ [])) ∙ not_seen (seen ++ x ∷ []) xs k name (none_second (is_among seen x) x _ once) is)

not_first : (seen xs : List (List ℕ)) (x : List ℕ) (k : ℕ) (name : List ℕ) → first_again_after same_name (seen ++ x ∷ []) xs ≡ None → slice_get xs k ≡ Some name → same_name name x ≡ false
not_first seen xs x k name once is =
    neither_first (same_name name x) false
    (neither_second (is_among seen name) (is_among (x ∷ []) name) (sym (list_any-append (same_name name) seen (x ∷ [])) ∙ not_seen (seen ++ x ∷ []) xs k name once is))

position_later : (seen names : List (List ℕ)) (i k : ℕ) (name : List ℕ) → first_again_after same_name seen names ≡ None → slice_get names k ≡ Some name → position_from (same_name name) i names ≡ Some (i + k)
position_later seen [] i k name once is = absurd (cc)
position_later seen (x ∷ xs) i zero name once is =
    let same : x ≡ name = cc in
    let here : i ≡ i + 0 = omega arith in
    ap (λ (b : Bool). cond b (Some i) (position_from (same_name name) (i + 1) xs)) (ap (same_name name) same ∙ itself name) ∙ ap Some here
position_later seen (x ∷ xs) i (suc k) name once is =
    let rest = none_second (is_among seen x) x _ once in
    let later : (i + 1) + k ≡ i + suc k = omega arith in
    ap (λ (b : Bool). cond b (Some i) (position_from (same_name name) (i + 1) xs)) (not_first seen xs x k name rest is)
    ∙ (position_later (seen ++ x ∷ []) xs (i + 1) k name rest is ∙ ap Some later)

-- the name of an atom is first found at its number
pub named_at : (plan : PlanValue) (k : ℕ) (name : List ℕ) → first_refusal plan.root plan.store ≡ None → slice_get (atoms plan) k ≡ Some name → position (same_name name) (atoms plan) ≡ Some k
named_at plan k name accepted is =
    let same : 0 + k ≡ k = omega arith in
    position_from-zero (same_name name) (atoms plan) ∙ (position_later [] (atoms plan) 0 k name (names_once plan accepted) is ∙ ap Some same)
