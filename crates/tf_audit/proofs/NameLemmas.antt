-- A name tells the number of an atom or a flow.
use Rattle.std.proofs.Common.{◌≡◌, ℕ, zero, suc, ◌+◌, ◌<◌, List, [], ◌∷◌, ◌++◌, length, take, get_or, map, filter, Bool, true, false, ◌||◌, cond, Option, Some, None, refl, sym, ap, ◌∙◌, arith, append-nil, append_assoc, position, slice_get}
use Rattle.std.specs.Prelude.{option_map, is_some, IfSome}
use Rattle.std.specs.Option.{option_or}
use Rattle.std.specs.List.{list_any, position_from}
use Rattle.std.specs.Cmp.Lexicographic.{bytes_decides}
use Rattle.std.proofs.lemmas.Iterator.Adapters.{position_from-zero}
use Rattle.std.proofs.lemmas.List.Folds.{list_any-append}
use Rattle.std.proofs.lemmas.Bool.{false≢true}
use Rattle.std.proofs.lemmas.List.{take_more}
use Rattle.std.proofs.lemmas.Option.{slice_get-get_or, slice_get_within, get_or_from_slice_get}
use Rattle.tf_numbers.proofs.TruthLemmas.{true_first, true_second, neither_first, neither_second}
use Rattle.tf_values.specs.Text.{is_name}
use Rattle.tf_flow.specs.declared.faults.PlanFault.TheVariants as fault
use Rattle.tf_flow.specs.Limits.{capped, too_large}
use Rattle.tf_flow.specs.Tree.{same_name, is_among, first_again, first_again_after, Place, name_at, is_atom, is_flow, tree_order, tree_of, nesting}
use Rattle.tf_flow.specs.Plan.{PlanValue, atoms, flows}
use Rattle.tf_flow.specs.Rules.{first_refusal, duplicate, empty, broken_rule}
use Rattle.tf_model.specs.Plan.{outline_of, count, atom_name}
use Rattle.tf_model.proofs.PlanLemmas.{atoms_counted, name_told}
use Rattle.tf_report.specs.Lines.{flow_name}
use Rattle.tf_report.proofs.LineLemmas.{flow_named, flows_counted}

-- ---- no name stands twice in a plan

or_none_second : {X : Type 0} (o p : Option X) → option_or o p ≡ None → p ≡ None
or_none_second None p is = is
or_none_second (Some x) p is = absurd (cc)

or_none_first : {X : Type 0} (o p : Option X) → option_or o p ≡ None → o ≡ None
or_none_first None p is = refl
or_none_first (Some x) p is = absurd (cc)

map_none : {X Y : Type 0} (f : X → Y) (o : Option X) → option_map f o ≡ None → o ≡ None
map_none f None is = refl
map_none f (Some x) is = absurd (cc)

places_once : (plan : PlanValue) → first_refusal plan.root plan.store ≡ None → first_again same_name (map name_at (tree_order plan.root)) ≡ None
places_once plan accepted =
    let rules = or_none_second (too_large (capped (nesting (tree_of plan.root))) (tree_order plan.root) plan.store) (broken_rule plan.root.name plan.store (tree_order plan.root)) accepted in
    let after_empty = or_none_second (empty (tree_order plan.root)) _ rules in
    let once = or_none_first (duplicate (tree_order plan.root)) _ after_empty in
    map_none (λ name. fault.Duplicate name) (first_again same_name (map name_at (tree_order plan.root))) once

none_first : {X : Type 0} (b : Bool) (x : X) (o : Option X) → cond b (Some x) o ≡ None → b ≡ false
none_first true x o is = absurd (cc)
none_first false x o is = refl

none_second : {X : Type 0} (b : Bool) (x : X) (o : Option X) → cond b (Some x) o ≡ None → o ≡ None
none_second true x o is = absurd (cc)
none_second false x o is = is

-- each of these names is among those
record IsWithin (few all : List (List ℕ)) : Type 0 where
  held : (name : List ℕ) → is_among few name ≡ true → is_among all name ≡ true

within_more : (few all : List (List ℕ)) (more : List ℕ) → IsWithin few all → IsWithin few (all ++ more ∷ [])
within_more few all more within = record { held = λ name is. list_any-append (same_name name) all (more ∷ []) ∙ true_first (is_among all name) (is_among (more ∷ []) name) (within.held name is) }

or_both : (a b c d : Bool) → (a ≡ true → c ≡ true) → (b ≡ true → d ≡ true) → a || b ≡ true → c || d ≡ true
or_both true b c d left right is = true_first c d (left refl)
or_both false b c d left right is = true_second c d (right is)

within_both : (few all : List (List ℕ)) (more : List ℕ) → IsWithin few all → IsWithin (few ++ more ∷ []) (all ++ more ∷ [])
within_both few all more within = record {
  held = λ name is.
      list_any-append (same_name name) all (more ∷ [])
      ∙ or_both (is_among few name) (is_among (more ∷ []) name) (is_among all name) (is_among (more ∷ []) name) (within.held name) (λ e. e) (sym (list_any-append (same_name name) few (more ∷ [])) ∙ is);
}

not_within : (few all : List (List ℕ)) (name : List ℕ) → IsWithin few all → is_among all name ≡ false → is_among few name ≡ false
not_within few all name within is = by (is_among few name) (λ e. within.held name e)
  where
    by : (b : Bool) → (b ≡ true → is_among all name ≡ true) → b ≡ false
    by true h = absurd (false≢true (sym is ∙ h refl))
    by false h = refl

-- where no name stands twice, none does among some of the places
once_among : (keep : Place → Bool) (order : List Place) (few all : List (List ℕ)) → IsWithin few all → first_again_after same_name all (map name_at order) ≡ None → first_again_after same_name few (map name_at (filter keep order)) ≡ None
once_among keep [] few all within once = refl
once_among keep (place ∷ order) few all within once =
    let new = none_first (is_among all (name_at place)) (name_at place) (first_again_after same_name (all ++ name_at place ∷ []) (map name_at order)) once in
    let rest = none_second (is_among all (name_at place)) (name_at place) (first_again_after same_name (all ++ name_at place ∷ []) (map name_at order)) once in
    elim (keep place) as (λ b. first_again_after same_name few (map name_at (cond b (place ∷ filter keep order) (filter keep order))) ≡ None) [
      | true ↦ rw (not_within few all (name_at place) within new) (once_among keep order (few ++ name_at place ∷ []) (all ++ name_at place ∷ []) (within_both few all (name_at place) within) rest)
      | false ↦ once_among keep order few (all ++ name_at place ∷ []) (within_more few all (name_at place) within) rest
    ]

names_once : (plan : PlanValue) (keep : Place → Bool) → first_refusal plan.root plan.store ≡ None → first_again same_name (map name_at (filter keep (tree_order plan.root))) ≡ None
names_once plan keep accepted = once_among keep (tree_order plan.root) [] [] (record { held = λ name is. is }) (places_once plan accepted)

-- ---- so a name is first found at its number

itself : (name : List ℕ) → same_name name name ≡ true
itself name = (bytes_decides name name).1 refl

-- what stands later isn't among what was seen
not_seen : (seen names : List (List ℕ)) (k : ℕ) (name : List ℕ) → first_again_after same_name seen names ≡ None → slice_get names k ≡ Some name → is_among seen name ≡ false
not_seen seen [] k name once is = absurd (cc)
not_seen seen (x ∷ xs) zero name once is = let same : x ≡ name = cc in ap (is_among seen) (sym same) ∙ none_first (is_among seen x) x _ once
not_seen seen (x ∷ xs) (suc k) name once is =
    neither_first (is_among seen name) (is_among (x ∷ []) name)
    (sym (list_any-append (same_name name) seen (x ∷ [])) ∙ not_seen (seen ++ x ∷ []) xs k name (none_second (is_among seen x) x _ once) is)

not_first : (seen xs : List (List ℕ)) (x : List ℕ) (k : ℕ) (name : List ℕ) → first_again_after same_name (seen ++ x ∷ []) xs ≡ None → slice_get xs k ≡ Some name → same_name name x ≡ false
not_first seen xs x k name once is =
    neither_first (same_name name x) false
    (neither_second (is_among seen name) (is_among (x ∷ []) name) (sym (list_any-append (same_name name) seen (x ∷ [])) ∙ not_seen (seen ++ x ∷ []) xs k name once is))

position_later : (seen names : List (List ℕ)) (i k : ℕ) (name : List ℕ) → first_again_after same_name seen names ≡ None → slice_get names k ≡ Some name → position_from (same_name name) i names ≡ Some (i + k)
position_later seen [] i k name once is = absurd (cc)
position_later seen (x ∷ xs) i zero name once is =
    let same : x ≡ name = cc in
    let here : i ≡ i + 0 = omega arith in
    ap (λ (b : Bool). cond b (Some i) (position_from (same_name name) (i + 1) xs)) (ap (same_name name) same ∙ itself name) ∙ ap Some here
position_later seen (x ∷ xs) i (suc k) name once is =
    let rest = none_second (is_among seen x) x _ once in
    let later : (i + 1) + k ≡ i + suc k = omega arith in
    ap (λ (b : Bool). cond b (Some i) (position_from (same_name name) (i + 1) xs)) (not_first seen xs x k name rest is)
    ∙ (position_later (seen ++ x ∷ []) xs (i + 1) k name rest is ∙ ap Some later)

position_at : (names : List (List ℕ)) (k : ℕ) (name : List ℕ) → first_again same_name names ≡ None → slice_get names k ≡ Some name → position (same_name name) names ≡ Some k
position_at names k name once is =
    let same : 0 + k ≡ k = omega arith in
    position_from-zero (same_name name) names ∙ (position_later [] names 0 k name once is ∙ ap Some same)

pub atom_found : (plan : PlanValue) (k : ℕ) (name : List ℕ) → first_refusal plan.root plan.store ≡ None → slice_get (atoms plan) k ≡ Some name → position (same_name name) (atoms plan) ≡ Some k
atom_found plan k name accepted is = position_at (atoms plan) k name (names_once plan is_atom accepted) is

pub flow_found : (plan : PlanValue) (k : ℕ) (name : List ℕ) → first_refusal plan.root plan.store ≡ None → slice_get (flows plan) k ≡ Some name → position (same_name name) (flows plan) ≡ Some k
flow_found plan k name accepted is = position_at (flows plan) k name (names_once plan is_flow accepted) is

-- a name isn't among those before it
before_none : (seen names : List (List ℕ)) (k : ℕ) (name : List ℕ) → first_again_after same_name seen names ≡ None → slice_get names k ≡ Some name → is_among (seen ++ take k names) name ≡ false
before_none seen [] k name once is = absurd (cc)
before_none seen (x ∷ xs) zero name once is = ap (λ (l : List (List ℕ)). is_among l name) (append-nil seen) ∙ not_seen seen (x ∷ xs) zero name once is
before_none seen (x ∷ xs) (suc k) name once is =
    ap (λ (l : List (List ℕ)). is_among l name) (sym (append_assoc seen (x ∷ []) (take k xs)))
    ∙ before_none (seen ++ x ∷ []) xs k name (none_second (is_among seen x) x _ once) is

-- a flow's name is none of the names before it
pub flow_is_new : (plan : PlanValue) (k : ℕ) (name : List ℕ) → first_refusal plan.root plan.store ≡ None → slice_get (flows plan) k ≡ Some name → is_among (take k (flows plan)) name ≡ false
flow_is_new plan k name accepted is = before_none [] (flows plan) k name (names_once plan is_flow accepted) is

-- ---- a name that is made of bytes that are one

pub made_name : (o : Option (List ℕ)) (bytes : List ℕ) → is_some o ≡ is_name bytes → IfSome o (λ name. name ≡ bytes) → is_name bytes ≡ true → o ≡ Some bytes
made_name None bytes variant value named = absurd (false≢true (variant ∙ named))
made_name (Some name) bytes variant value named = ap (λ (n : List ℕ). Some n) value

-- ---- the names by number

pub atom_at : (plan : PlanValue) (a : ℕ) → a < count (outline_of plan) → slice_get (atoms plan) a ≡ Some (atom_name (outline_of plan) a)
atom_at plan a below =
    let there = slice_get-get_or (atoms plan) a [] (rw (atoms_counted plan) below) in
    there ∙ ap (λ (n : List ℕ). Some n) (name_told plan a (get_or (atoms plan) a []) there)

pub flow_at : (plan : PlanValue) (g : ℕ) → g < length (outline_of plan).flows → slice_get (flows plan) g ≡ Some (flow_name (outline_of plan) g)
flow_at plan g below =
    let there = slice_get-get_or (flows plan) g [] (rw (flows_counted plan) below) in
    there ∙ ap (λ (n : List ℕ). Some n) (flow_named plan g (get_or (flows plan) g []) there)

-- ---- the flows by their names

pub index_more : (plan : PlanValue) (k : ℕ) (name : List ℕ) (keys new : List (List ℕ)) → first_refusal plan.root plan.store ≡ None → slice_get (flows plan) k ≡ Some name → keys ≡ take k (flows plan)
    → new ≡ cond (list_any (same_name name) keys) keys (keys ++ name ∷ []) → new ≡ take (k + 1) (flows plan)
index_more plan k name keys new accepted is before inserted =
    let outside : list_any (same_name name) keys ≡ false = ap (list_any (same_name name)) before ∙ flow_is_new plan k name accepted is in
    let within : k < length (flows plan) = slice_get_within (flows plan) k name is in
    let here : get_or (flows plan) k name ≡ name = get_or_from_slice_get (flows plan) k name name is in
    inserted ∙ (ap (λ (b : Bool). cond b keys (keys ++ name ∷ [])) outside
    ∙ (ap (λ (ns : List (List ℕ)). ns ++ name ∷ []) before
    ∙ (ap (λ (n : List ℕ). take k (flows plan) ++ n ∷ []) (sym here) ∙ sym (take_more (flows plan) k name within))))
