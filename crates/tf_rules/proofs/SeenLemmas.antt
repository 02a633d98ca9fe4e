-- What the tests of a task's links see under a name.
use Rattle.std.proofs.Common.{◌≡◌, ℕ, suc, ◌+◌, ◌<◌, List, [], ◌∷◌, length, Bool, true, false, ◌||◌, cond, Option, Some, None, refl, sym, ap, ◌∙◌, inl, inr, arith, position, slice_get}
use Rattle.std.specs.Prelude.{filter_map, option_map, if◌then◌else◌}
use Rattle.std.specs.List.{list_any, position_from, cons_option}
use Rattle.std.proofs.lemmas.Bool.{cases_lt}
use Rattle.std.specs.Cmp.Lexicographic.{bytes_decides}
use Rattle.std.proofs.lemmas.Iterator.Adapters.{position_from-zero}
use Rattle.std.proofs.lemmas.Cmp.{nat_list_eq_equiv}
use Rattle.std.proofs.lemmas.List.{length-map}
use Rattle.tf_numbers.specs.Numbers.{first_below}
use Rattle.tf_numbers.proofs.BelowLemmas.{first_none, first_is}
use Rattle.tf_values.specs.declared.value.Val.{Val}
use Rattle.tf_states.specs.declared.record.Payload.{Payload}
use Rattle.tf_states.specs.declared.record.Payload.TheVariants as payload
use Rattle.tf_flow.specs.Outline.{Connection, Atom, name_of_atom}
use Rattle.tf_flow.specs.Tree.{same_name}
use Rattle.tf_flow.specs.Plan.{PlanValue}
use Rattle.tf_flow.specs.Plan as numbering
use Rattle.tf_flow.proofs.OutlineLemmas.{same_atoms}
use Rattle.tf_model.specs.Readiness.{Named, result_of, named_result, seen_at, seen_by_link, atom_named, is_named}
use Rattle.tf_model.specs.Plan.{Outline, outline_of, count}
use Rattle.tf_model.proofs.Told.{name_in}
use Rattle.tf_model.specs.History.{Snapshot, is_success}
use Rattle.tf_model.specs.History as views
use Rattle.tf_rules.specs.Seen.{begins_at}
use Rattle.std.proofs.lemmas.Option.{slice_get-map}
use Rattle.tf_rules.proofs.NameLemmas.{itself}

-- ---- the atom of a name

below_more : (i : ℕ) (t : ℕ → Bool) → ((j : ℕ) → j < i → t j ≡ false) → t i ≡ false → (j : ℕ) → j < i + 1 → t j ≡ false
below_more i t before here = λ j less. elim (cases_lt j i) [ inl sooner ↦ before j sooner | inr from ↦ let same : j ≡ i = omega arith in ap t same ∙ here ]

-- at the first name, which has the number i
first_by : (p : List ℕ → Bool) (t : ℕ → Bool) (x : List ℕ) (i n : ℕ) (later : Option ℕ) (b : Bool) → p x ≡ b → t i ≡ p x → i < n → ((j : ℕ) → j < i → t j ≡ false) → (b ≡ false → first_below n t ≡ later)
    → first_below n t ≡ cond (p x) (Some i) later
first_by p t x i n later true on here less before rest = first_is n t i less (here ∙ on) before ∙ ap (λ (c : Bool). cond c (Some i) later) (sym on)
first_by p t x i n later false off here less before rest = rest refl ∙ ap (λ (c : Bool). cond c (Some i) later) (sym off)

first_from : (p : List ℕ → Bool) (t : ℕ → Bool) (xs : List (List ℕ)) (i n : ℕ) → n ≡ i + length xs → ((k : ℕ) (x : List ℕ) → slice_get xs k ≡ Some x → t (i + k) ≡ p x) → ((j : ℕ) → j < i → t j ≡ false)
    → first_below n t ≡ position_from p i xs
first_from p t [] i n is same before = let here : n ≡ i = omega (arith, is) in ap (λ (m : ℕ). first_below m t) here ∙ first_none i t before
first_from p t (x ∷ xs) i n is same before =
    let place : i + 0 ≡ i = omega arith in
    let here : t i ≡ p x = ap t (sym place) ∙ same 0 x refl in
    let counted : n ≡ i + suc (length xs) = is in
    first_by p t x i n (position_from p (i + 1) xs) (p x) refl here (omega (arith, counted)) before
    (λ off. first_from p t xs (i + 1) n (omega (arith, counted)) (λ k y there. let later : (i + 1) + k ≡ i + suc k = omega arith in ap t later ∙ same (suc k) y there) (below_more i t before (here ∙ off)))

named_by : (o : Option Atom) (name x : List ℕ) → option_map name_of_atom o ≡ Some x → same_name (name_in o) name ≡ same_name name x
named_by None name x is = absurd (cc)
named_by (Some atom) name x is = let same : name_in (Some atom) ≡ x = cc in ap (λ (n : List ℕ). same_name n name) same ∙ nat_list_eq_equiv.symm x name

-- the first atom of a name is where the name stands first among the names of the atoms
pub found_named : (plan : PlanValue) (name : List ℕ) → atom_named (outline_of plan) name ≡ position (same_name name) (numbering.atoms plan)
found_named plan name =
    let counted : count (outline_of plan) ≡ 0 + length (numbering.atoms plan) = let mapped = length-map (outline_of plan).atoms name_of_atom in let names = ap length (same_atoms plan) in omega (arith, mapped, names) in
    first_from (same_name name) (is_named (outline_of plan) name) (numbering.atoms plan) 0 (count (outline_of plan)) counted
    (λ k x there. let place : 0 + k ≡ k = omega arith in
    ap (is_named (outline_of plan) name) place
    ∙ named_by (slice_get (outline_of plan).atoms k) name x (sym (slice_get-map name_of_atom (outline_of plan).atoms k) ∙ (ap (λ (names : List (List ℕ)). slice_get names k) (same_atoms plan) ∙ there)))
    (λ j less. absurd (omega arith))
    ∙ sym (position_from-zero (same_name name) (numbering.atoms plan))

-- ---- the result that is seen under a name

abbrev result_in_named : Option Named → Option Val
result_in_named None = None
result_in_named (Some named) = Some named.result

named_so : (s : Snapshot) (name : List ℕ) (o : Option ℕ) (n : Named) → seen_at s name o ≡ Some n → n.name ≡ name
named_so s name None n is = absurd (cc)
named_so s name (Some a) n is = by (is_success (s.state a)) (s.payload a) is
  where
    by : (b : Bool) (held : Payload) → (if b then named_result name held else None) ≡ Some n → n.name ≡ name
    by true (payload.Value v) same = let told : record { name = name; result = v } ≡ n = cc in sym (ap (λ (m : Named). m.name) told)
    by true payload.Empty same = absurd (cc)
    by true (payload.Fault fault) same = absurd (cc)
    by false held same = absurd (cc)

one_named : (b : Bool) (n : Named) (others : List Named) (name : List ℕ) → same_name n.name name ≡ b → result_of (n ∷ others) name ≡ (if b then Some n.result else result_of others name)
one_named b n others name is = ap (λ (c : Bool). if c then Some n.result else result_of others name) is

-- the link's source is the atom of that name, where the link begins at it
same_source : (plan : Outline) (s : Snapshot) (link : Connection) (name : List ℕ) → same_name link.from name ≡ true → seen_by_link plan s link ≡ seen_at s name (atom_named plan name)
same_source plan s link name on = ap (λ (n : List ℕ). seen_at s n (atom_named plan n)) ((bytes_decides link.from name).0 on)

if_none : {X : Type 0} (b : Bool) (o : Option X) → o ≡ None → (if b then o else None) ≡ None
if_none true o is = is
if_none false o is = refl

-- what is seen where these links are asked first
told_by : (plan : Outline) (s : Snapshot) (name : List ℕ) (link : Connection) (others : List Named) (any b : Bool) (o : Option Named) → same_name link.from name ≡ b → seen_by_link plan s link ≡ o
    → result_of others name ≡ (if any then result_in_named (seen_at s name (atom_named plan name)) else None)
    → result_of (cons_option o others) name ≡ (if b || any then result_in_named (seen_at s name (atom_named plan name)) else None)
told_by plan s name link others any true None on is rest =
    let nothing : result_in_named (seen_at s name (atom_named plan name)) ≡ None = ap result_in_named (sym (same_source plan s link name on) ∙ is) in
    rest ∙ (if_none any (result_in_named (seen_at s name (atom_named plan name))) nothing ∙ sym nothing)
told_by plan s name link others any true (Some n) on is rest =
    let there : seen_at s name (atom_named plan name) ≡ Some n = sym (same_source plan s link name on) ∙ is in
    one_named true n others name (ap (λ (m : List ℕ). same_name m name) (named_so s name (atom_named plan name) n there) ∙ itself name)
    ∙ sym (ap result_in_named there)
told_by plan s name link others any false None off is rest = rest
told_by plan s name link others any false (Some n) off is rest =
    one_named false n others name (ap (λ (m : List ℕ). same_name m name) (named_so s link.from (atom_named plan link.from) n is) ∙ off) ∙ rest

-- the links see the result of a name where one of them begins there
pub seen_told : (plan : Outline) (s : Snapshot) (name : List ℕ) (links : List Connection)
    → result_of (filter_map (seen_by_link plan s) links) name ≡ (if list_any (begins_at name) links then result_in_named (seen_at s name (atom_named plan name)) else None)
seen_told plan s name [] = refl
seen_told plan s name (link ∷ links) =
    told_by plan s name link (filter_map (seen_by_link plan s) links) (list_any (begins_at name) links) (same_name link.from name) (seen_by_link plan s link) refl refl (seen_told plan s name links)

result_by : (b : Bool) (name : List ℕ) (held : Payload) → result_in_named (if b then named_result name held else None) ≡ (if b then views.result_in held else None)
result_by true name (payload.Value v) = refl
result_by true name payload.Empty = refl
result_by true name (payload.Fault fault) = refl
result_by false name held = refl

-- what is seen of an atom is its result
pub result_seen : (s : Snapshot) (name : List ℕ) (a : ℕ) → result_in_named (seen_at s name (Some a)) ≡ views.result_of s a
result_seen s name a = result_by (is_success (s.state a)) name (s.payload a)

-- no atom has the name
pub nothing_seen : (plan : PlanValue) (s : Snapshot) (name : List ℕ) (links : List Connection) (found : Option ℕ) → found ≡ position (same_name name) (numbering.atoms plan) → found ≡ None
    → result_of (filter_map (seen_by_link (outline_of plan) s) links) name ≡ None
nothing_seen plan s name links found told none =
    seen_told (outline_of plan) s name links
    ∙ if_none (list_any (begins_at name) links) (result_in_named (seen_at s name (atom_named (outline_of plan) name))) (ap (λ (o : Option ℕ). result_in_named (seen_at s name o)) (found_named plan name ∙ (sym told ∙ none)))

-- the atom of the name is this one
pub this_seen : (plan : PlanValue) (s : Snapshot) (name : List ℕ) (links : List Connection) (found : Option ℕ) (a : ℕ) → found ≡ position (same_name name) (numbering.atoms plan) → found ≡ Some a
    → result_of (filter_map (seen_by_link (outline_of plan) s) links) name ≡ (if list_any (begins_at name) links then views.result_of s a else None)
this_seen plan s name links found a told some =
    seen_told (outline_of plan) s name links
    ∙ ap (λ (o : Option Val). if list_any (begins_at name) links then o else None)
    (ap (λ (o : Option ℕ). result_in_named (seen_at s name o)) (found_named plan name ∙ (sym told ∙ some)) ∙ result_seen s name a)

pub no_result : (b : Bool) (o : Option Val) → o ≡ None → (if b then o else None) ≡ None
no_result b o is = if_none b o is
