-- What the numbering of a plan tells of the atoms of its outline.
use Rattle.std.proofs.Common.{◌≡◌, ℕ, ◌<◌, ◌≤◌, List, [], length, Bool, true, false, not, Option, Some, None, refl, sym, ap, ◌∙◌, slice_get, inl, inr}
use Rattle.std.specs.Prelude.{option_map}
use Rattle.std.specs.Option.{option_map_or, option_and_then}
use Rattle.std.proofs.lemmas.List.{length-map}
use Rattle.std.proofs.lemmas.Option.{slice_get-map, slice_get_past}
use Rattle.std.proofs.lemmas.Bool.{cases_lt}
use Rattle.tf_numbers.proofs.TruthLemmas.{clash}
use Rattle.tf_flow.specs.declared.atoms.Provides.TheVariants as provides
use Rattle.tf_flow.specs.declared.paths.Turn.{Turn}
use Rattle.tf_flow.specs.Plan.{PlanValue}
use Rattle.tf_flow.specs.Plan as numbering
use Rattle.tf_flow.specs.Outline.{Part, a_task, a_retry, Atom, is_task_part, is_retry_part, is_retry_atom, name_of, name_of_atom, arguments_of, injected_in, atom_path}
use Rattle.tf_flow.proofs.OutlineLemmas.{same_atoms, same_retries}
use Rattle.tf_model.specs.Plan.{Outline, outline_of, count, path, is_task, is_retry, arguments, injects, atom_name}
use Rattle.tf_model.specs.Retries.{kind_of_part, retry_kind}
use Rattle.tf_model.proofs.Told.{is_task_in, is_retry_in, name_in, path_in}

-- a plan has as many atoms as its outline
pub atoms_counted : (plan : PlanValue) → length (numbering.atoms plan) ≡ count (outline_of plan)
atoms_counted plan = ap length (sym (same_atoms plan)) ∙ length-map (outline_of plan).atoms name_of_atom

-- ---- by the part that stands at a number

pub arguments_are : (plan : PlanValue) (a : ℕ) (p : Part) → numbering.part plan a ≡ Some p → arguments (outline_of plan) a ≡ arguments_of p
arguments_are plan a p is = ap (λ (o : Option Part). option_map_or arguments_of o []) is

pub injects_are : (plan : PlanValue) (a : ℕ) (p : Part) → numbering.part plan a ≡ Some p → injects (outline_of plan) a ≡ injected_in p
injects_are plan a p is = ap (λ (o : Option Part). option_map_or injected_in o []) is

pub name_is : (plan : PlanValue) (a : ℕ) (p : Part) → numbering.part plan a ≡ Some p → atom_name (outline_of plan) a ≡ name_of p
name_is plan a p is = ap (λ (o : Option Part). option_map_or name_of o []) is

pub kind_told : (plan : PlanValue) (a : ℕ) (p : Part) → numbering.part plan a ≡ Some p → retry_kind (outline_of plan) a ≡ kind_of_part p
kind_told plan a p is = ap (option_and_then kind_of_part) is

-- ---- by the list of marks of retry controllers

retry_by : (o : Option Atom) (b : Bool) → option_map is_retry_atom o ≡ Some b → is_retry_in o ≡ b
retry_by None b is = absurd (cc)
retry_by (Some atom) b is = let same : is_retry_atom atom ≡ b = cc in same

-- an atom is a retry controller where it is marked so
pub retry_told : (plan : PlanValue) (a : ℕ) (b : Bool) → slice_get (numbering.retries plan) a ≡ Some b → is_retry (outline_of plan) a ≡ b
retry_told plan a b is = retry_by (slice_get (outline_of plan).atoms a) b
    (sym (slice_get-map is_retry_atom (outline_of plan).atoms a) ∙ (ap (λ (marks : List Bool). slice_get marks a) (same_retries plan) ∙ is))

task_by : (o : Option Atom) (b : Bool) → option_map is_retry_atom o ≡ Some b → is_task_in o ≡ not b
task_by None b is = absurd (cc)
task_by (Some atom) b is = by atom.part b (let same : is_retry_atom atom ≡ b = cc in same)
  where
    by : (part : Part) (b : Bool) → is_retry_part part ≡ b → is_task_part part ≡ not b
    by (a_task t) true is = absurd (cc)
    by (a_task t) false is = refl
    by (a_retry r) true is = refl
    by (a_retry r) false is = absurd (cc)

-- and a task where it isn't
pub task_told : (plan : PlanValue) (a : ℕ) (b : Bool) → slice_get (numbering.retries plan) a ≡ Some b → is_task (outline_of plan) a ≡ not b
task_told plan a b is = task_by (slice_get (outline_of plan).atoms a) b
    (sym (slice_get-map is_retry_atom (outline_of plan).atoms a) ∙ (ap (λ (marks : List Bool). slice_get marks a) (same_retries plan) ∙ is))

-- ---- by the lists of names and of paths

name_by : (o : Option Atom) (name : List ℕ) → option_map name_of_atom o ≡ Some name → name_in o ≡ name
name_by None name is = absurd (cc)
name_by (Some atom) name is = let same : name_of_atom atom ≡ name = cc in same

pub name_told : (plan : PlanValue) (a : ℕ) (name : List ℕ) → slice_get (numbering.atoms plan) a ≡ Some name → name ≡ atom_name (outline_of plan) a
name_told plan a name is =
    sym (name_by (slice_get (outline_of plan).atoms a) name
    (sym (slice_get-map name_of_atom (outline_of plan).atoms a) ∙ (ap (λ (names : List (List ℕ)). slice_get names a) (same_atoms plan) ∙ is)))

path_by : (o : Option Atom) (w : List Turn) → option_map atom_path o ≡ Some w → path_in o ≡ w
path_by None w is = absurd (cc)
path_by (Some atom) w is = let same : atom.path ≡ w = cc in same

pub path_told : (plan : PlanValue) (a : ℕ) (w : List Turn) → slice_get (numbering.paths plan) a ≡ Some w → w ≡ path (outline_of plan) a
path_told plan a w is = sym (path_by (slice_get (outline_of plan).atoms a) w (sym (slice_get-map atom_path (outline_of plan).atoms a) ∙ is))

-- ---- numbers past the last atom's

-- a number past the last atom's is no task's
pub no_task : (plan : Outline) (a : ℕ) → count plan ≤ a → is_task plan a ≡ false
no_task plan a past = ap is_task_in (slice_get_past plan.atoms a past)

pub no_retry : (plan : Outline) (a : ℕ) → count plan ≤ a → is_retry plan a ≡ false
no_retry plan a past = ap is_retry_in (slice_get_past plan.atoms a past)

-- a task is one of the plan's atoms
pub task_below : (plan : Outline) (a : ℕ) → is_task plan a ≡ true → a < count plan
task_below plan a is = elim (cases_lt a (count plan)) [
  | inl below ↦ below
  | inr past ↦ absurd (clash (is_task plan a) is (no_task plan a past))
]
