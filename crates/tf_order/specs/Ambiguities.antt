-- The symbols that make an item ambiguous.
use Rattle.std.specs.Prelude.{ℕ, List, [], filter, if◌then◌else◌}
use Rattle.tf_flow.specs.declared.atoms.Arg.{Arg}
use Rattle.tf_flow.specs.Outline.{Part}
use Rattle.tf_model.specs.Before.{Flow, is_inside}
use Rattle.tf_model.specs.Plan.{is_ambiguous}
use Rattle.tf_order.specs.declared.context.Context.{Context}
use Rattle.tf_order.specs.Context.{atoms_seen, place_seen, needed_by, needed_at, needed_below}

-- of these symbols, those that two or more other items provide where item v needs them
abbrev pub ambiguous_of : Context → ℕ → List (List ℕ) → List (List ℕ)
ambiguous_of context v symbols = filter (is_ambiguous (atoms_seen context) (place_seen context) v) symbols

-- those that an atom in item v needs by these arguments
abbrev pub ambiguities_by : Context → List Flow → ℕ → ℕ → Part → List Arg → List (List ℕ)
ambiguities_by context inner v a part args = ambiguous_of context v (needed_by context inner v a part args)

-- those that an atom needs, where it stands in item v
abbrev pub ambiguities_inside : Context → List Flow → ℕ → ℕ → List (List ℕ)
ambiguities_inside context inner v a =
    if is_inside (atoms_seen context) (place_seen context).number v a
    then ambiguous_of context v (needed_at context inner a v)
    else []

-- those that the atoms below a number need in item v
abbrev pub ambiguities_below : Context → List Flow → ℕ → ℕ → List (List ℕ)
ambiguities_below context inner v n = ambiguous_of context v (needed_below context inner n v)
