-- Numbers by name.
use Rattle.std.specs.Prelude.{ℕ, List, [], ◌∷◌, ◌++◌, ◌-◌, Bool, Option, None, Some, length, slice_get, if◌then◌else◌}
use Rattle.std.specs.Option.{option_map_or}
use Rattle.indexmap.specs.IndexMap.{get}
use Rattle.tf_flow.specs.Tree.{same_name}
use Rattle.tf_model.specs.Before.{name_of_item}
use Rattle.tf_numbers.specs.Numbers.{is_number}
use Rattle.tf_flow.specs.Outline.{Item}
use Rattle.tf_order.specs.declared.index.NameIndex.{NameIndex}

-- the numbers, where there are some
abbrev pub numbers_or_none : Option (List ℕ) → List ℕ
numbers_or_none None = []
numbers_or_none (Some numbers) = numbers

-- the numbers of a name
abbrev pub told : NameIndex → List ℕ → List ℕ
told index name = numbers_or_none (get same_name index.numbers name)

-- the last number is this one
abbrev pub ends_with : List ℕ → ℕ → Bool
ends_with numbers n = is_number (slice_get numbers (length numbers - 1)) n

-- the numbers with one more, which isn't added to itself
abbrev pub add_once : List ℕ → ℕ → List ℕ
add_once numbers n = if ends_with numbers n then numbers else numbers ++ n ∷ []

-- the item at a place has this name
abbrev pub is_named_at : List Item → List ℕ → ℕ → Bool
is_named_at items name u = same_name (option_map_or name_of_item (slice_get items u) []) name
