-- What each kind of built-in task gives for its arguments.
use Rattle.std.specs.Prelude.{ℕ, ℤ, pos, negsuc, ◌+ℤ◌, ◌^◌, List, [], ◌∷◌, ◌++◌, Bool, true, false, nat_lt, Option, Some, None, length, slice_get, if◌then◌else◌, codes}
use Rattle.std.specs.Fmt.{signed_decimal}
use Rattle.std.specs.List.{flat_map, list_all}
use Rattle.tf_values.specs.declared.elements.Scalar.{Scalar}
use Rattle.tf_values.specs.declared.elements.Scalar.TheVariants as scalar
use Rattle.tf_values.specs.declared.value.Val.{Val}
use Rattle.tf_values.specs.declared.value.Val.TheVariants as value
use Rattle.tf_values.specs.Scalars.{are_scalars}
use Rattle.tf_values.specs.Text.{is_text}
use Rattle.tf_values.specs.Value.{text_form, value_of}
use Rattle.tf_states.specs.declared.record.Failure.TheVariants as failure
use Rattle.tf_flow.specs.declared.atoms.TaskKind.{TaskKind}
use Rattle.tf_flow.specs.declared.atoms.TaskKind.TheVariants as kind
use Rattle.tf_flow.specs.Tree.{first_some}
use Rattle.tf_actions.specs.declared.orders.Pair.{Pair}
use Rattle.tf_actions.specs.declared.outcomes.Outcome.{Outcome}
use Rattle.tf_actions.specs.declared.outcomes.Outcome.TheVariants as outcome

-- a text's own bytes, and the text form of any other value
abbrev pub plain : Val → List ℕ
plain (value.Text text) = text
plain other = text_form other

-- the same of an argument
abbrev pub plain_pair : Pair → List ℕ
plain_pair pair = plain pair.value

-- the plain bytes of all arguments, joined
abbrev pub joined : List Pair → List ℕ
joined pairs = flat_map plain_pair pairs

-- a text of these bytes, where a text has them (plain bytes are UTF-8, so that only their length can keep
-- them from being one)
abbrev pub text_of : List ℕ → Outcome
text_of bytes = if is_text bytes then outcome.Gave (value.Text bytes) else outcome.Failed failure.TooLong

-- a failure that raises these bytes, where a text has them
abbrev pub raised : List ℕ → Outcome
raised bytes = if is_text bytes then outcome.Failed (failure.Raised bytes) else outcome.Failed failure.TooLong

-- echo gives the first argument, or nothing
abbrev pub echoed : List Pair → Outcome
echoed [] = outcome.Gave value.Nothing
echoed (first ∷ others) = outcome.Gave first.value

-- the scalar is an integer
abbrev pub is_integer : Scalar → Bool
is_integer (scalar.Int number) = true
is_integer other = false

-- the value is an integer or a list of integers
abbrev pub has_integers : Val → Bool
has_integers (value.Int number) = true
has_integers (value.List scalars) = list_all is_integer scalars
has_integers other = false

-- the integer that a scalar is, and 0 for another one
abbrev pub scalar_amount : Scalar → ℤ
scalar_amount (scalar.Int number) = number
scalar_amount other = pos 0

-- the total of a list's integers
abbrev pub scalars_total : List Scalar → ℤ
scalars_total [] = pos 0
scalars_total (first ∷ others) = scalar_amount first +ℤ scalars_total others

-- the total of a value's integers
abbrev pub amount : Val → ℤ
amount (value.Int number) = number
amount (value.List scalars) = scalars_total scalars
amount other = pos 0

-- the total of all arguments
abbrev pub total : List Pair → ℤ
total [] = pos 0
total (first ∷ others) = amount first.value +ℤ total others

-- the name of an argument that is neither an integer nor a list of integers
abbrev pub not_summed : Pair → Option (List ℕ)
not_summed pair = if has_integers pair.value then None else Some pair.name

-- an integer has 64 bits
abbrev pub fits : ℤ → Bool
fits (pos n) = nat_lt n (2 ^ 63)
fits (negsuc n) = nat_lt n (2 ^ 63)

-- the total, where it has 64 bits
abbrev pub number_of : ℤ → Outcome
number_of n = if fits n then outcome.Gave (value.Int n) else outcome.Failed failure.Overflow

-- a failure that names the argument of another kind, or else this outcome
abbrev pub wrong_kind_or : Option (List ℕ) → Outcome → Outcome
wrong_kind_or (Some name) given = outcome.Failed (failure.WrongKind name)
wrong_kind_or None given = given

-- sum gives the total, where each argument can be summed
abbrev pub summed : List Pair → Outcome
summed pairs = wrong_kind_or (first_some not_summed pairs) (number_of (total pairs))

-- length counts the bytes of a text and the items of a list
abbrev pub measured : List ℕ → Val → Outcome
measured name (value.Text text) = outcome.Gave (value.Int (pos (length text)))
measured name (value.List scalars) = outcome.Gave (value.Int (pos (length scalars)))
measured name other = outcome.Failed (failure.WrongKind name)

-- the item, or a place outside the list
abbrev pub item_or_range : Option Scalar → Outcome
item_or_range (Some item) = outcome.Gave (value_of item)
item_or_range None = outcome.Failed failure.Range

-- the item at a place, from 0
abbrev pub item_at : List Scalar → ℤ → Outcome
item_at scalars (pos k) = item_or_range (slice_get scalars k)
item_at scalars (negsuc k) = outcome.Failed failure.Range

-- the item of a list at the place that the second argument is
abbrev pub picked_by : List Scalar → Pair → Val → Outcome
picked_by scalars second (value.Int place) = item_at scalars place
picked_by scalars second other = outcome.Failed (failure.WrongKind second.name)

-- pick gives the item of the first argument, a list, at the second, an integer
abbrev pub picked : Pair → Val → Pair → Outcome
picked first (value.List scalars) second = picked_by scalars second second.value
picked first other second = outcome.Failed (failure.WrongKind first.name)

-- the scalars of a value: a list's items, or the value itself
abbrev pub spread : Val → List Scalar
spread value.Nothing = scalar.Nothing ∷ []
spread (value.Truth truth) = scalar.Truth truth ∷ []
spread (value.Int number) = scalar.Int number ∷ []
spread (value.Text text) = scalar.Text text ∷ []
spread (value.List scalars) = scalars

-- the same of an argument
abbrev pub spread_pair : Pair → List Scalar
spread_pair pair = spread pair.value

-- list gives the scalars of all arguments, where a list has them
abbrev pub listed : List Pair → Outcome
listed pairs =
    if are_scalars (flat_map spread_pair pairs) then outcome.Gave (value.List (flat_map spread_pair pairs))
    else outcome.Failed failure.TooLong

-- an integer is below another
abbrev pub is_below : ℤ → ℤ → Bool
is_below (pos a) (pos b) = nat_lt a b
is_below (pos a) (negsuc b) = false
is_below (negsuc a) (pos b) = true
is_below (negsuc a) (negsuc b) = nat_lt b a

-- the first integer where it isn't below the second, and else a failure that shows the two
abbrev pub not_below : ℤ → ℤ → Outcome
not_below a b =
    if is_below a b then outcome.Failed (failure.Raised (signed_decimal a ++ codes " below " ++ signed_decimal b))
    else outcome.Gave (value.Int a)

-- the same, where the second argument is an integer
abbrev pub not_below_by : ℤ → Pair → Val → Outcome
not_below_by a second (value.Int b) = not_below a b
not_below_by a second other = outcome.Failed (failure.WrongKind second.name)

-- fail_below compares two integers
abbrev pub compared : Pair → Val → Pair → Outcome
compared first (value.Int a) second = not_below_by a second second.value
compared first other second = outcome.Failed (failure.WrongKind first.name)

-- fail_unless gives its argument where that is true
abbrev pub demanded : Val → Outcome
demanded (value.Truth true) = outcome.Gave (value.Truth true)
demanded other = raised (plain other ++ codes " is not true")

-- what a kind takes from its first argument
abbrev pub by_first : (Pair → Outcome) → List Pair → Option Outcome
by_first give [] = None
by_first give (first ∷ others) = Some (give first)

-- what a kind takes from its first two arguments
abbrev pub by_first_two : (Pair → Pair → Outcome) → List Pair → Option Outcome
by_first_two give [] = None
by_first_two give (first ∷ []) = None
by_first_two give (first ∷ second ∷ others) = Some (give first second)

-- what a built-in task gives; None for a command, and where there are fewer arguments than the kind takes
abbrev pub built : TaskKind → List Pair → Option Outcome
built kind.Echo pairs = Some (echoed pairs)
built kind.Concat pairs = Some (text_of (joined pairs))
built kind.Sum pairs = Some (summed pairs)
built kind.Length pairs = by_first (λ first. measured first.name first.value) pairs
built kind.Pick pairs = by_first_two (λ first second. picked first first.value second) pairs
built kind.List pairs = Some (listed pairs)
built kind.Fail pairs = Some (raised (joined pairs))
built kind.FailBelow pairs = by_first_two (λ first second. compared first first.value second) pairs
built kind.FailUnless pairs = by_first (λ first. demanded first.value) pairs
built kind.Command pairs = None
