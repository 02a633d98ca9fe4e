-- How a document is read: what a part of it spells, or the first reason why it spells nothing; and the names and values
-- that stand in it.
use Rattle.std.specs.Prelude.{ℕ, List, [], ◌∷◌, ◌++◌, if◌then◌else◌, ◌≡◌, suc, Bool, true, false, is_some, Option, Some, None, Result, Ok, Err, option_map, option_and_then}
use Rattle.tf_values.specs.Text.{is_name, is_text as is_valid_text}
use Rattle.tf_values.specs.Value.{quoted}
use Rattle.std.specs.Fmt.{decimal}
use Rattle.tf_flow.specs.Tree.{same_name, is_among}
use Rattle.tf_files.specs.declared.document.faults.FileFault.{FileFault}
use Rattle.tf_files.specs.declared.document.faults.FileFault.TheVariants as fault
use Rattle.toml.specs.Data.{Data, as_str, as_array, Items, no_items, item, Members, no_members, member, get_member, string, integer, boolean, array, as_table}
use Rattle.tf_values.specs.Scalars.{are_scalars}
use Rattle.tf_values.specs.declared.elements.Scalar.{Scalar}
use Rattle.tf_values.specs.declared.elements.Scalar.TheVariants as scalar
use Rattle.tf_values.specs.declared.value.Val.{Val}
use Rattle.tf_values.specs.declared.value.Val.TheVariants as value
use Rattle.tf_flow.specs.declared.atoms.Bind.{Bind}

-- ---- where a value stands in a document: keys and numbers of items, with dots between

-- one step further in; the document itself has the empty path
abbrev pub below : List ℕ → List ℕ → List ℕ
below [] step = step
below (byte ∷ path) step = (byte ∷ path) ++ 46 ∷ step

-- the step of a key: itself where it is a name, else its quoted form
abbrev pub step_of : List ℕ → List ℕ
step_of key = if is_name key then key else quoted key

-- ---- how a document is read: what a part of it spells, or the first reason why it spells nothing

-- reading goes on with what was read
abbrev pub chain : {A B : Type 0} → Result A FileFault → (A → Result B FileFault) → Result B FileFault
chain (Ok found) next = next found
chain (Err reason) next = Err reason

-- the members have the key
abbrev pub has_key : List ℕ → Members → Bool
has_key key members = is_some (get_member key members)

-- the text, where there is one, is this one
abbrev pub same_text : List ℕ → Option (List ℕ) → Bool
same_text word None = false
same_text word (Some text) = same_name text word

-- it is this text
abbrev pub is_text : List ℕ → Option Data → Bool
is_text word None = false
is_text word (Some found) = same_text word (as_str found)

-- the members have this text at the key
abbrev pub has_text : List ℕ → List ℕ → Members → Bool
has_text key word members = is_text word (get_member key members)

-- the first key that isn't one of those that are known; a table's keys stand in byte order
abbrev pub unknown_key : List (List ℕ) → Members → Option (List ℕ)
unknown_key known no_members = None
unknown_key known (member key found others) = if is_among known key then unknown_key known others else Some key

-- an unknown key refuses the table under the path
abbrev pub unless_unknown : {A : Type 0} → List ℕ → Option (List ℕ) → Result A FileFault → Result A FileFault
unless_unknown path None read = read
unless_unknown path (Some key) read = Err (fault.UnknownKey (below path (step_of key)))

-- a table under the path whose keys are all known is read on
abbrev pub known_only : {A : Type 0} → List ℕ → List (List ℕ) → Members → Result A FileFault → Result A FileFault
known_only path known members read = unless_unknown path (unknown_key known members) read

-- the value at a path, which must be there
abbrev pub required_at : {A : Type 0} → List ℕ → (List ℕ → Data → Result A FileFault) → Option Data → Result A FileFault
required_at path reads None = Err (fault.MissingKey path)
required_at path reads (Some found) = reads path found

-- the value at a key of the table under the path, which must be there
abbrev pub required : {A : Type 0} → List ℕ → List ℕ → Members → (List ℕ → Data → Result A FileFault)
    → Result A FileFault
required path key members reads = required_at (below path key) reads (get_member key members)

-- the value at a path, or another where it isn't there
abbrev pub optional_at : {A : Type 0} → List ℕ → A → (List ℕ → Data → Result A FileFault) → Option Data
    → Result A FileFault
optional_at path other reads None = Ok other
optional_at path other reads (Some found) = reads path found

-- the value at a key of the table under the path, or another where it isn't there
abbrev pub optional : {A : Type 0} → List ℕ → List ℕ → Members → A → (List ℕ → Data → Result A FileFault)
    → Result A FileFault
optional path key members other reads = optional_at (below path key) other reads (get_member key members)

-- the value under the path is of the kind that is wanted
abbrev pub of_kind : {A B : Type 0} → List ℕ → Option A → (A → Result B FileFault) → Result B FileFault
of_kind path None next = Err (fault.WrongKind path)
of_kind path (Some found) next = next found

-- one more at the front of a list
abbrev pub put_first : {A : Type 0} → Result A FileFault → Result (List A) FileFault → Result (List A) FileFault
put_first first others = chain first (λ x. chain others (λ xs. Ok (x ∷ xs)))

-- each item of an array under the path, from that number on, in order
abbrev pub each : {A : Type 0} → (List ℕ → Data → Result A FileFault) → List ℕ → ℕ → Items → Result (List A) FileFault
each reads path number no_items = Ok []
each reads path number (item found others) =
    put_first (reads (below path (decimal number)) found) (each reads path (suc number) others)

-- the array under the path, item by item
abbrev pub array_of : {A : Type 0} → (List ℕ → Data → Result A FileFault) → List ℕ → Data → Result (List A) FileFault
array_of reads path found = of_kind path (as_array found) (each reads path 0)

-- the fault is want of memory
abbrev pub is_memory : FileFault → Bool
is_memory fault.Memory = true
is_memory reason = false

-- the fault is the reason why nothing is spelled, or want of memory
abbrev pub RefusesWith : {A : Type 0} → Result A FileFault → FileFault → Type 0
RefusesWith spelled fault.Memory = Unit {0}
RefusesWith spelled reason = spelled ≡ Err reason

-- ---- the names and values that stand in a document

-- the string under the path is a name
abbrev pub named : List ℕ → List ℕ → Result (List ℕ) FileFault
named path text = if is_name text then Ok text else Err (fault.BadName path)

-- a name
abbrev pub name_form : List ℕ → Data → Result (List ℕ) FileFault
name_form path found = of_kind path (as_str found) (named path)

-- a list of names
abbrev pub names_form : List ℕ → Data → Result (List (List ℕ)) FileFault
names_form path found = array_of name_form path found

-- the string under the path is a text
abbrev pub a_text : List ℕ → List ℕ → Result (List ℕ) FileFault
a_text path word = if is_valid_text word then Ok word else Err (fault.BadValue path)

-- a text
abbrev pub text_form : List ℕ → Data → Result (List ℕ) FileFault
text_form path found = of_kind path (as_str found) (a_text path)

-- a list of texts
abbrev pub texts_form : List ℕ → Data → Result (List (List ℕ)) FileFault
texts_form path found = array_of text_form path found

-- a key that should be a name
abbrev pub key_form : List ℕ → List ℕ → Result (List ℕ) FileFault
key_form path key = named (below path (step_of key)) key

-- a scalar: a string that is a text, an integer or a truth value
abbrev pub scalar_of : Data → Option Scalar
scalar_of (string text) = if is_valid_text text then Some (scalar.Text text) else None
scalar_of (integer number) = Some (scalar.Int number)
scalar_of (boolean truth) = Some (scalar.Truth truth)
scalar_of other = None

-- one more scalar at the front
abbrev pub scalar_first : Option Scalar → Option (List Scalar) → Option (List Scalar)
scalar_first first others = option_and_then (λ x. option_map (λ xs. x ∷ xs) others) first

-- the scalars of an array
abbrev pub scalars_of : Items → Option (List Scalar)
scalars_of no_items = Some []
scalars_of (item found others) = scalar_first (scalar_of found) (scalars_of others)

-- a list within the limits
abbrev pub list_of : List Scalar → Option Val
list_of scalars = if are_scalars scalars then Some (value.List scalars) else None

-- the value that stands there: a scalar, or a list of scalars within the limits
abbrev pub value_at : Data → Option Val
value_at (string text) = if is_valid_text text then Some (value.Text text) else None
value_at (integer number) = Some (value.Int number)
value_at (boolean truth) = Some (value.Truth truth)
value_at (array items) = option_and_then list_of (scalars_of items)
value_at other = None

-- it is a value
abbrev pub a_value : List ℕ → Option Val → Result Val FileFault
a_value path None = Err (fault.BadValue path)
a_value path (Some v) = Ok v

-- a value
abbrev pub value_form : List ℕ → Data → Result Val FileFault
value_form path found = a_value path (value_at found)

-- a symbol with its value
abbrev pub bind_form : List ℕ → List ℕ → Data → Result Bind FileFault
bind_form path key found =
    chain (key_form path key)
    (λ symbol. chain (value_form (below path symbol) found) (λ v. Ok (record { symbol = symbol; value = v })))

-- the symbols of a table with their values, in byte order
abbrev pub binds_of : List ℕ → Members → Result (List Bind) FileFault
binds_of path no_members = Ok []
binds_of path (member key found others) = put_first (bind_form path key found) (binds_of path others)

-- a table of values
abbrev pub binds_form : List ℕ → Data → Result (List Bind) FileFault
binds_form path found = of_kind path (as_table found) (binds_of path)
