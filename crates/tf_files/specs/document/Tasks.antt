-- The signatures, the tasks and the retry controllers that the tables of a document spell.
use Rattle.std.specs.Prelude.{ℕ, List, [], ◌∷◌, ◌++◌, codes, Bool, not, ◌||◌, map, filter, Result, Ok, Err, if◌then◌else◌, ℤ, pos, negsuc, int_le, ◌&&◌, unsigned_abs, false, Option, Some}
use Rattle.std.specs.List.{list_any}
use Rattle.tf_flow.specs.Tree.{same_name, is_among}
use Rattle.tf_flow.specs.declared.atoms.Arg.{Arg}
use Rattle.tf_flow.specs.declared.atoms.Bind.{Bind}
use Rattle.tf_flow.specs.declared.atoms.Provides.{Provides}
use Rattle.tf_flow.specs.declared.atoms.Provides.TheVariants as provides
use Rattle.tf_files.specs.document.Reading.{chain, optional, of_kind, put_first, each, below, known_only, required, named, name_form, names_form, key_form, binds_form, text_form, texts_form, has_text, value_at}
use Rattle.tf_files.specs.declared.document.faults.FileFault.{FileFault}
use Rattle.tf_files.specs.declared.document.faults.FileFault.TheVariants as fault
use Rattle.tf_files.specs.declared.document.signatures.Signature.{Signature}
use Rattle.toml.specs.Data.{Data, string, array, as_table, Members, no_members, member, as_str, as_integer, as_bool}
use Rattle.tf_flow.specs.declared.atoms.Task.{Task}
use Rattle.tf_flow.specs.declared.atoms.TaskKind.{TaskKind}
use Rattle.tf_flow.specs.declared.atoms.TaskKind.TheVariants as kind
use Rattle.tf_flow.specs.declared.atoms.Undo.{Undo}
use Rattle.tf_flow.specs.declared.atoms.Undo.TheVariants as undo
use Rattle.tf_values.specs.declared.elements.Scalar.{Scalar}
use Rattle.tf_values.specs.declared.value.Val.{Val}
use Rattle.tf_values.specs.declared.value.Val.TheVariants as value
use Rattle.tf_flow.specs.declared.atoms.Retry.{Retry}
use Rattle.tf_flow.specs.declared.atoms.RetryKind.{RetryKind}
use Rattle.tf_flow.specs.declared.atoms.RetryKind.TheVariants as retry_kind

-- ---- the signature of a task or retry controller: its arguments, its constants, and what its result gives

-- an argument's name with the symbol that it is bound to
abbrev pub rebound_form : List ℕ → List ℕ → Data → Result Arg FileFault
rebound_form path key found =
    chain (key_form path key)
    (λ name. chain (name_form (below path name) found) (λ symbol. Ok (record { name = name; symbol = symbol })))

-- the names of a table with their symbols, in byte order
abbrev pub rebounds_of : List ℕ → Members → Result (List Arg) FileFault
rebounds_of path no_members = Ok []
rebounds_of path (member key found others) = put_first (rebound_form path key found) (rebounds_of path others)

-- a table of names
abbrev pub rebind_form : List ℕ → Data → Result (List Arg) FileFault
rebind_form path found = of_kind path (as_table found) (rebounds_of path)

-- what an atom provides: a name, or a list of names
abbrev pub provides_form : List ℕ → Data → Result Provides FileFault
provides_form path (string text) = chain (named path text) (λ name. Ok (provides.Whole name))
provides_form path (array items) = chain (each name_form path 0 items) (λ names. Ok (provides.Parts names))
provides_form path other = Err (fault.WrongKind path)

-- the symbol that a name is bound to, or the name itself
abbrev pub symbol_for : List Arg → List ℕ → List ℕ
symbol_for [] name = name
symbol_for (arg ∷ args) name = if same_name arg.name name then arg.symbol else symbol_for args name

-- the argument of a required name
abbrev pub required_argument : List Arg → List ℕ → Arg
required_argument rebound name = record { name = name; symbol = symbol_for rebound name }

-- the argument has a name that isn't required
abbrev pub is_additional : List (List ℕ) → Arg → Bool
is_additional required arg = not (is_among required arg.name)

-- the arguments by name: those that are required, in order, and then the others that are bound to symbols
abbrev pub named_arguments : List (List ℕ) → List Arg → List Arg
named_arguments required rebound = map (required_argument rebound) required ++ filter (is_additional required) rebound

-- the argument has this name or symbol
abbrev pub speaks_of : List ℕ → Arg → Bool
speaks_of symbol arg = same_name arg.name symbol || same_name arg.symbol symbol

-- no argument has the symbol as its name or symbol
abbrev pub is_unnamed : List Arg → Bind → Bool
is_unnamed args bind = not (list_any (speaks_of bind.symbol) args)

-- an argument under its symbol's name
abbrev pub injected_argument : Bind → Arg
injected_argument bind = record { name = bind.symbol; symbol = bind.symbol }

-- the injected symbols that no argument speaks of are arguments too
abbrev pub with_injected : List Arg → List Bind → List Arg
with_injected args inject = args ++ map injected_argument (filter (is_unnamed args) inject)

-- the arguments of an atom
abbrev pub arguments_of : List (List ℕ) → List Arg → List Bind → List Arg
arguments_of required rebound inject = with_injected (named_arguments required rebound) inject

-- the signature that the table under the path spells; its keys are read in this order
abbrev pub signature_form : List ℕ → Members → Result Signature FileFault
signature_form path members =
    chain (optional path (codes "requires") members [] names_form) (λ required.
    chain (optional path (codes "rebind") members [] rebind_form) (λ rebound.
    chain (optional path (codes "inject") members [] binds_form) (λ inject.
    chain (optional path (codes "provides") members provides.Nothing provides_form) (λ provided.
    Ok record { args = arguments_of required rebound inject; inject = inject; provides = provided }))))

-- ---- the task that a table of a document spells

-- the keys of a task
abbrev pub task_keys : List (List ℕ)
task_keys =
    codes "task" ∷ codes "kind" ∷ codes "requires" ∷ codes "rebind" ∷ codes "inject" ∷ codes "provides"
    ∷ codes "priority" ∷ codes "run" ∷ codes "revert" ∷ []

-- the kind of task that a word is
abbrev pub kind_named : List ℕ → List ℕ → Result TaskKind FileFault
kind_named path word =
    if same_name word (codes "echo") then Ok kind.Echo
    else if same_name word (codes "concat") then Ok kind.Concat
    else if same_name word (codes "sum") then Ok kind.Sum
    else if same_name word (codes "length") then Ok kind.Length
    else if same_name word (codes "pick") then Ok kind.Pick
    else if same_name word (codes "list") then Ok kind.List
    else if same_name word (codes "fail") then Ok kind.Fail
    else if same_name word (codes "fail_below") then Ok kind.FailBelow
    else if same_name word (codes "fail_unless") then Ok kind.FailUnless
    else if same_name word (codes "command") then Ok kind.Command
    else Err (fault.BadChoice path)

-- a kind of task
abbrev pub task_kind_form : List ℕ → Data → Result TaskKind FileFault
task_kind_form path found = of_kind path (as_str found) (kind_named path)

-- an integer of 32 bits
abbrev pub is_priority : ℤ → Bool
is_priority number = int_le (negsuc 2147483647) number && int_le number (pos 2147483647)

-- a priority
abbrev pub ranked : List ℕ → ℤ → Result ℤ FileFault
ranked path number = if is_priority number then Ok number else Err (fault.BadNumber path)

abbrev pub priority_form : List ℕ → Data → Result ℤ FileFault
priority_form path found = of_kind path (as_integer found) (ranked path)

-- what a word reverts a task by
abbrev pub undo_named : List ℕ → List ℕ → Result Undo FileFault
undo_named path word =
    if same_name word (codes "ok") then Ok undo.Pass
    else if same_name word (codes "fail") then Ok undo.Fail
    else Err (fault.BadChoice path)

-- what reverts a task: a word, or a program with its words
abbrev pub undo_form : List ℕ → Data → Result Undo FileFault
undo_form path (string word) = undo_named path word
undo_form path (array items) = chain (each text_form path 0 items) (λ words. Ok (undo.Run words))
undo_form path other = Err (fault.WrongKind path)

-- the task that the table under the path spells; its keys are read in this order
abbrev pub task_form : List ℕ → Members → Result Task FileFault
task_form path members =
    known_only path task_keys members
    (chain (required path (codes "task") members name_form) (λ name.
    chain (required path (codes "kind") members task_kind_form) (λ kind.
    chain (signature_form path members) (λ signature.
    chain (optional path (codes "priority") members (pos 0) priority_form) (λ priority.
    chain (optional path (codes "run") members [] texts_form) (λ words.
    chain (optional path (codes "revert") members undo.Pass undo_form) (λ revert.
    Ok record {
      name = name;
      kind = kind;
      words = words;
      args = signature.args;
      inject = signature.inject;
      provides = signature.provides;
      priority = priority;
      undo = revert;
    })))))))

-- ---- the retry controller that a table of a document spells

-- ---- keys

-- the value at the key `kind` is this text
abbrev pub has_kind : List ℕ → Members → Bool
has_kind word members = has_text (codes "kind") word members

-- the keys that every retry controller has after those of its kind
abbrev pub signature_keys : List (List ℕ)
signature_keys = codes "requires" ∷ codes "rebind" ∷ codes "inject" ∷ codes "provides" ∷ []

-- the keys of a retry controller: only that of so many attempts has `attempts`, only that of values has
-- `values`, and those that revert always have no `revert_all`
abbrev pub retry_keys : Members → List (List ℕ)
retry_keys members =
    if has_kind (codes "times") members then codes "name" ∷ codes "kind" ∷ codes "attempts" ∷ codes "revert_all"
    ∷ signature_keys
    else if has_kind (codes "for_each") members then codes "name" ∷ codes "kind" ∷ codes "values" ∷ codes "revert_all"
    ∷ signature_keys
    else if has_kind (codes "always_revert") members || has_kind (codes "always_revert_all") members then codes "name"
    ∷ codes "kind" ∷ signature_keys
    else codes "name" ∷ codes "kind" ∷ codes "revert_all" ∷ signature_keys

-- ---- kinds

-- a number of attempts, from 0 to 65,535
abbrev pub is_attempts : ℤ → Bool
is_attempts number = int_le (pos 0) number && int_le number (pos 65535)

-- the number of attempts that an integer is
abbrev pub counted : List ℕ → ℤ → Result ℕ FileFault
counted path number = if is_attempts number then Ok (unsigned_abs number) else Err (fault.BadNumber path)

-- so many attempts
abbrev pub attempts_form : List ℕ → Data → Result ℕ FileFault
attempts_form path found = of_kind path (as_integer found) (counted path)

-- the list that a value is
abbrev pub a_list : List ℕ → Option Val → Result (List Scalar) FileFault
a_list path (Some (value.List scalars)) = Ok scalars
a_list path other = Err (fault.BadValue path)

-- a list of values, one for each attempt
abbrev pub values_form : List ℕ → Data → Result (List Scalar) FileFault
values_form path found = a_list path (value_at found)

-- a truth value
abbrev pub truth_form : List ℕ → Data → Result Bool FileFault
truth_form path found = of_kind path (as_bool found) Ok

-- whether the whole flow is reverted where no attempt is left; it isn't where nothing is said
abbrev pub revert_all_of : List ℕ → Members → Result Bool FileFault
revert_all_of path members = optional path (codes "revert_all") members false truth_form

-- so many attempts, and what comes after the last
abbrev pub times_of : List ℕ → Members → Result RetryKind FileFault
times_of path members =
    chain (required path (codes "attempts") members attempts_form) (λ attempts.
    chain (revert_all_of path members) (λ all. Ok (retry_kind.Times attempts all)))

-- an attempt for each value, and what comes after the last
abbrev pub for_each_of : List ℕ → Members → Result RetryKind FileFault
for_each_of path members =
    chain (required path (codes "values") members values_form) (λ values.
    chain (revert_all_of path members) (λ all. Ok (retry_kind.ForEach values all)))

-- an attempt for each item of the argument `values`, and what comes after the last
abbrev pub parameterized_of : List ℕ → Members → Result RetryKind FileFault
parameterized_of path members = chain (revert_all_of path members) (λ all. Ok (retry_kind.Parameterized all))

-- the kind of retry controller that a word is, with what the table says of it
abbrev pub retry_kind_named : List ℕ → Members → List ℕ → List ℕ → Result RetryKind FileFault
retry_kind_named path members place word =
    if same_name word (codes "always_revert") then Ok retry_kind.AlwaysRevert
    else if same_name word (codes "always_revert_all") then Ok retry_kind.AlwaysRevertAll
    else if same_name word (codes "times") then times_of path members
    else if same_name word (codes "for_each") then for_each_of path members
    else if same_name word (codes "parameterized_for_each") then parameterized_of path members
    else Err (fault.BadChoice place)

-- a kind of retry controller
abbrev pub retry_kind_form : List ℕ → Members → List ℕ → Data → Result RetryKind FileFault
retry_kind_form path members place found = of_kind place (as_str found) (retry_kind_named path members place)

-- ---- retry controllers

-- the retry controller that the table under the path spells; its keys are read in this order
abbrev pub retry_table : List ℕ → Members → Result Retry FileFault
retry_table path members =
    known_only path (retry_keys members) members
    (chain (required path (codes "name") members name_form) (λ name.
    chain (required path (codes "kind") members (retry_kind_form path members)) (λ kind.
    chain (signature_form path members) (λ signature.
    Ok record {
      name = name;
      kind = kind;
      args = signature.args;
      inject = signature.inject;
      provides = signature.provides;
    }))))

-- a retry controller
abbrev pub retry_form : List ℕ → Data → Result Retry FileFault
retry_form path found = of_kind path (as_table found) (retry_table path)
