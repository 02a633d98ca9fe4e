-- How tasks and retry controllers are read.
use Rattle.std.specs.Prelude.{ℕ, ◌==◌, List, [], ◌∷◌, Bool, true, false, Option, Some, None, if◌then◌else◌}
use Rattle.std.specs.Int.{w16, w32}
use Rattle.tf_values.specs.declared.elements.Scalar.{Scalar}
use Rattle.tf_values.specs.declared.value.Val.{Val}
use Rattle.tf_values.specs.declared.value.Val.TheVariants as value
use Rattle.tf_flow.specs.declared.atoms.Arg.{Arg}
use Rattle.tf_flow.specs.declared.atoms.Bind.{Bind}
use Rattle.tf_flow.specs.declared.atoms.Provides.{Provides}
use Rattle.tf_flow.specs.declared.atoms.Provides.TheVariants as provides
use Rattle.tf_flow.specs.declared.atoms.Retry.{Retry}
use Rattle.tf_flow.specs.declared.atoms.RetryKind.{RetryKind}
use Rattle.tf_flow.specs.declared.atoms.RetryKind.TheVariants as retry
use Rattle.tf_flow.specs.declared.atoms.Task.{Task}
use Rattle.tf_flow.specs.declared.atoms.TaskKind.{TaskKind}
use Rattle.tf_flow.specs.declared.atoms.TaskKind.TheVariants as kind
use Rattle.tf_flow.specs.declared.atoms.Undo.{Undo}
use Rattle.tf_flow.specs.declared.atoms.Undo.TheVariants as undo
use Rattle.tf_entries.specs.Reading.{chain, numbered, read_number, read_signed, read_name, read_text, read_value, read_list}

-- a truth value
abbrev pub truth_of : ℕ → Option Bool
truth_of n = if n == 0 then Some false else if n == 1 then Some true else None

abbrev pub read_truth : List ℕ → Option (Bool × List ℕ)
read_truth [] = None
read_truth (n ∷ rest) = numbered (truth_of n) rest

-- ---- what tasks and retry controllers have alike

abbrev pub read_arg : List ℕ → Option (Arg × List ℕ)
read_arg bytes =
    chain (read_name bytes)
    (λ name rest. chain (read_name rest) (λ symbol after. Some (record { name = name; symbol = symbol }, after)))

abbrev pub read_bind : List ℕ → Option (Bind × List ℕ)
read_bind bytes =
    chain (read_name bytes)
    (λ symbol rest. chain (read_value rest)
    (λ value after. Some (record { symbol = symbol; value = value }, after)))

unfoldable pub read_words : List ℕ → Option (List (List ℕ) × List ℕ)
read_words = read_list read_text

unfoldable pub read_names : List ℕ → Option (List (List ℕ) × List ℕ)
read_names = read_list read_name

unfoldable pub read_args : List ℕ → Option (List Arg × List ℕ)
read_args = read_list read_arg

unfoldable pub read_binds : List ℕ → Option (List Bind × List ℕ)
read_binds = read_list read_bind

-- what an atom provides
abbrev pub read_provides_of : ℕ → List ℕ → Option (Provides × List ℕ)
read_provides_of tag bytes =
    if tag == 0 then Some (provides.Nothing, bytes)
    else if tag == 1 then chain (read_name bytes) (λ name rest. Some (provides.Whole name, rest))
    else if tag == 2 then chain (read_names bytes) (λ names rest. Some (provides.Parts names, rest))
    else None

abbrev pub read_provides : List ℕ → Option (Provides × List ℕ)
read_provides [] = None
read_provides (tag ∷ bytes) = read_provides_of tag bytes

-- ---- tasks

-- what reverts a task
abbrev pub read_undo_of : ℕ → List ℕ → Option (Undo × List ℕ)
read_undo_of tag bytes =
    if tag == 0 then Some (undo.Pass, bytes)
    else if tag == 1 then Some (undo.Fail, bytes)
    else if tag == 2 then chain (read_words bytes) (λ words rest. Some (undo.Run words, rest))
    else None

abbrev pub read_undo : List ℕ → Option (Undo × List ℕ)
read_undo [] = None
read_undo (tag ∷ bytes) = read_undo_of tag bytes

-- the kind of task that has this number
abbrev pub task_kind_of : ℕ → Option TaskKind
task_kind_of n =
    if n == 0 then Some kind.Echo
    else if n == 1 then Some kind.Concat
    else if n == 2 then Some kind.Sum
    else if n == 3 then Some kind.Length
    else if n == 4 then Some kind.Pick
    else if n == 5 then Some kind.List
    else if n == 6 then Some kind.Fail
    else if n == 7 then Some kind.FailBelow
    else if n == 8 then Some kind.FailUnless
    else if n == 9 then Some kind.Command
    else None

abbrev pub read_task_kind : List ℕ → Option (TaskKind × List ℕ)
read_task_kind [] = None
read_task_kind (n ∷ rest) = numbered (task_kind_of n) rest

-- a task
abbrev pub read_task : List ℕ → Option (Task × List ℕ)
read_task bytes =
    chain (read_name bytes) (λ name after_name.
    chain (read_task_kind after_name) (λ kind after_kind.
    chain (read_words after_kind) (λ words after_words.
    chain (read_args after_words) (λ args after_args.
    chain (read_binds after_args) (λ inject after_inject.
    chain (read_provides after_inject) (λ provides after_provides.
    chain (read_signed w32 after_provides) (λ priority after_priority.
    chain (read_undo after_priority) (λ undo rest.
    Some (
      record {
        name = name;
        kind = kind;
        words = words;
        args = args;
        inject = inject;
        provides = provides;
        priority = priority;
        undo = undo;
      },
      rest,
    )))))))))

-- ---- retry controllers

-- so many attempts
abbrev pub read_times : List ℕ → Option (RetryKind × List ℕ)
read_times bytes =
    chain (read_number w16 bytes)
    (λ attempts rest. chain (read_truth rest) (λ all after. Some (retry.Times attempts all, after)))

-- the scalars of a value that is a list
abbrev pub scalars_in : Val → List ℕ → Option (List Scalar × List ℕ)
scalars_in (value.List scalars) rest = Some (scalars, rest)
scalars_in other rest = None

-- a list
abbrev pub read_values : List ℕ → Option (List Scalar × List ℕ)
read_values bytes = chain (read_value bytes) scalars_in

-- an attempt for each of these values
abbrev pub read_for_each : List ℕ → Option (RetryKind × List ℕ)
read_for_each bytes =
    chain (read_values bytes)
    (λ values rest. chain (read_truth rest) (λ all after. Some (retry.ForEach values all, after)))

-- an attempt for each item of an argument
abbrev pub read_parameterized : List ℕ → Option (RetryKind × List ℕ)
read_parameterized bytes = chain (read_truth bytes) (λ all rest. Some (retry.Parameterized all, rest))

-- a kind of retry controller
abbrev pub read_retry_kind_of : ℕ → List ℕ → Option (RetryKind × List ℕ)
read_retry_kind_of tag bytes =
    if tag == 0 then Some (retry.AlwaysRevert, bytes)
    else if tag == 1 then Some (retry.AlwaysRevertAll, bytes)
    else if tag == 2 then read_times bytes
    else if tag == 3 then read_for_each bytes
    else if tag == 4 then read_parameterized bytes
    else None

abbrev pub read_retry_kind : List ℕ → Option (RetryKind × List ℕ)
read_retry_kind [] = None
read_retry_kind (tag ∷ bytes) = read_retry_kind_of tag bytes

-- a retry controller
abbrev pub read_retry : List ℕ → Option (Retry × List ℕ)
read_retry bytes =
    chain (read_name bytes) (λ name after_name.
    chain (read_retry_kind after_name) (λ kind after_kind.
    chain (read_args after_kind) (λ args after_args.
    chain (read_binds after_args) (λ inject after_inject.
    chain (read_provides after_inject) (λ provides rest.
    Some (record { name = name; kind = kind; args = args; inject = inject; provides = provides }, rest))))))
