-- The flow that is generated from a seed and a size.
use Rattle.std.specs.Prelude.{ℕ, zero, suc, ◌+◌, ◌*◌, ◌%◌, pos, ◌-◌, ◌/◌, min, List, [], ◌∷◌, ◌++◌, codes, map, false, Some, None, nat_eq, if◌then◌else◌}
use Rattle.std.specs.Fmt.{decimal}
use Rattle.tf_values.specs.declared.value.Val.{Val}
use Rattle.tf_values.specs.declared.value.Val.TheVariants as value
use Rattle.tf_flow.specs.declared.atoms.Arg.{Arg}
use Rattle.tf_flow.specs.declared.atoms.Provides.TheVariants as provides
use Rattle.tf_flow.specs.declared.atoms.Retry.{Retry}
use Rattle.tf_flow.specs.declared.atoms.RetryKind.TheVariants as retry
use Rattle.tf_flow.specs.declared.atoms.Task.{Task}
use Rattle.tf_flow.specs.declared.atoms.TaskKind.{TaskKind}
use Rattle.tf_flow.specs.declared.atoms.TaskKind.TheVariants as kind
use Rattle.tf_flow.specs.declared.atoms.Undo.TheVariants as undo
use Rattle.tf_flow.specs.declared.nested.FlowKind.{FlowKind}
use Rattle.tf_flow.specs.declared.nested.FlowKind.TheVariants as pattern
use Rattle.tf_flow.specs.Tree.{Tree, task, flow, trees_of}

-- ---- the numbers that are drawn for the generated flow

-- the state after a draw: 75 times the state and 74 more, modulo 65,537; the draw of n gives it modulo n
abbrev pub drawn : ℕ → ℕ
drawn state = (75 * state + 74) % 65537

-- the state after so many draws
abbrev pub after : ℕ → ℕ → ℕ
after zero state = state
after (suc draws) state = after draws (drawn state)

-- ---- the flow that is generated from a seed and a size

-- ---- names: a letter and a number in decimal digits

-- the name of a group
abbrev pub group_name : ℕ → List ℕ
group_name group = codes "g" ++ decimal group

-- the name of its retry controller
abbrev pub retry_name : ℕ → List ℕ
retry_name group = codes "r" ++ decimal group

-- the symbol that this one provides: the number of the attempt
abbrev pub attempt_name : ℕ → List ℕ
attempt_name group = codes "n" ++ decimal group

-- the name of a task
abbrev pub task_name : ℕ → List ℕ
task_name number = codes "t" ++ decimal number

-- ---- tasks

-- the argument that takes the symbol of its own name
abbrev pub argument : List ℕ → Arg
argument symbol = record { name = symbol; symbol = symbol }

-- a task with these names required and one symbol injected, as a flow file gives it: the arguments are the names and
-- then the symbol, and all else is what a file gives that says nothing of it
abbrev pub plain_task : ℕ → TaskKind → List (List ℕ) → List ℕ → Val → Task
plain_task number what required symbol constant = record {
  name = task_name number;
  kind = what;
  words = [];
  args = map argument (required ++ symbol ∷ []);
  inject = record { symbol = symbol; value = constant } ∷ [];
  provides = provides.Nothing;
  priority = pos 0;
  undo = undo.Pass;
}

-- the four tasks that a number may be: it gives its number; it fails before the group's second attempt; it adds its
-- number to that of the attempt; it joins the text x to that
abbrev pub echo_task : ℕ → Task
echo_task number = plain_task number kind.Echo [] (codes "value") (value.Int (pos number))

abbrev pub fail_below_task : ℕ → ℕ → Task
fail_below_task group number =
    plain_task number kind.FailBelow (attempt_name group ∷ []) (codes "limit") (value.Int (pos 2))

abbrev pub sum_task : ℕ → ℕ → Task
sum_task group number = plain_task number kind.Sum (attempt_name group ∷ []) (codes "k") (value.Int (pos number))

abbrev pub concat_task : ℕ → ℕ → Task
concat_task group number =
    plain_task number kind.Concat (attempt_name group ∷ []) (codes "text") (value.Text (codes "x"))

-- the task of a number in a group, by a draw of 4
abbrev pub task_drawn : ℕ → ℕ → ℕ → Task
task_drawn group number draw =
    if nat_eq draw 0 then echo_task number
    else if nat_eq draw 1 then fail_below_task group number
    else if nat_eq draw 2 then sum_task group number
    else concat_task group number

-- so many tasks of a group, from a number on; each draws its kind
abbrev pub tasks_from : ℕ → ℕ → ℕ → ℕ → List Tree
tasks_from group zero number state = []
tasks_from group (suc left) number state =
    task (task_drawn group number (drawn state % 4)) ∷ tasks_from group left (suc number) (drawn state)

-- ---- groups

-- the retry controller of a group: two attempts, and its result is the symbol's value
abbrev pub retry_of : ℕ → Retry
retry_of group = record {
  name = retry_name group;
  kind = retry.Times 2 false;
  args = [];
  inject = [];
  provides = provides.Whole (attempt_name group);
}

-- the kind of a group, by a draw of 3
abbrev pub pattern_drawn : ℕ → FlowKind
pattern_drawn draw =
    if nat_eq draw 0 then pattern.Linear else if nat_eq draw 1 then pattern.Unordered else pattern.Graph

-- how many tasks a group has: those with numbers from ten times its own to nine more that are below the size
abbrev pub group_size : ℕ → ℕ → ℕ
group_size size group = min (size - 10 * group) 10

-- a group: it draws its kind, and then its tasks draw theirs
abbrev pub group_flow : ℕ → ℕ → ℕ → Tree
group_flow size group state =
    flow record {
      name = group_name group;
      kind = pattern_drawn (drawn state % 3);
      retry = Some
          (retry_of group);
      links = [];
    }
    (trees_of (tasks_from group (group_size size group) (10 * group) (drawn state)))

-- so many groups, from a number on; each draws on from the state that the one before left
abbrev pub groups_from : ℕ → ℕ → ℕ → ℕ → List Tree
groups_from size zero group state = []
groups_from size (suc left) group state =
    group_flow size group state ∷ groups_from size left (suc group) (after (1 + group_size size group) state)

-- ---- the flow

-- how many groups have a task
abbrev pub group_count : ℕ → ℕ
group_count size = (size + 9) / 10

-- the generated flow
unfoldable pub demo_flow : ℕ → ℕ → Tree
demo_flow seed size =
    flow record { name = codes "demo"; kind = pattern.Linear; retry = None; links = [] }
    (trees_of (groups_from size (group_count size) 0 seed))
