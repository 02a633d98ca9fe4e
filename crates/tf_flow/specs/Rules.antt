-- The rules of a plan, and the first that refuses it.
use Rattle.std.specs.Prelude.{ℕ, List, [], ◌∷◌, Bool, true, false, not, ◌&&◌, ◌||◌, nat_lt, Option, None, Some, is_some, if◌then◌else◌, length, map, filter, codes, ◌≡◌, option_map}
use Rattle.std.specs.List.{list_any}
use Rattle.tf_flow.specs.declared.atoms.Arg.{Arg}
use Rattle.tf_flow.specs.declared.atoms.Bind.{Bind}
use Rattle.tf_flow.specs.declared.atoms.Provides.{Provides}
use Rattle.tf_flow.specs.declared.atoms.Retry.{Retry}
use Rattle.tf_flow.specs.declared.atoms.RetryKind.{RetryKind}
use Rattle.tf_flow.specs.declared.atoms.RetryKind.TheVariants as retry
use Rattle.tf_flow.specs.declared.atoms.Task.{Task}
use Rattle.tf_flow.specs.declared.atoms.TaskKind.{TaskKind}
use Rattle.tf_flow.specs.declared.atoms.TaskKind.TheVariants as kind
use Rattle.tf_flow.specs.declared.atoms.Undo.{Undo}
use Rattle.tf_flow.specs.declared.atoms.Undo.TheVariants as undo
use Rattle.tf_flow.specs.declared.deciders.Link.{Link}
use Rattle.tf_flow.specs.declared.nested.FlowKind.{FlowKind}
use Rattle.tf_flow.specs.declared.nested.FlowKind.TheVariants as flow
use Rattle.tf_flow.specs.Limits.{provided, capped, too_large}
use Rattle.tf_flow.specs.Tree.{same_name, is_among, first_some, first_again, has_twice, Place, at_flow, at_retry, at_task, Member, Level, name_at, is_atom, tree_order, tree_of, nesting}
use Rattle.std.specs.Option.{option_or}
use Rattle.tf_flow.specs.declared.faults.PlanFault.{PlanFault}
use Rattle.tf_flow.specs.declared.faults.PlanFault.TheVariants as fault
use Rattle.tf_flow.specs.declared.nested.Flow.{Flow}

-- ---- the rules of links and of atoms

abbrev pub has_none : {X : Type 0} → List X → Bool
has_none [] = true
has_none (x ∷ xs) = false

-- the items of a flow by their names, and the nested flows among them
abbrev pub member_names : List Member → List (List ℕ)
member_names members = map (λ m. m.name) members

abbrev pub nested_names : List Member → List (List ℕ)
nested_names members = member_names (filter (λ m. not m.is_task) members)

-- the first end of a link that names no item of its flow
abbrev pub stray_end : List (List ℕ) → Link → Option (List ℕ)
stray_end names link =
    if is_among names link.from then (if is_among names link.to then None else Some link.to)
    else Some link.from

abbrev pub unknown_at : Place → Option (List ℕ)
unknown_at (at_flow level) = first_some (stray_end (member_names level.members)) level.links
unknown_at (at_retry r) = None
unknown_at (at_task t) = None

abbrev pub is_graph : FlowKind → Bool
is_graph flow.Linear = false
is_graph flow.Unordered = false
is_graph flow.Graph = true

abbrev pub has_stray_links : FlowKind → List Link → Bool
has_stray_links kind links = not (is_graph kind) && not (has_none links)

abbrev pub ends : Link → List ℕ × List ℕ
ends link = (link.from, link.to)

abbrev pub same_ends : List ℕ × List ℕ → List ℕ × List ℕ → Bool
same_ends a b = same_name a.0 b.0 && same_name a.1 b.1

-- a decider stands between tasks alone
abbrev pub decides_flow : List (List ℕ) → Link → Bool
decides_flow nested link = is_some link.decider && (is_among nested link.from || is_among nested link.to)

-- links in a flow that is no graph, one pair linked twice, or a decider at a nested flow
abbrev pub has_bad_link : Level → Bool
has_bad_link level =
    has_stray_links level.kind level.links
    || is_some (first_again same_ends (map ends level.links))
    || list_any (decides_flow (nested_names level.members)) level.links

abbrev pub bad_link_at : Place → Option (List ℕ)
bad_link_at (at_flow level) = if has_bad_link level then Some level.name else None
bad_link_at (at_retry r) = None
bad_link_at (at_task t) = None

-- the least arguments of a task
abbrev pub least_arguments : TaskKind → ℕ
least_arguments kind.Echo = 0
least_arguments kind.Concat = 0
least_arguments kind.Sum = 0
least_arguments kind.Length = 1
least_arguments kind.Pick = 2
least_arguments kind.List = 0
least_arguments kind.Fail = 0
least_arguments kind.FailBelow = 2
least_arguments kind.FailUnless = 1
least_arguments kind.Command = 0

abbrev pub is_command : TaskKind → Bool
is_command kind.Echo = false
is_command kind.Concat = false
is_command kind.Sum = false
is_command kind.Length = false
is_command kind.Pick = false
is_command kind.List = false
is_command kind.Fail = false
is_command kind.FailBelow = false
is_command kind.FailUnless = false
is_command kind.Command = true

-- a command without words, or words in another kind
abbrev pub has_wrong_words : TaskKind → List (List ℕ) → Bool
has_wrong_words task_kind words = if is_command task_kind then has_none words else not (has_none words)

-- a program without words
abbrev pub runs_nothing : Undo → Bool
runs_nothing undo.Pass = false
runs_nothing undo.Fail = false
runs_nothing (undo.Run words) = has_none words

abbrev pub arg_names : List Arg → List (List ℕ)
arg_names args = map (λ arg. arg.name) args

abbrev pub bind_symbols : List Bind → List (List ℕ)
bind_symbols binds = map (λ bind. bind.symbol) binds

-- an argument name, an inject symbol or a provided name twice
abbrev pub repeats_itself : List Arg → List Bind → Provides → Bool
repeats_itself args inject provides =
    has_twice (arg_names args) || has_twice (bind_symbols inject) || has_twice (provided provides)

abbrev pub is_bad_task : Task → Bool
is_bad_task t =
    nat_lt (length t.args) (least_arguments t.kind)
    || has_wrong_words t.kind t.words
    || runs_nothing t.undo
    || repeats_itself t.args t.inject t.provides

-- attempts outside 1 to 1,000, or a parameterized retry without an argument `values`
abbrev pub is_bad_retry_kind : RetryKind → List Arg → Bool
is_bad_retry_kind retry.AlwaysRevert args = false
is_bad_retry_kind retry.AlwaysRevertAll args = false
is_bad_retry_kind (retry.Times attempts all) args = nat_lt attempts 1 || nat_lt 1000 attempts
is_bad_retry_kind (retry.ForEach values all) args = false
is_bad_retry_kind (retry.Parameterized all) args = not (is_among (arg_names args) (codes "values"))

abbrev pub is_bad_retry : Retry → Bool
is_bad_retry r = is_bad_retry_kind r.kind r.args || repeats_itself r.args r.inject r.provides

abbrev pub is_bad_atom : Place → Bool
is_bad_atom (at_flow level) = false
is_bad_atom (at_retry r) = is_bad_retry r
is_bad_atom (at_task t) = is_bad_task t

abbrev pub bad_atom_at : Place → Option (List ℕ)
bad_atom_at place = if is_bad_atom place then Some (name_at place) else None

-- ---- whether flows make a plan: the first refusal

-- no atom in the tree
abbrev pub empty : List Place → Option PlanFault
empty order = if has_none (filter is_atom order) then Some fault.Empty else None

-- a name that stands earlier already
abbrev pub duplicate : List Place → Option PlanFault
duplicate order = option_map (λ name. fault.Duplicate name) (first_again same_name (map name_at order))

abbrev pub unknown : List Place → Option PlanFault
unknown order = option_map (λ name. fault.Unknown name) (first_some unknown_at order)

abbrev pub bad_link : List Place → Option PlanFault
bad_link order = option_map (λ name. fault.BadLink name) (first_some bad_link_at order)

-- a store symbol twice is the root's fault, and the root stands before every atom
abbrev pub bad_atom : List ℕ → List Bind → List Place → Option PlanFault
bad_atom root store order =
    option_map (λ name. fault.BadAtom name)
    (if has_twice (bind_symbols store) then Some root else first_some bad_atom_at order)

-- what is looked for after the limits, in this order
abbrev pub broken_rule : List ℕ → List Bind → List Place → Option PlanFault
broken_rule root store order =
    option_or (empty order)
    (option_or (duplicate order) (option_or (unknown order) (option_or (bad_link order) (bad_atom root store order))))

-- the first refusal of what would be a plan: a limit that is passed, or else a rule that is broken
abbrev pub first_refusal : Flow → List Bind → Option PlanFault
first_refusal root store =
    option_or (too_large (capped (nesting (tree_of root))) (tree_order root) store)
    (broken_rule root.name store (tree_order root))

-- want of memory says nothing of the plan; every other answer is its first refusal
abbrev pub IsAnswer : Option PlanFault → PlanFault → Type 0
IsAnswer refusal fault.Memory = Unit {0}
IsAnswer refusal (fault.TooLarge which n) = refusal ≡ Some (fault.TooLarge which n)
IsAnswer refusal fault.Empty = refusal ≡ Some fault.Empty
IsAnswer refusal (fault.Duplicate name) = refusal ≡ Some (fault.Duplicate name)
IsAnswer refusal (fault.Unknown name) = refusal ≡ Some (fault.Unknown name)
IsAnswer refusal (fault.BadLink name) = refusal ≡ Some (fault.BadLink name)
IsAnswer refusal (fault.BadAtom name) = refusal ≡ Some (fault.BadAtom name)
