-- The limits of a plan, and how many bytes its byte form has.
use Rattle.std.specs.Prelude.{ℕ, ◌+◌, max, List, [], ◌∷◌, Option, None, Some, length, sum_by, map, ◌-◌, ◌^◌, min, nat_lt, if◌then◌else◌, filter, option_map}
use Rattle.tf_values.specs.Scalars.{list_bytes}
use Rattle.tf_values.specs.Value.{byte_form}
use Rattle.tf_values.specs.declared.value.Val.{Val}
use Rattle.tf_flow.specs.declared.atoms.Arg.{Arg}
use Rattle.tf_flow.specs.declared.atoms.Bind.{Bind}
use Rattle.tf_flow.specs.declared.atoms.Provides.{Provides}
use Rattle.tf_flow.specs.declared.atoms.Provides.TheVariants as provides
use Rattle.tf_flow.specs.declared.atoms.Undo.{Undo}
use Rattle.tf_flow.specs.declared.atoms.Undo.TheVariants as undo
use Rattle.tf_flow.specs.declared.atoms.Task.{Task}
use Rattle.tf_flow.specs.declared.atoms.Retry.{Retry}
use Rattle.tf_flow.specs.declared.atoms.RetryKind.{RetryKind}
use Rattle.tf_flow.specs.declared.atoms.RetryKind.TheVariants as retry
use Rattle.tf_flow.specs.declared.deciders.Decider.{Decider}
use Rattle.tf_flow.specs.declared.deciders.Link.{Link}
use Rattle.tf_flow.specs.declared.deciders.Test.{Test}
use Rattle.tf_flow.specs.declared.deciders.Test.TheOpen.{Test-F, Tests-F}
use Rattle.tf_flow.specs.declared.deciders.Test.TheFolds.{fold-Test}
use Rattle.tf_flow.specs.Tree.{Place, at_flow, at_retry, at_task, Level, is_flow, is_atom, first_some}
use Rattle.std.specs.Option.{option_or}
use Rattle.tf_flow.specs.declared.faults.Limit.{Limit}
use Rattle.tf_flow.specs.declared.faults.Limit.TheVariants as limit
use Rattle.tf_flow.specs.declared.faults.PlanFault.{PlanFault}
use Rattle.tf_flow.specs.declared.faults.PlanFault.TheVariants as fault

-- ---- how many bytes the byte form of a plan has
-- Counts before a list are two bytes, the length of a text four and that of a name one; kinds, marks and tags are one
-- byte each.

abbrev pub name_len : List ℕ → ℕ
name_len name = 1 + length name

abbrev pub text_len : List ℕ → ℕ
text_len text = 4 + length text

abbrev pub value_len : Val → ℕ
value_len value = length (byte_form value)

abbrev pub words_len : List (List ℕ) → ℕ
words_len words = 2 + sum_by text_len words

abbrev pub names_len : List (List ℕ) → ℕ
names_len names = 2 + sum_by name_len names

abbrev pub arg_len : Arg → ℕ
arg_len arg = name_len arg.name + name_len arg.symbol

abbrev pub args_len : List Arg → ℕ
args_len args = 2 + sum_by arg_len args

abbrev pub bind_len : Bind → ℕ
bind_len bind = name_len bind.symbol + value_len bind.value

abbrev pub binds_len : List Bind → ℕ
binds_len binds = 2 + sum_by bind_len binds

abbrev pub provides_len : Provides → ℕ
provides_len provides.Nothing = 1
provides_len (provides.Whole name) = 1 + name_len name
provides_len (provides.Parts names) = 1 + names_len names

abbrev pub undo_len : Undo → ℕ
undo_len undo.Pass = 1
undo_len undo.Fail = 1
undo_len (undo.Run words) = 1 + words_len words

-- a task's priority has four bytes
abbrev pub task_len : Task → ℕ
task_len t =
    name_len t.name + 1 + words_len t.words + args_len t.args + binds_len t.inject + provides_len t.provides + 4 +
    undo_len t.undo

-- the number of attempts has two bytes
abbrev pub retry_kind_len : RetryKind → ℕ
retry_kind_len retry.AlwaysRevert = 1
retry_kind_len retry.AlwaysRevertAll = 1
retry_kind_len (retry.Times attempts all) = 1 + 2 + 1
retry_kind_len (retry.ForEach values all) = 1 + length (list_bytes values) + 1
retry_kind_len (retry.Parameterized all) = 1 + 1

abbrev pub retry_len : Retry → ℕ
retry_len r = name_len r.name + retry_kind_len r.kind + args_len r.args + binds_len r.inject + provides_len r.provides

-- what is counted of a test: how deep tests stand in one another, how many of them compare a result,
-- and the bytes
pub record Measure : Type 0 where
  pub nesting : ℕ
  pub comparisons : ℕ
  pub len : ℕ

-- a comparison with so many bytes after the tag
abbrev pub comparison : ℕ → Measure
comparison len = record { nesting = 1; comparisons = 1; len = 1 + len }

abbrev pub beside : Measure → Measure → Measure
beside m n =
    record { nesting = max m.nesting n.nesting; comparisons = m.comparisons + n.comparisons; len = m.len + n.len }

-- several tests beside one another
abbrev pub together : List Measure → Measure
together [] = record { nesting = 0; comparisons = 0; len = 0 }
together (m ∷ ms) = beside m (together ms)

-- a test around others, with so many bytes of its own
abbrev pub around : ℕ → Measure → Measure
around len m = record { nesting = 1 + m.nesting; comparisons = m.comparisons; len = len + m.len }

-- one level of a test, where those in it are measured already
abbrev pub measure_step : Test-F Measure Measure → Measure
measure_step (Test-F.Is name value) = comparison (name_len name + value_len value)
measure_step (Test-F.Below name number) = comparison (name_len name + 8)
measure_step (Test-F.Above name number) = comparison (name_len name + 8)
measure_step (Test-F.Not test) = around 1 test.value
measure_step (Test-F.All tests) = around 3 tests
measure_step (Test-F.Any tests) = around 3 tests

abbrev pub measures_step : Tests-F Measure Measure → Measure
measures_step tests = together tests.items.items

abbrev pub measure : Test → Measure
measure = fold-Test Measure Measure measure_step measures_step

abbrev pub measure_all : List Test → Measure
measure_all tests = together (map measure tests)

abbrev pub decider_len : Option Decider → ℕ
decider_len None = 1
decider_len (Some decider) = 2 + (measure decider.test).len

abbrev pub link_len : Link → ℕ
link_len link = name_len link.from + name_len link.to + decider_len link.decider

-- a flow itself: its name, its kind, the mark of a retry, two counts, a tag for each item, and its links
abbrev pub level_len : Level → ℕ
level_len level = name_len level.name + 6 + length level.members + sum_by link_len level.links

abbrev pub place_len : Place → ℕ
place_len (at_flow level) = level_len level
place_len (at_retry r) = retry_len r
place_len (at_task t) = task_len t

-- a plan: the flow with all that stands in it, the store and one mark
abbrev pub plan_len : List Place → List Bind → ℕ
plan_len order store = sum_by place_len order + binds_len store + 1

-- ---- the limits of a plan, and the count that passes each

-- a count that may grow without end stands still at the greatest number of 64 bits
abbrev pub capped : ℕ → ℕ
capped count = min count (2 ^ 64 - 1)

-- a count that passes its limit
abbrev pub passing : ℕ → ℕ → Option ℕ
passing most count = if nat_lt most count then Some count else None

abbrev pub provided : Provides → List (List ℕ)
provided provides.Nothing = []
provided (provides.Whole name) = name ∷ []
provided (provides.Parts names) = names

abbrev pub undo_words : Undo → List (List ℕ)
undo_words undo.Pass = []
undo_words undo.Fail = []
undo_words (undo.Run words) = words

abbrev pub passing_arguments : Place → Option ℕ
passing_arguments (at_flow level) = None
passing_arguments (at_retry r) = passing 64 (length r.args)
passing_arguments (at_task t) = passing 64 (length t.args)

abbrev pub passing_injects : Place → Option ℕ
passing_injects (at_flow level) = None
passing_injects (at_retry r) = passing 64 (length r.inject)
passing_injects (at_task t) = passing 64 (length t.inject)

abbrev pub passing_provided : Place → Option ℕ
passing_provided (at_flow level) = None
passing_provided (at_retry r) = passing 64 (length (provided r.provides))
passing_provided (at_task t) = passing 64 (length (provided t.provides))

-- a task's own words first, and then those that revert it
abbrev pub words_passing : ℕ → ℕ → Option ℕ
words_passing run undo = option_or (passing 64 run) (passing 64 undo)

abbrev pub passing_words : Place → Option ℕ
passing_words (at_flow level) = None
passing_words (at_retry r) = None
passing_words (at_task t) = words_passing (length t.words) (length (undo_words t.undo))

abbrev pub deep_test : Option Decider → Option ℕ
deep_test None = None
deep_test (Some decider) = passing 16 (capped (measure decider.test).nesting)

abbrev pub wide_test : Option Decider → Option ℕ
wide_test None = None
wide_test (Some decider) = passing 64 (capped (measure decider.test).comparisons)

-- deciders stand at their flow, in the order of its links
abbrev pub passing_nesting : Link → Option ℕ
passing_nesting link = deep_test link.decider

abbrev pub passing_comparisons : Link → Option ℕ
passing_comparisons link = wide_test link.decider

abbrev pub passing_links : Limit → List Link → Option ℕ
passing_links limit.Test links = first_some passing_nesting links
passing_links limit.Comparisons links = first_some passing_comparisons links
passing_links limit.Nesting links = None
passing_links limit.Atoms links = None
passing_links limit.Flows links = None
passing_links limit.Links links = None
passing_links limit.Arguments links = None
passing_links limit.Injects links = None
passing_links limit.Provided links = None
passing_links limit.Words links = None
passing_links limit.Store links = None
passing_links limit.Plan links = None

-- the count of what stands at one place, where it passes this limit of atoms or deciders
abbrev pub passing_at : Limit → Place → Option ℕ
passing_at which (at_flow level) = passing_links which level.links
passing_at limit.Arguments place = passing_arguments place
passing_at limit.Injects place = passing_injects place
passing_at limit.Provided place = passing_provided place
passing_at limit.Words place = passing_words place
passing_at limit.Nesting place = None
passing_at limit.Atoms place = None
passing_at limit.Flows place = None
passing_at limit.Links place = None
passing_at limit.Store place = None
passing_at limit.Test place = None
passing_at limit.Comparisons place = None
passing_at limit.Plan place = None

abbrev pub link_count : Place → ℕ
link_count (at_flow level) = length level.links
link_count (at_retry r) = 0
link_count (at_task t) = 0

-- The count that passes a limit: the tree's for nesting, atoms, flows and links, that of the first atom
-- or decider in tree order for what each of these has, and the bytes of the whole plan.
abbrev pub passed : ℕ → List Place → List Bind → Limit → Option ℕ
passed nesting order store limit.Nesting = passing 16 nesting
passed nesting order store limit.Atoms = passing 1000 (length (filter is_atom order))
passed nesting order store limit.Flows = passing 500 (length (filter is_flow order))
passed nesting order store limit.Links = passing 4000 (capped (sum_by link_count order))
passed nesting order store limit.Arguments = first_some (passing_at limit.Arguments) order
passed nesting order store limit.Injects = first_some (passing_at limit.Injects) order
passed nesting order store limit.Provided = first_some (passing_at limit.Provided) order
passed nesting order store limit.Words = first_some (passing_at limit.Words) order
passed nesting order store limit.Store = passing 256 (length store)
passed nesting order store limit.Test = first_some (passing_at limit.Test) order
passed nesting order store limit.Comparisons = first_some (passing_at limit.Comparisons) order
passed nesting order store limit.Plan = passing 1048576 (capped (plan_len order store))

-- the limits in the order in which they are looked at
abbrev pub limits : List Limit
limits =
    limit.Nesting ∷ limit.Atoms ∷ limit.Flows ∷ limit.Links
    ∷ limit.Arguments ∷ limit.Injects ∷ limit.Provided ∷ limit.Words
    ∷ limit.Store ∷ limit.Test ∷ limit.Comparisons ∷ limit.Plan
    ∷ []

abbrev pub limit_fault : ℕ → List Place → List Bind → Limit → Option PlanFault
limit_fault nesting order store which = option_map (λ n. fault.TooLarge which n) (passed nesting order store which)

-- the first limit that is passed
abbrev pub too_large : ℕ → List Place → List Bind → Option PlanFault
too_large nesting order store = first_some (limit_fault nesting order store) limits
