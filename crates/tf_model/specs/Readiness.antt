-- Which atom can run or revert, and which is refused or ignored.
use Rattle.std.specs.Prelude.{ℕ, Bool, false, not, ◌&&◌, ◌||◌, Option, Some, None, is_none, nat_eq, ℤ, List, [], ◌∷◌, true, ◌==◌, is_some, filter, filter_map, int_lt, if◌then◌else◌}
use Rattle.tf_numbers.specs.Numbers.{all_below, any_below, first_below, is_number, Pair, has_pair}
use Rattle.tf_model.specs.Plan.{Outline, count, is_before, path, is_task, own_flow, atom_name}
use Rattle.tf_model.specs.History.{Resolve, Snapshot, is_again, is_pending, is_done, is_settled, is_executed, is_success, is_ignored}
use Rattle.std.specs.Cmp.Lexicographic.{pointwise}
use Rattle.std.specs.Option.{option_and_then, unwrap_or}
use Rattle.tf_values.specs.declared.value.Val.{Val}
use Rattle.tf_values.specs.declared.value.Val.TheVariants as value
use Rattle.tf_values.specs.Value.{byte_form}
use Rattle.tf_flow.specs.declared.deciders.Depth.{Depth}
use Rattle.tf_flow.specs.declared.deciders.Depth.TheVariants as depth
use Rattle.tf_flow.specs.Tree.{same_name}
use Rattle.tf_states.specs.declared.record.Payload.{Payload}
use Rattle.tf_states.specs.declared.record.Payload.TheVariants as payload
use Rattle.tf_flow.specs.Outline.{Condition, is_same, is_below, is_above, negated, all_of, any_of, Conditions, no_conditions, condition, Decision, Connection}
use Rattle.tf_flow.specs.declared.paths.Turn.{Turn}
use Rattle.tf_model.specs.Before.{Flow, find_flow, no_flow}

-- ---- which atom is marked how, which can run and which can revert

-- a's mark is EXECUTE
abbrev pub is_unmarked : Snapshot → ℕ → Bool
is_unmarked s a = is_none (s.mark a)

-- the mark is REVERT
abbrev pub is_to_revert : Option Resolve → Bool
is_to_revert None = false
is_to_revert (Some resolve) = not (is_again resolve.kind)

-- the mark comes from a resolve of flow g
abbrev pub marks_from : ℕ → Option Resolve → Bool
marks_from g None = false
marks_from g (Some resolve) = nat_eq resolve.flow g

-- a's mark does
abbrev pub is_marked_from : Snapshot → ℕ → ℕ → Bool
is_marked_from s g a = marks_from g (s.mark a)

-- flow g is a region: an atom's mark comes from a resolve of it
abbrev pub is_region : Outline → Snapshot → ℕ → Bool
is_region plan s g = any_below (count plan) (is_marked_from s g)

-- b isn't before a, or is done with
abbrev pub lets_run : Outline → Snapshot → ℕ → ℕ → Bool
lets_run plan s a b = not (is_before plan b a) || is_done (s.state b)

-- a is PENDING, its mark is EXECUTE, and every atom before it is SUCCESS or IGNORE
unfoldable pub can_run : Outline → Snapshot → ℕ → Bool
can_run plan s a = (is_pending (s.state a) && is_unmarked s a) && all_below (count plan) (lets_run plan s a)

-- b isn't after a, or is settled
abbrev pub lets_revert : Outline → Snapshot → ℕ → ℕ → Bool
lets_revert plan s a b = not (is_before plan a b) || is_settled (s.state b)

-- a is SUCCESS or FAILURE, its mark isn't EXECUTE, and every atom after it is settled
unfoldable pub can_revert : Outline → Snapshot → ℕ → Bool
can_revert plan s a =
    (is_executed (s.state a) && not (is_unmarked s a)) && all_below (count plan) (lets_revert plan s a)

-- ---- when a task is refused, and what is ignored then

-- the result of a task, by its name
pub record Named : Type 0 where
  pub name : List ℕ
  pub result : Val

-- the result of a name, where there is one
abbrev pub result_of : List Named → List ℕ → Option Val
result_of [] name = None
result_of (named ∷ others) name = if same_name named.name name then Some named.result else result_of others name

-- values are the same where their byte forms are: a byte form has one reading
abbrev pub same_value : Val → Val → Bool
same_value v w = pointwise ◌==◌ (byte_form v) (byte_form w)

-- a comparison with an absent result is false, and so are `below` and `above` of what is no Int
abbrev pub compares_same : Val → Option Val → Bool
compares_same wanted None = false
compares_same wanted (Some result) = same_value result wanted

-- the result is an Int below the limit
abbrev pub compares_below : ℤ → Option Val → Bool
compares_below limit (Some (value.Int number)) = int_lt number limit
compares_below limit other = false

-- the result is an Int above the limit
abbrev pub compares_above : ℤ → Option Val → Bool
compares_above limit (Some (value.Int number)) = int_lt limit number
compares_above limit other = false

-- whether a test is true of the results that it sees
abbrev mutual
  pub passes : List Named → Condition → Bool
  passes results (is_same name wanted) = compares_same wanted (result_of results name)
  passes results (is_below name limit) = compares_below limit (result_of results name)
  passes results (is_above name limit) = compares_above limit (result_of results name)
  passes results (negated test) = not (passes results test)
  passes results (all_of tests) = passes_all results tests
  passes results (any_of tests) = passes_one results tests

  pub passes_all : List Named → Conditions → Bool
  passes_all results no_conditions = true
  passes_all results (condition test others) = passes results test && passes_all results others

  pub passes_one : List Named → Conditions → Bool
  passes_one results no_conditions = false
  passes_one results (condition test others) = passes results test || passes_one results others

-- the flow in which a stands itself
abbrev pub home : Outline → ℕ → Flow
home plan a = unwrap_or (option_and_then (find_flow plan.flows) (own_flow plan a)) no_flow

-- the link leads to the atom of this name and has a decider
abbrev pub decides_on : List ℕ → Connection → Bool
decides_on name link = same_name link.to name && is_some link.decision

-- v's links with deciders
abbrev pub decider_links : Outline → ℕ → List Connection
decider_links plan v = filter (decides_on (atom_name plan v)) (home plan v).place.links

-- a has this name
abbrev pub is_named : Outline → List ℕ → ℕ → Bool
is_named plan name a = same_name (atom_name plan a) name

-- the atom of a name
abbrev pub atom_named : Outline → List ℕ → Option ℕ
atom_named plan name = first_below (count plan) (is_named plan name)

-- a result with its name, where the payload is one
abbrev pub named_result : List ℕ → Payload → Option Named
named_result name (payload.Value result) = Some (record { name = name; result = result })
named_result name payload.Empty = None
named_result name (payload.Fault fault) = None

-- the result of the atom, where there is one and it is SUCCESS
abbrev pub seen_at : Snapshot → List ℕ → Option ℕ → Option Named
seen_at s name None = None
seen_at s name (Some a) = if is_success (s.state a) then named_result name (s.payload a) else None

-- the result of a link's source
abbrev pub seen_by_link : Outline → Snapshot → Connection → Option Named
seen_by_link plan s link = seen_at s link.from (atom_named plan link.from)

-- what v's tests see: the results of the sources of its links with deciders that are SUCCESS, by the source's name
abbrev pub seen : Outline → Snapshot → ℕ → List Named
seen plan s v = filter_map (seen_by_link plan s) (decider_links plan v)

-- the atom, where there is one, is IGNORE
abbrev pub was_ignored : Snapshot → Option ℕ → Bool
was_ignored s None = false
was_ignored s (Some a) = is_ignored (s.state a)

-- the depth of a decider whose test is false
abbrev pub depth_if_false : List Named → Option Decision → Option Depth
depth_if_false results None = None
depth_if_false results (Some decision) = if passes results decision.condition then None else Some decision.depth

-- the depth of a link whose test is false; a link whose source was ignored isn't asked
abbrev pub refused_depth : Outline → Snapshot → List Named → Connection → Option Depth
refused_depth plan s results link =
    if was_ignored s (atom_named plan link.from) then None else depth_if_false results link.decision

-- the wider of two depths: ALL, FLOW, NEIGHBORS, ATOM
abbrev pub wider : Depth → Depth → Depth
wider depth.All other = depth.All
wider depth.Flow depth.All = depth.All
wider depth.Flow other = depth.Flow
wider depth.Neighbors depth.Atom = depth.Neighbors
wider depth.Neighbors other = other
wider depth.Atom other = other

-- the wider of a depth and another, where there is another
abbrev pub wider_of : Depth → Option Depth → Depth
wider_of first None = first
wider_of first (Some other) = wider first other

-- the widest of the depths
abbrev pub widest : List Depth → Option Depth
widest [] = None
widest (first ∷ others) = Some (wider_of first (widest others))

-- v is refused where the test of one of its links is false; the widest depth among these links counts
unfoldable pub refused : Outline → Snapshot → ℕ → Option Depth
refused plan s v = widest (filter_map (refused_depth plan s (seen plan s v)) (decider_links plan v))

-- where a stands in its own flow: at an item, or as its retry controller
abbrev pub last_item : List Turn → Option ℕ
last_item [] = None
last_item (turn ∷ []) = turn.item
last_item (turn ∷ next ∷ turns) = last_item (next ∷ turns)

-- both flows are there, and are one
abbrev pub same_flow : Option ℕ → Option ℕ → Bool
same_flow None other = false
same_flow (Some g) other = is_number other g

-- a is a task and an item of v's own flow
abbrev pub is_sibling : Outline → ℕ → ℕ → Bool
is_sibling plan v a = is_task plan a && same_flow (own_flow plan a) (own_flow plan v)

-- both items are there, and the first is linked to the second
abbrev pub linked_places : List Pair → Option ℕ → Option ℕ → Bool
linked_places linked None to = false
linked_places linked (Some u) None = false
linked_places linked (Some u) (Some w) = has_pair linked u w

-- a link of v's own flow leads from v to a
abbrev pub is_neighbor : Outline → ℕ → ℕ → Bool
is_neighbor plan v a =
    is_sibling plan v a && linked_places (home plan v).linked (last_item (path plan v)) (last_item (path plan a))

-- what a refused v ignores besides itself: all atoms after it; the tasks of its own flow that are after
-- it; the tasks that a link leads to from it; or nothing
abbrev pub ignores_other : Outline → ℕ → Depth → ℕ → Bool
ignores_other plan v depth.All a = is_before plan v a
ignores_other plan v depth.Flow a = is_sibling plan v a && is_before plan v a
ignores_other plan v depth.Neighbors a = is_neighbor plan v a
ignores_other plan v depth.Atom a = false

-- the depth of v ignores a
unfoldable pub ignores : Outline → ℕ → Depth → ℕ → Bool
ignores plan v how a = nat_eq v a || ignores_other plan v how a
