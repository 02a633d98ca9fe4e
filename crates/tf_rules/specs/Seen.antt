-- What the tests of a task's links see.
use Rattle.std.specs.Prelude.{ℕ, List, Bool, map, filter, filter_map}
use Rattle.tf_flow.specs.declared.deciders.Link.{Link}
use Rattle.tf_flow.specs.Outline.{Connection, connection_of}
use Rattle.tf_flow.specs.Tree.{same_name}
use Rattle.tf_model.specs.Readiness.{Named, decides_on, seen_by_link}
use Rattle.tf_model.specs.Plan.{outline_of}
use Rattle.tf_model.specs.History.{Snapshot}
use Rattle.tf_rules.specs.declared.conditions.Seen.{Seen}

-- those of the links that lead to the task of this name and have a decider
abbrev pub deciding : List ℕ → List Link → List Connection
deciding task links = filter (decides_on task) (map connection_of links)

-- the results of the sources of these links, by the sources' names
abbrev pub seen_in : Snapshot → Seen → List Named
seen_in s seen = filter_map (seen_by_link (outline_of seen.plan.now) s) (deciding seen.task.now seen.links.now)

-- the link begins at the task of this name
abbrev pub begins_at : List ℕ → Connection → Bool
begins_at name link = same_name link.from name
