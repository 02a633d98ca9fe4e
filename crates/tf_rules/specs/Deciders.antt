-- The depths of a task's deciders.
use Rattle.std.specs.Prelude.{List, [], ◌∷◌, Bool, true, false, Option, Some, None, filter_map}
use Rattle.tf_flow.specs.declared.deciders.Depth.{Depth}
use Rattle.tf_flow.specs.declared.deciders.Link.{Link}
use Rattle.tf_flow.specs.Outline.{Connection}
use Rattle.tf_model.specs.Readiness.{wider, refused_depth}
use Rattle.tf_model.specs.Plan.{outline_of}
use Rattle.tf_model.specs.History.{Snapshot}
use Rattle.tf_rules.specs.declared.conditions.Seen.{Seen}
use Rattle.tf_rules.specs.Seen.{deciding, seen_in}

-- there is a link in the list
abbrev pub has_any : List Connection → Bool
has_any [] = false
has_any (link ∷ links) = true

-- the wider of two depths, where there are two
abbrev pub wider_if_any : Option Depth → Option Depth → Option Depth
wider_if_any None other = other
wider_if_any (Some one) None = Some one
wider_if_any (Some one) (Some other) = Some (wider one other)

-- the depths of these links, as far as they refuse the task whose tests see this
abbrev pub refusing_depths : Snapshot → Seen → List Link → List Depth
refusing_depths s seen links =
    filter_map (refused_depth (outline_of seen.plan.now) s (seen_in s seen)) (deciding seen.task.now links)
