-- What the code's places show.
use Rattle.std.specs.Prelude.{List, map}
use Rattle.tf_flow.specs.declared.nested.Flow.{Flow}
use Rattle.tf_flow.specs.declared.nested.Item.{Item}
use Rattle.tf_flow.specs.declared.outline.Place.{Place as CodePlace}
use Rattle.tf_flow.specs.declared.outline.Place.TheVariants as code
use Rattle.tf_flow.specs.Tree.{Place, at_flow, at_retry, at_task, Level, Member, members_of, trees_of, item_tree}

-- items as members
abbrev pub members : List Item → List Member
members items = members_of (trees_of (map item_tree items))

-- a flow without what stands below it
abbrev pub level : Flow → Level
level f = record { name = f.name; kind = f.kind; links = f.links; members = members f.items.items.items }

abbrev pub shown : CodePlace → Place
shown (code.Flow f) = at_flow (level f.now)
shown (code.Retry r) = at_retry r.now
shown (code.Task t) = at_task t.now

abbrev pub shown_places : List CodePlace → List Place
shown_places = map shown
