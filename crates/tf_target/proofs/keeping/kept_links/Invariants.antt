use Rattle.std.proofs.Common.{◌≡◌, ◌&&◌, map, take, filter}
use Rattle.indexmap.specs.IndexSet.{contains}
use Rattle.tf_flow.specs.Outline.{connection_of}
use Rattle.tf_flow.specs.Tree.{same_name}
use Rattle.tf_target.proofs.keeping.kept_links.Given as goal

abbrev pub invariant-loop-link : goal.invariant-loop-link
invariant-loop-link l = map connection_of l.kept.items ≡ map connection_of (filter (λ link. contains same_name l.names link.from && contains same_name l.names link.to) (take l.link-index l.links))
