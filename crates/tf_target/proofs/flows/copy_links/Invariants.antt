use Rattle.std.proofs.Common.{◌≡◌, map, take}
use Rattle.tf_flow.specs.Outline.{connection_of}
use Rattle.tf_target.proofs.flows.copy_links.Given as goal

abbrev pub invariant-loop-link : goal.invariant-loop-link
invariant-loop-link l = map connection_of l.copies.items ≡ map connection_of (take l.link-index l.links)
