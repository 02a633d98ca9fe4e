use Rattle.tf_links.specs.Links.{Taken}
use Rattle.tf_links.proofs.links.Links.standing.Given as goal

abbrev pub invariant-loop : goal.invariant-loop
invariant-loop l = Taken l.self l.done l.ready l.taken.items l.counter
