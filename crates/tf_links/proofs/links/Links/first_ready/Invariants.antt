use Rattle.tf_links.proofs.StandingLemmas.{ReadyBelow}
use Rattle.tf_links.proofs.links.Links.first_ready.Given as goal

abbrev pub invariant-loop-item : goal.invariant-loop-item
invariant-loop-item l = ReadyBelow l.self l.done l.ready l.item
