use Rattle.std.proofs.Common.{take}
use Rattle.tf_links.proofs.StandingLemmas.{ReadyAmong}
use Rattle.tf_links.proofs.links.Links.take.Given as goal

abbrev pub invariant-loop-next : goal.invariant-loop-next
invariant-loop-next l = ReadyAmong l.self l.item l.fn.ready l.done l.ready (take l.next-index l.next-items)
