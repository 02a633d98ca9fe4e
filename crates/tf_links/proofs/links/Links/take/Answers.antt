use Rattle.std.proofs.Common.{◌≡◌, ◌∙◌, sym, ap, List, ℕ}
use Rattle.tf_numbers.specs.Numbers.{has_number}
use Rattle.tf_links.proofs.StandingLemmas.{seen_more, seen_all, next_within}
use Rattle.tf_links.proofs.links.Links.take.Goals as goal

pub loop-next-preserved : goal.loop-next-preserved
loop-next-preserved c =
    let items : c.deref-next-items.result.now ≡ c.in_ok-nexts.nexts.items = c.deref-next-items.ensures.value in
    seen_more c.args.self.now c.args.item c.args.ready.now c.insert.new.self c.loop-next.ready c.set.new.self c.deref-next-items.result.now c.loop-next.next-index c.is_ready-on.result
    c.loop-next.invariant c.loop-next-test.true c.set.ensures.room
    (next_within c.args.self.now.count c.loop-next.next-index c.deref-next-items.result.now (λ k on. c.in_ok-nexts.ensures.within k (ap (λ (xs : List ℕ). has_number xs k) (sym items) ∙ on)) c.loop-next-test.true)
    c.is_ready-on.ensures c.set.ensures.set

pub returns-clause-ready : goal.returns-clause-ready
returns-clause-ready c =
    seen_all c.args.self.now c.args.item c.args.ready.now c.args.done.now c.insert.new.self c.loop-next.ready c.deref-next-items.result.now c.loop-next.next-index
    c.loop-next.invariant c.loop-next-test.false (c.deref-next-items.ensures.value ∙ c.in_ok-nexts.ensures.all) c.led_to.ensures.square c.insert.ensures.set c.requires.ready
