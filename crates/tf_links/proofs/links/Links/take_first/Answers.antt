use Rattle.std.proofs.Common.{◌∙◌, sym}
use Rattle.tf_links.proofs.StandingLemmas.{taken_over, taken_more, taken_below}
use Rattle.tf_links.proofs.links.Links.take_first.Goals as goal

pub returns-in_default : goal.returns-in_default
returns-in_default c = λ rounds is. taken_over c.args.self.now c.args.done.now c.args.ready.now c.args.taken.now.items rounds is (sym c.first.ensures ∙ c.in_default.is)

pub take-requires-clause-item : goal.take-requires-clause-item
take-requires-clause-item c = taken_below c.args.self.now c.args.done.now c.args.ready.now c.in-Some.item c.requires.ready (sym c.in-Some.is ∙ c.first.ensures)

pub returns : goal.returns
returns c = λ rounds is. rw c.in_ok-push.ensures.items
    (taken_more c.args.self.now c.args.done.now c.args.ready.now c.args.taken.now.items c.take.new.done c.take.new.ready rounds c.in-Some.item is (sym c.in-Some.is ∙ c.first.ensures)
    c.in_ok-take.ensures.done_wide c.in_ok-take.ensures.wide c.in_ok-take.ensures.ready c.in_ok-take.ensures.done)
