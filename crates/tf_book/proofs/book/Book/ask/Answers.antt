use Rattle.std.proofs.Common.{rules}
use Rattle.tf_book.proofs.AskLemmas.{asks_turn, sound_asked}
use Rattle.tf_book.proofs.book.Book.ask.Goals as goal

pub invariant_of-self : goal.invariant_of-self
invariant_of-self g c =
    let s = c.ask.ensures in
    (c.self.invariant.0, c.self.invariant.1, c.self.invariant.2, sound_asked g.K.Desk.state _ _ _ _ c.ask.new.journal c.self.view_is c.requires.sound c.self.invariant.3 s.same s.asks)

pub returns-clause-takes : goal.returns-clause-takes
returns-clause-takes g c = asks_turn g.K.Desk.state _ _ c.ask.new.journal c.self.view_is c.ask.ensures.same c.ask.ensures.asks (search rules)
