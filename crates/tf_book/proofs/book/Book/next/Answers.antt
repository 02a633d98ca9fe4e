use Rattle.tf_book.proofs.AskLemmas.{turn_asked, halted_asked, never_asked}
use Rattle.tf_book.proofs.book.Book.next.Goals as goal

pub returns-in-Some-clause-cut : goal.returns-in-Some-clause-cut
returns-in-Some-clause-cut g c = never_asked _ _ _ _ _

pub returns-in-Ok-clause-turn : goal.returns-in-Ok-clause-turn
returns-in-Ok-clause-turn g c =
    turn_asked c.args.self.now c.ask-asked.new.self _ _ _ _ _ _ _ c.ask-asked.ensures.same c.ask-asked.ensures.answered c.turn.ensures.proceeds.unasked.asks c.in-Ok.ensures.turn

pub returns-in-Err-clause-cut : goal.returns-in-Err-clause-cut
returns-in-Err-clause-cut g c =
    halted_asked c.args.self.now c.ask-asked.new.self _ _ _ _ _ _ c.ask-asked.ensures.same c.ask-asked.ensures.answered c.turn.ensures.proceeds.unasked.asks c.in-Err.ensures.cut
