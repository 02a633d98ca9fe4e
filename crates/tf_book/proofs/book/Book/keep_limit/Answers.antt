use Rattle.tf_book.proofs.AskLemmas.{sound_limit}
use Rattle.tf_book.proofs.book.Book.keep_limit.Goals as goal

pub invariant_of-self : goal.invariant_of-self
invariant_of-self g c = (c.self.invariant.0, c.self.invariant.1, c.self.invariant.2, sound_limit g.K.Desk.state _ _ _ _ c.self.invariant.3)
