use Rattle.tf_details.proofs.EntryLemmas.{short_past}
use Rattle.tf_book.proofs.InvariantLemmas.{sound_leaves, sound_history}
use Rattle.tf_book.proofs.book.Book.state.Goals as goal

pub returns-clause-leaves : goal.returns-clause-leaves
returns-clause-leaves g c = λ told kept apart. sound_leaves g.K.Desk.state _ _ _ _ c.self.view_is c.self.invariant.3 told kept apart

pub returns-clause-history : goal.returns-clause-history
returns-clause-history g c = sound_history g.K.Desk.state _ _ _ _ c.self.view_is c.self.invariant.3

pub returns-clause-short : goal.returns-clause-short
returns-clause-short g c = short_past _ (sound_history g.K.Desk.state _ _ _ _ c.self.view_is c.self.invariant.3).forms
