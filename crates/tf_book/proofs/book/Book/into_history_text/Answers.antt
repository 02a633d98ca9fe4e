use Rattle.std.proofs.Common.{refl}
use Rattle.tf_details.proofs.EntryLemmas.{entries_of}
use Rattle.tf_book.proofs.InvariantLemmas.{sound_history}
use Rattle.tf_book.proofs.book.Book.into_history_text.Goals as goal

pub whole_text-requires-clause-entries : goal.whole_text-requires-clause-entries
whole_text-requires-clause-entries g c = entries_of (sound_history g.K.Desk.state _ _ _ _ refl c.self.invariant.3)
