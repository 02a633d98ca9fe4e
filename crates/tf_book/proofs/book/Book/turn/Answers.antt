use Rattle.std.proofs.Common.{◌∙◌, sym}
use Rattle.tf_book.proofs.ForceLemmas.{err_so, halted_wind}
use Rattle.tf_book.proofs.book.Book.turn.Goals as goal

pub returns-in-Suspending-clause-cut : goal.returns-in-Suspending-clause-cut
returns-in-Suspending-clause-cut g c = err_so _ _ _ (halted_wind _ _ _ _ _ _ (sym c.flow-state.ensures ∙ c.in-Suspending.is)) c.wind_up.ensures.cut
