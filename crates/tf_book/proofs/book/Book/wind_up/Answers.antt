use Rattle.std.proofs.Common.{◌∙◌, sym}
use Rattle.tf_book.proofs.ForceLemmas.{cut_end}
use Rattle.tf_book.proofs.TurnLemmas.{on_err}
use Rattle.tf_book.proofs.book.Book.wind_up.Goals as goal

pub returns-in_err-close_session-2-clause-cut : goal.returns-in_err-close_session-2-clause-cut
returns-in_err-close_session-2-clause-cut g c =
    on_err _ _ (cut_end _ _ _ _ _ _ (sym c.is_still.ensures ∙ c.if-not-is_still.false) (sym c.ended.ensures.is ∙ c.in-Some.is) c.close_session-2.ensures.past)
