use Rattle.std.proofs.Common.{◌∙◌, ap, sym, inl, inr}
use Rattle.std.specs.Prelude.{is_some}
use Rattle.tf_book.proofs.ForceLemmas.{err_so, ends_now, cut_end}
use Rattle.tf_book.proofs.TurnLemmas.{on_err}
use Rattle.tf_book.proofs.book.Book.stop.Goals as goal

pub returns-in_default-clause-cut : goal.returns-in_default-clause-cut
returns-in_default-clause-cut g c = err_so _ _ _ (λ closed. inr (sym c.end_now.ensures ∙ c.in_default.is, closed)) c.suspend.ensures.cut

pub returns-in_err-close_session-clause-cut : goal.returns-in_err-close_session-clause-cut
returns-in_err-close_session-clause-cut g c =
    let here = sym c.end_now.ensures ∙ c.in-Some.is in
    let ends = ends_now _ _ _ here in
    on_err _ _ (inl (ap is_some here, cut_end _ _ _ _ _ _ ends.0 ends.1 c.close_session.ensures.past))
