use Rattle.std.proofs.Common.{inl, inr, ⊎_elim}
use Rattle.tf_book.specs.Turns.{IsNoEndBy}
use Rattle.tf_book.proofs.TriedLemmas.{tried_by, close_tried}
use Rattle.tf_book.proofs.TurnLemmas.{on_err}
use Rattle.tf_book.proofs.book.Book.close_session.Goals as goal

pub returns-clause-tried : goal.returns-clause-tried
returns-clause-tried g c =
    on_err _ _ (tried_by (IsNoEndBy c.args.hand) c.args.self.now c.record.new.self _ c.record.result c.record.ensures.same
    (close_tried c.args.hand _ _ c.args.state (⊎_elim (λ is. inl is) (λ s. inr s.1) c.requires.ends)))
