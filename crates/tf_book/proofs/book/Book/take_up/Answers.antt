use Rattle.std.proofs.Common.{sym, subst}
use Rattle.tf_states.specs.declared.record.What.{What}
use Rattle.tf_hands.specs.Hands.{by_hand}
use Rattle.tf_book.specs.Book.{outline}
use Rattle.tf_book.specs.Turns.{IsNoEndBy}
use Rattle.tf_book.proofs.TriedLemmas.{tried_by, start_tried}
use Rattle.tf_book.proofs.TurnLemmas.{on_err}
use Rattle.tf_book.proofs.book.Book.take_up.Goals as goal

pub returns-in_err-record-clause-tried : goal.returns-in_err-record-clause-tried
returns-in_err-record-clause-tried g c =
    on_err _ _ (tried_by (IsNoEndBy c.args.hand) c.args.self.now c.record.new.self _ c.record.result c.record.ensures.same
    (subst (λ (w : What). IsNoEndBy c.args.hand (outline c.args.self.now) c.args.self.now.past (by_hand c.args.hand w)) (sym c.what-what.ensures)
    (start_tried c.args.hand _ _ c.args.start c.requires.chosen)))
