use Rattle.std.proofs.Common.{[], refl, ap}
use Rattle.tf_book.proofs.TurnLemmas.{last_cut, runs_from, to_running}
use Rattle.tf_book.specs.Book.{BookValue}
use Rattle.tf_book.proofs.book.Book.run.Goals as goal

pub returns-clause-cut : goal.returns-clause-cut
returns-clause-cut g c =
    last_cut c.args.hand c.args.self.now.past c.args.self.now.past _ [] (to_running c.args.hand) c.turn_to.result (runs_from c.args.hand _ c.requires.from).1 refl refl
    (ap (λ (b : BookValue _). b.past) c.turn_to.ensures.same)
