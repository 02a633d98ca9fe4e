use Rattle.std.proofs.Common.{subst}
use Rattle.tf_shared_board.specs.Shared.{SharedValue}
use Rattle.tf_conductor.specs.Conducting.{MakesNoCall}
use Rattle.tf_conductor.specs.Rounds.{IsNobodys}
use Rattle.tf_conductor.proofs.TurnLemmas.{kept_none}
use Rattle.tf_conductor.proofs.conducting.conclude.Goals as goal

pub returns-clause-board : goal.returns-clause-board
returns-clause-board g c =
    let state = g.K.Desk.state in
    kept_none state IsNobodys c.args.board c.halt_where.new.shared c.into_shared-shared.ensures.kept
    (subst (λ (s : SharedValue g.row.K.Denot). MakesNoCall state IsNobodys s c.halt_where.new.shared) c.into_shared-shared.ensures.shared c.halt_where.ensures.none) (λ m no. absurd no)
