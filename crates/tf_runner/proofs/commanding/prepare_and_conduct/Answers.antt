use Rattle.std.proofs.Common.{refl, sym, subst}
use Rattle.tf_desk.specs.State.{told_as}
use Rattle.tf_board.proofs.ActLemmas.{reached_back, said_causes}
use Rattle.tf_board.proofs.EndLemmas.{concludes_none, opened_reached, reached_stops}
use Rattle.tf_runner.specs.Conducts.{unready}
use Rattle.tf_runner.specs.Reading.{AreReadFrom, HaveFiles}
use Rattle.tf_runner.proofs.commanding.prepare_and_conduct.Goals as goal

pub hire_and_conduct-requires-clause-have : goal.hire_and_conduct-requires-clause-have
hire_and_conduct-requires-clause-have g c κs within = subst (λ f. HaveFiles c.args.board.past f.items) (sym c.in-Ok.ensures.files) c.requires.have

pub returns-in-Ok-clause-conducts : goal.returns-in-Ok-clause-conducts
returns-in-Ok-clause-conducts g c = λ contents read name entry seen o.
    c.hire_and_conduct.ensures.conducts contents (subst (λ f. AreReadFrom contents f.items) (sym c.in-Ok.ensures.files) read) name entry seen o

pub returns-in-Err-clause-conducts : goal.returns-in-Err-clause-conducts
returns-in-Err-clause-conducts g c = λ contents read name entry seen o.
    let D = g.K.Desk in
    unready refl c.args.board.past o.fresh.legal o.found refl
    (reached_stops (reached_back D.state name (told_as (g.K.Desk.state seen) (g.K.Desk.state entry)) c.close.ensures (opened_reached D.state name (told_as (g.K.Desk.state seen) (g.K.Desk.state entry)) c.args.board o)) refl)

pub returns-in-Err-clause-causes : goal.returns-in-Err-clause-causes
returns-in-Err-clause-causes g c = λ name entry seen o.
    let D = g.K.Desk in
    said_causes D.state name (told_as (g.K.Desk.state seen) (g.K.Desk.state entry)) c.close.result (D.state c.close.result) c.args.board 9 o c.close.ensures (concludes_none 9 (λ is. cc)) (λ is. cc)
