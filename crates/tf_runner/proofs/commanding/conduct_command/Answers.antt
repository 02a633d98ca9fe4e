use Rattle.std.proofs.Common.{refl}
use Rattle.tf_desk.proofs.StateLemmas.{told_through}
use Rattle.tf_board.specs.Does.{HasCauses}
use Rattle.tf_board.proofs.EndLemmas.{unopened_causes}
use Rattle.tf_runner.specs.Conducts.{Conducts, unopened}
use Rattle.tf_runner.proofs.commanding.conduct_command.Goals as goal

pub returns-in-Ok-clause-conducts : goal.returns-in-Ok-clause-conducts
returns-in-Ok-clause-conducts g c =
    let D = g.K.Desk in
    let r = c.read_and_conduct in
    let mid = c.in-Ok.board.journal.desk in
    told_through (λ before. Conducts g.W.Hand.Performer.gives (g.S.Sources.contents r.new.sources) (g.W.Crew.told c.args.crew.now) (g.W.Crew.told r.new.crew) c.args.name.now c.args.word.now c.args.hands before (D.state r.result.0) r.result.1) (D.state c.args.desk)
    (r.ensures.causes c.args.name.now c.args.desk mid c.in-Ok.ensures.opens).extends.tells
    (r.ensures.conducts c.args.name.now c.args.desk mid c.in-Ok.ensures.opens)

pub returns-in-Ok-clause-causes : goal.returns-in-Ok-clause-causes
returns-in-Ok-clause-causes g c =
    let D = g.K.Desk in
    let r = c.read_and_conduct in
    let causes = r.ensures.causes c.args.name.now c.args.desk c.in-Ok.board.journal.desk c.in-Ok.ensures.opens in
    told_through (λ before. HasCauses before (D.state r.result.0) r.result.1) (D.state c.args.desk) causes.extends.tells causes

pub returns-in-Err-clause-conducts : goal.returns-in-Err-clause-conducts
returns-in-Err-clause-conducts g c =
    let D = g.K.Desk in
    let r = c.end_unopened in
    told_through (λ before. Conducts g.W.Hand.Performer.gives (g.S.Sources.contents c.args.sources.now) (g.W.Crew.told c.args.crew.now) (g.W.Crew.told c.args.crew.now) c.args.name.now c.args.word.now c.args.hands before (D.state r.result.0) r.result.1) (D.state c.args.desk)
    r.ensures.concludes.extends.tells (unopened refl (r.ensures.ends c.args.name.now c.args.desk c.in-Err.desk c.in-Err.ensures.opens))

pub returns-in-Err-clause-causes : goal.returns-in-Err-clause-causes
returns-in-Err-clause-causes g c =
    let D = g.K.Desk in
    let r = c.end_unopened in
    told_through (λ before. HasCauses before (D.state r.result.0) r.result.1) (D.state c.args.desk)
    r.ensures.concludes.extends.tells (unopened_causes c.in-Err.ensures.opens r.ensures.concludes r.ensures.failed)
