use Rattle.std.proofs.Common.{arith, refl, subst}
use Rattle.std.specs.Prelude.{IsTrue}
use Rattle.tf_board.proofs.EndLemmas.{unopened_causes}
use Rattle.tf_board.proofs.ToldLemmas.{causes_to_end}
use Rattle.tf_board_service.specs.Sessions.{unopened}
use Rattle.tf_board_service.proofs.CommandLemmas.{serves_to_end}
use Rattle.tf_board_service.proofs.commanding.serve_command.Goals as goal

pub returns-in-Ok-clause-serves : goal.returns-in-Ok-clause-serves
returns-in-Ok-clause-serves g c =
    let D = g.K.Desk in
    let e = c.listen_and_serve.ensures in
    serves_to_end (D.state c.args.desk) (D.state c.in-Ok.board.journal.desk)
    (e.causes c.args.name.now c.args.desk c.in-Ok.board.journal.desk c.in-Ok.ensures.opens).desk.extends.tells
    (e.serves c.args.name.now c.args.desk c.in-Ok.board.journal.desk c.in-Ok.ensures.opens)

pub returns-in-Ok-clause-causes : goal.returns-in-Ok-clause-causes
returns-in-Ok-clause-causes g c =
    let D = g.K.Desk in
    let a = c.listen_and_serve.ensures.causes c.args.name.now c.args.desk c.in-Ok.board.journal.desk c.in-Ok.ensures.opens in
    record { desk = causes_to_end (D.state c.args.desk) (D.state c.in-Ok.board.journal.desk) a.desk; door = a.door; unlistened = a.unlistened }

pub returns-in-Ok-clause-falls : goal.returns-in-Ok-clause-falls
returns-in-Ok-clause-falls g c = λ told.
    let a = c.listen_and_serve.ensures.causes c.args.name.now c.args.desk c.in-Ok.board.journal.desk c.in-Ok.ensures.opens in
    c.in-Ok.ensures.falls (subst IsTrue a.desk.extends.tells told)

pub returns-in-Err-clause-serves : goal.returns-in-Err-clause-serves
returns-in-Err-clause-serves g c =
    let D = g.K.Desk in
    serves_to_end (D.state c.args.desk) (D.state c.in-Err.desk) c.end_unopened.ensures.concludes.extends.tells
    (unopened refl (c.end_unopened.ensures.ends c.args.name.now c.args.desk c.in-Err.desk c.in-Err.ensures.opens))

pub returns-in-Err-clause-causes : goal.returns-in-Err-clause-causes
returns-in-Err-clause-causes g c =
    let D = g.K.Desk in
    record {
      desk = causes_to_end (D.state c.args.desk) (D.state c.in-Err.desk) (unopened_causes c.in-Err.ensures.opens c.end_unopened.ensures.concludes c.end_unopened.ensures.failed);
      door = omega arith;
      unlistened = λ is. absurd (c.end_unopened.ensures.apart.1 is);
    }
