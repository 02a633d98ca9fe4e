use Rattle.std.proofs.Common.{refl, subst}
use Rattle.tf_ports.specs.Ports.{DoorTold}
use Rattle.tf_commands.specs.Messages.{ServesAll, worked, unopened, unopened_memory}
use Rattle.tf_commands.proofs.working.listen_and_serve.Goals as goal

pub returns-in-Ok-clause-works : goal.returns-in-Ok-clause-works
returns-in-Ok-clause-works g c = λ crew crew_after fresh here.
    let serves : DoorTold → Type 0 = λ door. ServesAll g.P.Performer.gives (g.P.Performer.did c.args.hand.now) (g.P.Performer.did c.serve_all.new.hand) door (g.D.Door.told c.serve_all.new.door) (g.K.Desk.state c.args.desk.now).shown (g.K.Desk.state c.serve_all.new.desk).shown c.args.sessions c.serve_all.result in
    worked _ _ fresh here (subst serves c.in-Ok.ensures.opened c.serve_all.ensures.serves)

pub returns-in-Err-Failed-clause-works : goal.returns-in-Err-Failed-clause-works
returns-in-Err-Failed-clause-works g c = λ crew crew_after fresh here. unopened _ fresh here c.in-Err-Failed.ensures.not_opened c.close.ensures.closes

pub returns-in-Err-Memory-clause-works : goal.returns-in-Err-Memory-clause-works
returns-in-Err-Memory-clause-works g c = λ crew crew_after fresh here. unopened_memory _ fresh here refl c.in-Err-Memory.ensures.not_opened refl
