use Rattle.std.proofs.Common.{refl}
use Rattle.tf_ports.specs.Ports.{gives_by}
use Rattle.tf_commands.specs.Asking.{WasAsked}
use Rattle.tf_commands.specs.Behaviour.{IsUntouched, Tries}
use Rattle.tf_commands.specs.Books.{NoFileChanges}
use Rattle.tf_commands.proofs.BehaviourLemmas.{done_file, undone_file}
use Rattle.tf_commands.proofs.trying.try_file.Goals as goal

pub returns-in-Ok-clause-tried : goal.returns-in-Ok-clause-tried
returns-in-Ok-clause-tried g c =
    let entry = g.K.Desk.state c.args.desk in
    let now = g.K.Desk.state c.try_plan.result.desk in
    done_file _ c.args.source _ c.in-Ok.machine
    (Tries (gives_by g.W.Hand.Performer.gives g.W.Far.Performer.gives c.args.request.now.want) c.args.request.now.want (WasAsked entry now) (g.W.Crew.told c.args.crew.now) (g.W.Crew.told c.try_plan.new.crew) entry.shown now.shown)
    _ _ c.try_plan.result.status c.in-Ok.ensures.opened (rw c.in-Ok.ensures.same at c.try_plan.ensures.tried)

pub returns-in-Ok-clause-stays : goal.returns-in-Ok-clause-stays
returns-in-Ok-clause-stays g c = rw c.in-Ok.ensures.same at c.try_plan.ensures.stays

pub returns-in-Err-clause-tried : goal.returns-in-Err-clause-tried
returns-in-Err-clause-tried g c =
    let entry = g.K.Desk.state c.args.desk in
    let now = g.K.Desk.state c.open_file.new.desk in
    let crew = g.W.Crew.told c.args.crew.now in
    undone_file _ c.args.source (NoFileChanges entry now) (IsUntouched crew crew entry now)
    (Tries (gives_by g.W.Hand.Performer.gives g.W.Far.Performer.gives c.args.request.now.want) c.args.request.now.want (WasAsked entry now) crew crew entry.shown now.shown)
    _ _ c.in-Err.status (λ still. (refl, still)) c.in-Err.ensures.closed

pub returns-in-Ok-clause-tells : goal.returns-in-Ok-clause-tells
returns-in-Ok-clause-tells g c = rw c.in-Ok.ensures.same at c.try_plan.ensures.tells
