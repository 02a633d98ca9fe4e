use Rattle.std.proofs.Common.{refl}
use Rattle.tf_desk.proofs.StateLemmas.{told_still}
use Rattle.tf_commands.specs.Books.{NoFileChanges, Runs}
use Rattle.tf_commands.proofs.BehaviourLemmas.{done_file, undone_file}
use Rattle.tf_commands.proofs.recording.run_file.Goals as goal

pub returns-in-Ok-clause-runs : goal.returns-in-Ok-clause-runs
returns-in-Ok-clause-runs g c =
    done_file _ c.args.source _ c.in-Ok.machine (Runs _ c.args.request.now _ _ _ _ _ _) _ _ c.run_plan.result.status c.in-Ok.ensures.opened
    (rw c.in-Ok.ensures.same at c.run_plan.ensures.runs)

pub returns-in-Err-clause-runs : goal.returns-in-Err-clause-runs
returns-in-Err-clause-runs g c =
    undone_file _ c.args.source _ _ (Runs _ c.args.request.now _ _ _ _ _ _) _ _ c.in-Err.status (λ still. (refl, told_still (λ before. NoFileChanges before (g.K.Desk.state c.open_file.new.desk)) (g.K.Desk.state c.args.desk) c.open_file.ensures.says.tells still)) c.in-Err.ensures.closed
