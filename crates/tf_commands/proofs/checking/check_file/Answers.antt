use Rattle.tf_commands.proofs.BehaviourLemmas.{done_file, undone_file}
use Rattle.tf_commands.specs.Behaviour.{Checks}
use Rattle.tf_commands.proofs.checking.check_file.Goals as goal

pub returns-in-Ok-clause-checked : goal.returns-in-Ok-clause-checked
returns-in-Ok-clause-checked g c =
    done_file _ c.args.source _ c.in-Ok.machine (Checks _ _) _ _ c.say_checked.result c.in-Ok.ensures.opened
    (rw (c.plan.ensures.is, c.in-Ok.ensures.same) at c.say_checked.ensures.closes)

pub returns-in-Err-clause-checked : goal.returns-in-Err-clause-checked
returns-in-Err-clause-checked g c = undone_file _ c.args.source _ _ (Checks _ _) _ _ c.in-Err.status (λ still. still) c.in-Err.ensures.closed
