use Rattle.tf_desk.specs.Calls.{calls_of}
use Rattle.tf_desk.specs.ReplayLaws.{shown_is}
use Rattle.taskflow.proofs.shipped.obey.Goals as goal

pub returns-clause-shown : goal.returns-clause-shown
returns-clause-shown g c = shown_is g.W.World.first (calls_of c.taskflow.result.outside.desk)
