use Rattle.std.proofs.Common.{◌≡◌, Some, position, rules}
use Rattle.tf_flow.proofs.NameLemmas.{at_position}
use Rattle.tf_flow.specs.Tree.{same_name}
use Rattle.tf_flow.specs.Plan as numbering
use Rattle.tf_flow.proofs.plans.Plan.find.Goals as goal

pub returns-in-Some-clause-found : goal.returns-in-Some-clause-found
returns-in-Some-clause-found c = let is : position (same_name c.args.name.now) (numbering.atoms c.args.self.now) ≡ Some c.in-Some.atom = search rules in at_position (numbering.atoms c.args.self.now) c.args.name.now c.in-Some.atom is
