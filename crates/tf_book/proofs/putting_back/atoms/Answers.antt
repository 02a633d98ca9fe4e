use Rattle.std.proofs.Common.{◌∙◌, ap, sym, length}
use Rattle.tf_flow.specs.Plan as numbering
use Rattle.tf_flow.specs.Plan.{PlanValue}
use Rattle.tf_details.proofs.AmongLemmas.{atoms_told}
use Rattle.tf_book.proofs.putting_back.atoms.Goals as goal

pub returns : goal.returns
returns c = c.atoms.ensures.count ∙ ap (λ (p : PlanValue). length (numbering.atoms p)) c.plan.ensures.is ∙ sym (atoms_told c.args.machine.now.plan)
