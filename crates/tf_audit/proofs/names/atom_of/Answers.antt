use Rattle.std.proofs.Common.{List, ℕ, position, ap, ◌∙◌}
use Rattle.tf_flow.specs.Tree.{same_name}
use Rattle.tf_flow.specs.Plan as numbering
use Rattle.tf_audit.proofs.NameLemmas.{atom_found}
use Rattle.tf_audit.proofs.names.atom_of.Goals as goal

pub returns : goal.returns
returns c = λ a at named.
    c.find.ensures.number
    ∙ (ap (λ (n : List ℕ). position (same_name n) (numbering.atoms c.args.plan.now)) c.in_ok-name.ensures.value
    ∙ atom_found c.args.plan.now a c.args.word.now c.root.ensures.accepted at)
