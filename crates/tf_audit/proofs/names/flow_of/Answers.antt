use Rattle.std.proofs.Common.{List, ℕ, position, ap, ◌∙◌}
use Rattle.tf_flow.specs.Tree.{same_name}
use Rattle.tf_flow.specs.Plan as numbering
use Rattle.tf_audit.proofs.NameLemmas.{flow_found}
use Rattle.tf_audit.proofs.names.flow_of.Goals as goal

pub returns-in-Some : goal.returns-in-Some
returns-in-Some c = λ g at named.
    c.in-Some.ensures.index
    ∙ (ap (λ (ks : List (List ℕ)). position (same_name c.in_ok-name.name) ks) c.requires
    ∙ (ap (λ (n : List ℕ). position (same_name n) (numbering.flows c.args.plan.now)) c.in_ok-name.ensures.value
    ∙ flow_found c.args.plan.now g c.args.word.now c.root.ensures.accepted at))

pub returns-in-None : goal.returns-in-None
returns-in-None c = λ g at named.
    c.in-None.ensures.index
    ∙ (ap (λ (ks : List (List ℕ)). position (same_name c.in_ok-name.name) ks) c.requires
    ∙ (ap (λ (n : List ℕ). position (same_name n) (numbering.flows c.args.plan.now)) c.in_ok-name.ensures.value
    ∙ flow_found c.args.plan.now g c.args.word.now c.root.ensures.accepted at))
