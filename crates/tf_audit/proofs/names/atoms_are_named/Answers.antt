use Rattle.std.proofs.Common.{◌≡◌, true, sym, ap, ◌∙◌}
use borrow.Author.Count.{below_more}
use Rattle.tf_values.specs.Text.{is_name}
use Rattle.tf_model.specs.Plan.{outline_of, atom_name}
use Rattle.tf_model.proofs.PlanLemmas.{name_told}
use Rattle.tf_audit.proofs.names.atoms_are_named.Goals as goal

pub loop-atom-preserved : goal.loop-atom-preserved
loop-atom-preserved c = below_more (λ a. is_name (atom_name (outline_of c.args.plan.now) a) ≡ true) c.loop-atom.atom c.loop-atom.invariant
    (ap is_name (sym (name_told c.args.plan.now c.loop-atom.atom c.atom_name.result.now c.atom_name.ensures)) ∙ c.bytes.ensures.name)
