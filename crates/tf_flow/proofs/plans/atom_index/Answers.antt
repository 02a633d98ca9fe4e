use Rattle.std.proofs.Common.{◌≡◌, ◌∙◌, ap, None, Some}
use Rattle.tf_flow.proofs.NameLemmas.{atoms_once}
use Rattle.tf_flow.specs.Tree.{first_again, same_name, atom_names}
use Rattle.tf_flow.specs.Shown.{shown_places}
use Rattle.tf_flow.proofs.plans.atom_index.Goals as goal

pub unreachable-requires : goal.unreachable-requires
unreachable-requires c =
    let names : c.deref.result.now ≡ atom_names (shown_places c.args.order.now) = c.deref.ensures.value ∙ c.in_ok-names.ensures in
    let twice : first_again same_name c.deref.result.now ≡ Some c.in-Err.field-0 = rw c.in-Err.is at c.in_ok-index.ensures.again in
    let once : first_again same_name c.deref.result.now ≡ None = ap (first_again same_name) names ∙ atoms_once (shown_places c.args.order.now) c.requires in
    cc
