use Rattle.std.proofs.Common.{◌≡◌, map, take}
use Rattle.tf_flow.specs.Plan.{item_as_written}
use Rattle.tf_target.specs.Target.{is_marked, elements_kept}
use Rattle.tf_target.proofs.keeping.kept_items.Given as goal

abbrev pub invariant-loop-u : goal.invariant-loop-u
invariant-loop-u l = map item_as_written l.kept.items ≡ map item_as_written (elements_kept (is_marked l.marks) (take l.u l.items))
