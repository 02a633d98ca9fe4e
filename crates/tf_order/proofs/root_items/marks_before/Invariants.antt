use Rattle.std.proofs.Common.{◌≡◌, List, map}
use Rattle.tf_model.specs.Before.{Flow, item_before}
use Rattle.tf_numbers.specs.Numbers.{numbers_below}
use Rattle.tf_order.specs.Arranged.{ShowsFlows}
use Rattle.tf_order.proofs.root_items.marks_before.Given as goal

abbrev pub invariant-loop-u : goal.invariant-loop-u
invariant-loop-u l = (flows : List Flow) → ShowsFlows l.table flows → l.marks.items ≡ map (λ u. item_before flows 0 u l.item) (numbers_below l.u)
