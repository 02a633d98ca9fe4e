use Rattle.std.proofs.Common.{◌≡◌, ◌++◌, take, drop, map}
use Rattle.std.specs.List.{list_all}
use Rattle.tf_actions.specs.Built.{plain_pair}
use Rattle.tf_tasks.specs.Run.{has_text}
use Rattle.tf_tasks.proofs.runs.append_texts.Given as goal

abbrev pub invariant-loop-pair : goal.invariant-loop-pair
invariant-loop-pair l = (list_all has_text (drop l.pair-index l.pairs) ≡ list_all has_text l.pairs) × (l.out.items ≡ l.fn.out.items ++ map plain_pair (take l.pair-index l.pairs))
