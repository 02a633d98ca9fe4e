use Rattle.std.proofs.Common.{◌≡◌, take}
use Rattle.std.specs.List.{flat_map}
use Rattle.tf_runner.specs.Conducts.{made_text}
use Rattle.tf_runner.proofs.saying.calls_text.Given as goal

abbrev pub invariant-loop-call : goal.invariant-loop-call
invariant-loop-call l = l.text.items ≡ flat_map made_text (take l.call-index l.made)
