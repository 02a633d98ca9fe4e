use Rattle.std.proofs.Common.{◌≡◌, take, sum_by}
use Rattle.tf_flow.specs.Limits as form
use Rattle.tf_flow.specs.Limits.{capped}
use Rattle.tf_flow.proofs.byte_length.args_len.Given as goal

abbrev pub invariant-loop-arg : goal.invariant-loop-arg
invariant-loop-arg l = l.len ≡ capped (sum_by form.arg_len (take l.arg-index l.args))
