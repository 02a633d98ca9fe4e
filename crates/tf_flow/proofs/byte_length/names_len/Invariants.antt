use Rattle.std.proofs.Common.{◌≡◌, take, sum_by}
use Rattle.tf_flow.specs.Limits as form
use Rattle.tf_flow.specs.Limits.{capped}
use Rattle.tf_flow.proofs.byte_length.names_len.Given as goal

abbrev pub invariant-loop-name : goal.invariant-loop-name
invariant-loop-name l = l.len ≡ capped (sum_by form.name_len (take l.name-index l.names))
