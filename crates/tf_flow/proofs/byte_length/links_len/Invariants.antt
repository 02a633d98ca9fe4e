use Rattle.std.proofs.Common.{◌≡◌, take, sum_by}
use Rattle.tf_flow.specs.Limits as form
use Rattle.tf_flow.specs.Limits.{capped}
use Rattle.tf_flow.proofs.byte_length.links_len.Given as goal

abbrev pub invariant-loop-link : goal.invariant-loop-link
invariant-loop-link l = l.len ≡ capped (sum_by form.link_len (take l.link-index l.links))
