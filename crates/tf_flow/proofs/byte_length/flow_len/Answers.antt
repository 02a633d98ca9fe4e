use Rattle.std.proofs.Common.{rules}
use Rattle.tf_flow.proofs.PlaceLemmas.{length_members}
use Rattle.tf_flow.proofs.byte_length.flow_len.Goals as goal

pub returns : goal.returns
returns c = search (rules, length_members)
