use Rattle.std.proofs.Common.{◌≡◌, take, sum_by}
use Rattle.tf_flow.specs.Limits as form
use Rattle.tf_flow.specs.Limits.{capped}
use Rattle.tf_flow.proofs.byte_length.words_len.Given as goal

abbrev pub invariant-loop-word : goal.invariant-loop-word
invariant-loop-word l = l.len ≡ capped (sum_by form.text_len (take l.word-index l.words))
