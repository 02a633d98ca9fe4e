use Rattle.std.proofs.Common.{length, ap, ◌++◌, ℕ, List}
use Rattle.std.proofs.lemmas.List.{drop-replicate}
use Rattle.tf_values.proofs.identifier.in_field.Goals as goal

pub returns : goal.returns
returns c = rw c.copy_from_slice.ensures.after (ap (λ (rest : List ℕ). c.args.bytes.now ++ rest) (drop-replicate (length c.args.bytes.now) 64 0))
