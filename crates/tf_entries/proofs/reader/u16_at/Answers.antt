use Rattle.std.proofs.Common.{arith}
use Rattle.tf_values.proofs.NumberLemmas.{cut}
use Rattle.tf_entries.proofs.NumberLemmas.{cut_2}
use Rattle.tf_entries.proofs.reader.u16_at.Goals as goal

pub returns : goal.returns
returns c =
    let found = c.in_ok-prefix.ensures.cases in
    cut_2 c.args.bytes.now c.in_ok-prefix.prefix.now c.in_ok-prefix.rest.now c.from_be_bytes.result (cut 2 c.args.bytes.now c.in_ok-prefix.prefix.now c.in_ok-prefix.rest.now (λ i. omega (arith, c.type_inv.bytes i)) found.0 found.1 found.2) c.from_be_bytes.ensures
