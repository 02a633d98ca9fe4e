use Rattle.std.proofs.Common.{◌≡◌, true, arith}
use Rattle.std.proofs.lemmas.Grind.{common_steps}
use Rattle.tf_wire.specs.Stream.{is_length}
use Rattle.tf_wire.proofs.StreamLemmas.{whole_frame}
use Rattle.tf_wire.proofs.fronts.front_of.Goals as goal

pub returns : goal.returns
returns c =
    let good : is_length c.in-Some.len ≡ true = grind (arith, common_steps) in
    whole_frame c.in-Some.len c.in-Some.behind.now c.args.bytes.now c.in-Some.ensures.1 good (omega arith)
