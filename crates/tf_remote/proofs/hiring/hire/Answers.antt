use Rattle.std.proofs.Common.{◌+◌, arith}
use Rattle.tf_remote.proofs.DialledLemmas.{dialled_next}
use Rattle.tf_remote.proofs.hiring.hire.Goals as goal

pub returns-then-is_err-clause-not_dialled : goal.returns-then-is_err-clause-not_dialled
returns-then-is_err-clause-not_dialled g c = record {
  count = c.loop-address.address-index + 1;
  few = omega arith;
  dialled = dialled_next c.args.addresses.now c.loop-address.address-index c.address-item.result _ _ _ (omega arith) c.address-item.is c.loop-address.invariant.dialled c.in-Ok.ensures.dialled;
}
