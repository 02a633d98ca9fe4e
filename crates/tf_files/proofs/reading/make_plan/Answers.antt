use Rattle.tf_files.proofs.RefusalLemmas.{breaks, unbroken}
use Rattle.tf_files.proofs.reading.make_plan.Goals as goal

pub returns-in-Ok-clause-unbroken : goal.returns-in-Ok-clause-unbroken
returns-in-Ok-clause-unbroken c = rw c.in-Ok.ensures.given (unbroken c.args.flow c.args.store c.args.defer c.in-Ok.ensures.accepted)

pub returns-in-Err : goal.returns-in-Err
returns-in-Err c = record {
  ok = tt;
  unbroken = tt;
  refused = rw c.refusal_for.ensures (breaks c.args.flow c.args.store c.args.defer c.in-Err.fault c.in-Err.ensures.refused);
}
