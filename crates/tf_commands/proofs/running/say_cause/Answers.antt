use Rattle.std.proofs.Common.{sym, refl}
use Rattle.tf_book.specs.declared.faults.Halt.TheVariants as halt
use Rattle.tf_report.specs.Closing.{disk_fault_text}
use Rattle.tf_report.specs.declared.statuses.TheConstants.{OUT_OF_MEMORY, UNSAID}
use Rattle.tf_commands.proofs.HaltLemmas.{halt_spoken, halt_unspoken, apart_closes}
use Rattle.tf_commands.proofs.running.say_cause.Goals as goal

pub returns-in-Disk : goal.returns-in-Disk
returns-in-Disk g c = record {
  says = rw (sym c.in-Disk.is) at
      (halt_spoken halt.Disk disk_fault_text c.close.result tt (refl, c.close.ensures.closes) c.close.ensures.says
      (λ is. c.close.ensures.unsaid is (λ same. absurd (cc))) (λ is. refl)
      (apart_closes _ _ _ _ c.close.result c.close.ensures.closes (λ is. absurd (cc), λ is. absurd (cc))));
}

pub returns-in-Out : goal.returns-in-Out
returns-in-Out g c = record {
  says = rw (sym c.in-Out.is) at
      (halt_unspoken halt.Out (g.K.Desk.state c.args.desk.now) UNSAID (refl, refl, refl) (λ is. refl) (λ is. absurd (cc)) (λ is. absurd (cc), λ is. absurd (cc)));
}

pub returns-in-Memory : goal.returns-in-Memory
returns-in-Memory g c = record {
  says = rw (sym c.in-Memory.is) at
      (halt_unspoken halt.Memory (g.K.Desk.state c.args.desk.now) OUT_OF_MEMORY (refl, refl, refl) (λ is. absurd (cc)) (λ is. absurd (cc)) (λ is. absurd (cc), λ is. absurd (cc)));
}
