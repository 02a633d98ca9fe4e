use Rattle.std.proofs.Common.{ℕ, List, inr, refl, subst}
use Rattle.tf_desk.specs.Crash.{ShowsPrefix}
use Rattle.tf_commands.specs.Messages.{unsaid_part}
use Rattle.tf_commands.proofs.WorkLemmas.{over_where, printed, says_only}
use Rattle.tf_commands.proofs.working.say_end.Goals as goal

pub returns : goal.returns
returns g c = record {
  next = tt;
  stopped = unsaid_part refl (over_where c.args.end c.in_default.not-Memory)
      (subst (λ (bytes : List ℕ). ShowsPrefix (g.K.Desk.state c.args.desk.now).shown bytes (g.K.Desk.state c.say.new.self).shown)
      (printed c.args.number c.from.result c.args.end c.deref.result.now c.append_line.new.out.items c.new-line.result.items c.deref.ensures.value c.in-Ok.ensures c.new-line.ensures.items c.from.ensures) c.in-Err.ensures.says.prefix);
  causes = λ door. record { unlinked = λ is. cc; unsaid = λ is. c.in-Err.ensures.fails.1; one = inr (inr refl) };
  says = says_only c.in-Err.ensures.says;
}
