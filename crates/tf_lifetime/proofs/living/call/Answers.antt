use Rattle.std.proofs.Common.{refl, sym, subst}
use Rattle.tf_commands.specs.Behaviour.{MayBeDone, ports_told}
use Rattle.tf_lifetime.proofs.ToldLemmas.{same_entry}
use Rattle.tf_lifetime.proofs.living.call.Goals as goal

pub returns : goal.returns
returns g c =
    let D = g.K.Desk in
    let before = c.args.outside in
    let after = c.taskflow.result.outside in
    let top = c.taskflow.ensures in
    record {
      lived = λ told. (
        record {
          words = c.args.words.now;
          files = g.S.Sources.contents after.sources;
          ports = ports_told g.W.Crew.told g.L.Door.told before.crew before.door;
          later = ports_told g.W.Crew.told g.L.Door.told after.crew after.door;
          entry = before.desk;
          now = after.desk;
          status = c.taskflow.result.status;
          told = top.falls told;
          tells = told;
          behaviour = top.behaviour;
          faults = record { sources = g.S.Sources.faults before.sources; crew = g.W.Crew.faults before.crew; door = g.L.Door.faults before.door };
          faults_later = record { sources = g.S.Sources.faults after.sources; crew = g.W.Crew.faults after.crew; door = g.L.Door.faults after.door };
          complete = λ command is may.
              top.complete command is (subst (MayBeDone command (g.S.Sources.contents after.sources)) (sym (same_entry (D.state before.desk) (D.state after.desk) (top.falls told) told)) may);
        },
        refl,
        refl,
        refl,
        refl,
        refl,
        refl,
        refl,
      );
    }
