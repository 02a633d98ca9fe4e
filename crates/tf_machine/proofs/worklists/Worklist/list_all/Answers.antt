use Rattle.std.proofs.Common.{arith}
use Rattle.tf_model.specs.Plan.{outline_of}
use Rattle.tf_machine.specs.Tables.{shown_by}
use Rattle.tf_machine.proofs.ListedLemmas.{one_listed, whole_listed}
use Rattle.tf_machine.proofs.worklists.Worklist.list_all.Goals as goal

pub loop-atom-preserved : goal.loop-atom-preserved
loop-atom-preserved c =
    one_listed (outline_of c.args.compiled.now) (shown_by c.args.tables.now) c.loop-atom.atom c.loop-atom.self c.list.new.self c.loop-atom.invariant c.list.ensures.room c.list.ensures.here c.list.ensures.others

pub returns : goal.returns
returns c =
    whole_listed (outline_of c.args.compiled.now) (shown_by c.args.tables.now) c.loop-atom.atom c.loop-atom.self c.are_unhurt.result
    (omega (arith, c.loop-atom.auto.atom-end, c.loop-atom-test.false, c.atoms-atom-end.ensures.count)) c.loop-atom.invariant c.are_unhurt.ensures
