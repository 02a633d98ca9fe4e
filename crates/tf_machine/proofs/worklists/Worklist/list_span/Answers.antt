use Rattle.std.proofs.Common.{arith}
use Rattle.tf_model.specs.Plan.{outline_of}
use Rattle.tf_machine.specs.Tables.{shown_by}
use Rattle.tf_machine.proofs.ListedLemmas.{none_of_span, one_of_span, all_of_span}
use Rattle.tf_machine.proofs.worklists.Worklist.list_span.Goals as goal

pub loop-atom-init : goal.loop-atom-init
loop-atom-init c = none_of_span (outline_of c.args.compiled.now) (shown_by c.args.tables.now) c.args.span.first c.args.self.now c.requires.room

pub loop-atom-preserved : goal.loop-atom-preserved
loop-atom-preserved c =
    one_of_span (outline_of c.args.compiled.now) (shown_by c.args.tables.now) c.args.span.first c.loop-atom.atom c.args.self.now c.loop-atom.self c.list.new.self
    c.loop-atom.invariant c.list.ensures.room c.list.ensures.hurt c.list.ensures.here c.list.ensures.others

pub returns : goal.returns
returns c = λ flow around.
    all_of_span (outline_of c.args.compiled.now) (shown_by c.args.tables.now) flow c.args.span c.loop-atom.atom c.args.self.now c.loop-atom.self
    (omega (arith, c.loop-atom.auto.atom-end, c.loop-atom-test.false)) around c.loop-atom.invariant
