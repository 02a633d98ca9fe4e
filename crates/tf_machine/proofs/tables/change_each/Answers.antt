use Rattle.std.proofs.Common.{arith}
use Rattle.tf_model.specs.Plan.{outline_of}
use Rattle.tf_machine.proofs.ChangeLemmas.{none_changed_before, all_changed_within}
use Rattle.tf_machine.proofs.tables.change_each.Goals as goal

pub loop-atom-init : goal.loop-atom-init
loop-atom-init c = none_changed_before (outline_of c.args.compiled.now) c.args.change c.reach_of-span.result c.args.places.now c.requires.count c.requires.marked c.reach_of-span.ensures.others

pub returns : goal.returns
returns c =
    all_changed_within (outline_of c.args.compiled.now) c.args.change c.reach_of-span.result c.loop-atom.atom c.args.places.now c.loop-atom.places c.requires.count c.requires.marked c.reach_of-span.ensures.others
    (omega (arith, c.loop-atom.auto.atom-end, c.loop-atom-test.false)) c.loop-atom.invariant
