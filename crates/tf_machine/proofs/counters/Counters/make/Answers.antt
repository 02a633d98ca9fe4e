use Rattle.std.proofs.Common.{◌≤◌, List, ℕ, length, ap, arith}
use Rattle.tf_order.specs.Graph.{predecessors_of}
use Rattle.tf_model.specs.Plan.{outline_of, count}
use Rattle.tf_machine.proofs.CountLemmas.{few_before, all_counted}
use Rattle.tf_machine.proofs.counters.Counters.make.Goals as goal

pub overflow_cast-predecessors : goal.overflow_cast-predecessors
overflow_cast-predecessors c =
    let few : length (predecessors_of (outline_of c.args.compiled.now) c.loop-atom.atom) ≤ count (outline_of c.args.compiled.now) = few_before (outline_of c.args.compiled.now) c.loop-atom.atom in
    let same = ap (λ (atoms : List ℕ). length atoms) c.predecessors.ensures in
    omega (arith, few, same, c.atoms-atom-end.ensures.count, c.atoms-atom-end.ensures.few)

pub returns : goal.returns
returns c = λ s rests.
    all_counted (outline_of c.args.compiled.now) c.loop-atom.atom (record { waiting = c.loop-atom.waiting; holding = c.loop-atom.holding }) s
    (omega (arith, c.loop-atom.auto.atom-end, c.loop-atom-test.false, c.atoms-atom-end.ensures.count)) c.loop-atom.invariant rests
