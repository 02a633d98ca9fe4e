use Rattle.std.proofs.Common.{◌+◌, sym, subst, arith}
use Rattle.tf_model.specs.Plan.{outline_of}
use Rattle.tf_machine.specs.Tables.{shown_by}
use Rattle.tf_machine.proofs.FirstLemmas.{IsFirstBelow, first_forced, none_forced, none_yet, next_first, skipped_first}
use Rattle.tf_machine.proofs.cases.first_case.Goals as goal

pub returns-in-None-clause-entry : goal.returns-in-None-clause-entry
returns-in-None-clause-entry c =
    none_forced (outline_of c.args.compiled.now) (shown_by c.args.tables.now) c.loop-atom.atom (omega (arith, c.loop-atom.invariant.within, c.loop-atom-test.false, c.atoms-count.ensures.count))
    (subst (IsFirstBelow (outline_of c.args.compiled.now) (shown_by c.args.tables.now) c.loop-atom.atom) c.in-None.is c.loop-atom.invariant.first)

pub returns-in-Some-clause-entry : goal.returns-in-Some-clause-entry
returns-in-Some-clause-entry c =
    first_forced (outline_of c.args.compiled.now) (shown_by c.args.tables.now) c.loop-atom.atom c.in-Some.found (omega (arith, c.loop-atom.invariant.within, c.loop-atom-test.false, c.atoms-count.ensures.count))
    (subst (IsFirstBelow (outline_of c.args.compiled.now) (shown_by c.args.tables.now) c.loop-atom.atom) c.in-Some.is c.loop-atom.invariant.first)

pub loop-atom-init : goal.loop-atom-init
loop-atom-init c = record {
  within = omega (arith, c.first_of-atom.ensures.within, c.atoms-count.ensures.count);
  first = none_yet (outline_of c.args.compiled.now) (shown_by c.args.tables.now) c.args.list.now c.first_of-atom.result c.requires.listed (omega (arith, c.first_of-atom.ensures.within, c.atoms-count.ensures.count)) c.first_of-atom.ensures.before;
}

pub loop-atom-preserved : goal.loop-atom-preserved
loop-atom-preserved c = record {
  within = omega (arith, c.next_in-atom.ensures.within, c.atoms-count.ensures.count);
  first = skipped_first (outline_of c.args.compiled.now) (shown_by c.args.tables.now) c.args.list.now (c.loop-atom.atom + 1) c.next_in-atom.result c.sooner-first.result c.requires.listed c.next_in-atom.ensures.from
      (omega (arith, c.next_in-atom.ensures.within, c.atoms-count.ensures.count)) c.next_in-atom.ensures.none
      (subst (IsFirstBelow (outline_of c.args.compiled.now) (shown_by c.args.tables.now) (c.loop-atom.atom + 1)) (sym c.sooner-first.ensures)
      (next_first (outline_of c.args.compiled.now) (shown_by c.args.tables.now) c.loop-atom.atom c.loop-atom.first c.case_at.result c.loop-atom.invariant.first c.case_at.ensures));
}
