use Rattle.std.proofs.Common.{ℕ, Bool, List, ◌∙◌, ◌||◌, ap, sym, subst}
use Rattle.tf_numbers.specs.Numbers.{has_number}
use Rattle.tf_model.specs.Plan.{outline_of}
use Rattle.tf_model.specs.History.{is_done, is_settled, is_revert_failure}
use Rattle.tf_machine.specs.Tables.{shown_by}
use Rattle.tf_machine.proofs.CountLemmas.{successors_below, predecessors_below, successors_distinct, predecessors_distinct}
use Rattle.tf_machine.proofs.IntervalLemmas.{successors_apart, predecessors_apart}
use Rattle.tf_machine.specs.Counts.{AreDistinct}
use Rattle.tf_machine.specs.Intervals.{AreApart}
use Rattle.tf_machine.proofs.WorkLemmas.{around_listed}
use Rattle.tf_machine.proofs.worklists.Worklist.list_around.Goals as goal

pub list_each-requires-clause-distinct : goal.list_each-requires-clause-distinct
list_each-requires-clause-distinct c = subst AreDistinct (sym c.successors-after.ensures.atoms) (successors_distinct (outline_of c.args.compiled.now) c.args.atom)

pub list_each-requires-clause-apart : goal.list_each-requires-clause-apart
list_each-requires-clause-apart c = subst AreApart (sym c.successors-after.ensures.atoms) (successors_apart (outline_of c.args.compiled.now) c.args.atom)

pub list_each-requires-2-clause-distinct : goal.list_each-requires-2-clause-distinct
list_each-requires-2-clause-distinct c = subst AreDistinct (sym c.predecessors-before.ensures) (predecessors_distinct (outline_of c.args.compiled.now) c.args.atom)

pub list_each-requires-2-clause-apart : goal.list_each-requires-2-clause-apart
list_each-requires-2-clause-apart c = subst AreApart (sym c.predecessors-before.ensures) (predecessors_apart (outline_of c.args.compiled.now) c.args.atom)

pub list_each-requires-clause-within : goal.list_each-requires-clause-within
list_each-requires-clause-within c = λ a is.
    successors_below (outline_of c.args.compiled.now) c.args.atom a (ap (λ (atoms : List ℕ). has_number atoms a) (sym c.successors-after.ensures.atoms) ∙ is)

pub list_each-requires-2-clause-within : goal.list_each-requires-2-clause-within
list_each-requires-2-clause-within c = λ a is.
    predecessors_below (outline_of c.args.compiled.now) c.args.atom a (ap (λ (atoms : List ℕ). has_number atoms a) (sym c.predecessors-before.ensures) ∙ is)

pub returns : goal.returns
returns c = λ s flow old listed spanned moved.
    around_listed (outline_of c.args.compiled.now) s (shown_by c.args.tables.now) c.args.atom flow old c.args.self.now c.list_each.new.self c.list_each-2.new.self c.list_one.new.self _
    moved listed spanned
    c.list_each.ensures.moved
    (λ b done inside able. c.list_each.ensures.reached b (c.is_done.ensures ∙ (ap is_done c.state-state.ensures ∙ done)) (ap (λ (atoms : List ℕ). has_number atoms b) c.successors-after.ensures.atoms ∙ inside) able)
    c.list_each-2.ensures.moved
    (λ b settled inside able. c.list_each-2.ensures.reached b (c.is_settled.ensures ∙ (ap is_settled c.state-state.ensures ∙ settled)) (ap (λ (atoms : List ℕ). has_number atoms b) c.predecessors-before.ensures ∙ inside) able)
    c.list_one.ensures.here c.list_one.ensures.others c.list_one.ensures.room
    (c.list_one.ensures.hurt ∙ (c.list_each-2.ensures.hurt ∙ c.list_each.ensures.hurt))
    (ap (λ (x : Bool). c.list_one.new.self.hurt || x) (c.is_revert_failure.ensures ∙ ap is_revert_failure c.state-state.ensures))
