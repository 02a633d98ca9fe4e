use Rattle.std.proofs.Common.{◌≡◌, ◌∙◌, sym, ℕ, Bool, Option, Some, None, true, false}
use Rattle.tf_numbers.specs.Numbers.{all_below, first_below}
use Rattle.tf_model.specs.Plan.{Outline, outline_of, count}
use Rattle.tf_model.specs.History.{Snapshot}
use Rattle.tf_model.specs.Forced.{is_best, is_done_at, is_at_rest, calm_end}
use Rattle.tf_machine.specs.Tables.{shown_by}
use Rattle.tf_machine.proofs.EndLemmas.{calm_by, end_by_parts, restless}
use Rattle.tf_machine.proofs.ending.calm_end.Goals as goal

-- the end by what its parts are
by_parts : (plan : Outline) (s : Snapshot) (done rest : Bool) (o : Option ℕ) → all_below (count plan) (is_done_at s) ≡ done → all_below (count plan) (is_at_rest s) ≡ rest → first_below (count plan) (is_best plan s) ≡ o
    → end_by_parts done rest o ≡ calm_end plan s
by_parts plan s done rest o is_done is_rest is = sym (calm_by plan s ∙ rw (is_done, is_rest, is) Rattle.std.proofs.Common.refl)

pub returns-then-are_all_done : goal.returns-then-are_all_done
returns-then-are_all_done c =
    by_parts (outline_of c.args.compiled.now) (shown_by c.args.tables.now) true _ _ (sym c.are_all_done.ensures ∙ c.if-are_all_done.true) Rattle.std.proofs.Common.refl Rattle.std.proofs.Common.refl

pub returns-then-not-are_all_at_rest : goal.returns-then-not-are_all_at_rest
returns-then-not-are_all_at_rest c =
    sym (restless (first_below (count (outline_of c.args.compiled.now)) (is_best (outline_of c.args.compiled.now) (shown_by c.args.tables.now))))
    ∙ by_parts (outline_of c.args.compiled.now) (shown_by c.args.tables.now) false false _ (sym c.are_all_done.ensures ∙ c.if-are_all_done.false) (sym c.are_all_at_rest.ensures ∙ c.if-not-are_all_at_rest.true) Rattle.std.proofs.Common.refl

pub returns-in-Some : goal.returns-in-Some
returns-in-Some c =
    by_parts (outline_of c.args.compiled.now) (shown_by c.args.tables.now) false true (Some c.in-Some.field-0) (sym c.are_all_done.ensures ∙ c.if-are_all_done.false) (sym c.are_all_at_rest.ensures ∙ c.if-not-are_all_at_rest.false) (sym c.best.ensures ∙ c.in-Some.is)

pub returns-in-None : goal.returns-in-None
returns-in-None c =
    by_parts (outline_of c.args.compiled.now) (shown_by c.args.tables.now) false true None (sym c.are_all_done.ensures ∙ c.if-are_all_done.false) (sym c.are_all_at_rest.ensures ∙ c.if-not-are_all_at_rest.false) (sym c.best.ensures ∙ c.in-None.is)
