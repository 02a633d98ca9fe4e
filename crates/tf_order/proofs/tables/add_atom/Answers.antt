use Rattle.std.proofs.Common.{ℕ, ◌≤◌, ◌∙◌, List, length, sym, subst, arith}
use Rattle.tf_model.specs.Plan.{is_before}
use Rattle.tf_order.specs.Intervals.{TellsTheSame}
use Rattle.tf_order.specs.Tables.{plan_seen, atoms_found, is_after_last, AreClosed}
use Rattle.tf_numbers.proofs.TruthLemmas.{not_true}
use Rattle.tf_order.proofs.TableLemmas.{numbers_room}
use Rattle.tf_order.proofs.SpreadLemmas.{passing_interval, failing_interval, rows_kept, rows_opened, rows_closed, not_false}
use Rattle.tf_order.proofs.tables.add_atom.Goals as goal

pub slice_bounds-extend-end : goal.slice_bounds-extend-end
slice_bounds-extend-end c =
    let ends : c.min-end.result ≤ atoms_found c.args.outline.now = omega (arith, c.min-end.ensures, c.interval_of_last-last.ensures.ends) in
    let room : c.min-end.result ≤ length c.args.numbers.now = numbers_room c.args.numbers.now (atoms_found c.args.outline.now) c.min-end.result c.requires.numbers ends in
    omega (arith, room)

pub close_rows-requires-clause-number : goal.close_rows-requires-clause-number
close_rows-requires-clause-number c = numbers_room c.args.numbers.now (atoms_found c.args.outline.now) c.args.a c.requires.numbers c.requires.atom

pub loop-b-preserved-then-not-last : goal.loop-b-preserved-then-not-last
loop-b-preserved-then-not-last c =
    let order : c.loop-b.b ≤ c.min-end.result = omega (arith, c.min-end.ensures, c.interval_of_last-last.ensures.begins, c.interval_at-this.ensures.begins) in
    let ends : c.min-end.result ≤ c.interval_of_last-last.result.end = omega (arith, c.min-end.ensures) in
    let this_ends : c.min-end.result ≤ c.interval_at-this.result.end = omega (arith, c.min-end.ensures) in
    let room : c.min-end.result ≤ atoms_found c.args.outline.now = omega (arith, ends, c.interval_of_last-last.ensures.ends) in
    let last_same : TellsTheSame (is_after_last (plan_seen c.args.outline.now) c.args.a) c.interval_of_last-last.result.is_after c.loop-b.b c.min-end.result = λ k from below. c.interval_of_last-last.ensures.same k from (omega (arith, below, ends)) in
    let this_same : TellsTheSame (is_before (plan_seen c.args.outline.now) c.args.a) c.interval_at-this.result.is_after c.loop-b.b c.min-end.result = λ k from below. c.interval_at-this.ensures.same k from (omega (arith, below, this_ends)) in
    record {
      within = room;
      last_within = c.interval_of_last-last.ensures.ends;
      this_within = c.interval_at-this.ensures.ends;
      last_same = λ k from below. c.interval_of_last-last.ensures.same k (omega (arith, from, order)) below;
      this_same = λ k from below. c.interval_at-this.ensures.same k (omega (arith, from, order)) below;
      later = passing_interval (is_before (plan_seen c.args.outline.now) c.args.a) c.interval_at-this.result.is_after (atoms_found c.args.outline.now) c.loop-b.b c.min-end.result c.args.numbers.now c.loop-b.after c.extend.new.self
          c.loop-b.invariant.later this_same c.if-this.true order room c.requires.numbers c.in_ok-extend.ensures;
      rows = rows_opened (plan_seen c.args.outline.now) (atoms_found c.args.outline.now) c.args.a c.loop-b.b c.min-end.result c.interval_of_last-last.result.is_after c.interval_at-this.result.is_after c.loop-b.rows.items c.loop-b.opened.items c.open_rows.new.opened.items
          c.loop-b.invariant.rows order room last_same this_same (not_true c.interval_of_last-last.result.is_after c.if-not-last.true) c.if-this.true c.open_rows.ensures;
    }

pub loop-b-preserved-else-not-last : goal.loop-b-preserved-else-not-last
loop-b-preserved-else-not-last c =
    let order : c.loop-b.b ≤ c.min-end.result = omega (arith, c.min-end.ensures, c.interval_of_last-last.ensures.begins, c.interval_at-this.ensures.begins) in
    let ends : c.min-end.result ≤ c.interval_of_last-last.result.end = omega (arith, c.min-end.ensures) in
    let this_ends : c.min-end.result ≤ c.interval_at-this.result.end = omega (arith, c.min-end.ensures) in
    let room : c.min-end.result ≤ atoms_found c.args.outline.now = omega (arith, ends, c.interval_of_last-last.ensures.ends) in
    let last_same : TellsTheSame (is_after_last (plan_seen c.args.outline.now) c.args.a) c.interval_of_last-last.result.is_after c.loop-b.b c.min-end.result = λ k from below. c.interval_of_last-last.ensures.same k from (omega (arith, below, ends)) in
    let this_same : TellsTheSame (is_before (plan_seen c.args.outline.now) c.args.a) c.interval_at-this.result.is_after c.loop-b.b c.min-end.result = λ k from below. c.interval_at-this.ensures.same k from (omega (arith, below, this_ends)) in
    record {
      within = room;
      last_within = c.interval_of_last-last.ensures.ends;
      this_within = c.interval_at-this.ensures.ends;
      last_same = λ k from below. c.interval_of_last-last.ensures.same k (omega (arith, from, order)) below;
      this_same = λ k from below. c.interval_at-this.ensures.same k (omega (arith, from, order)) below;
      later = passing_interval (is_before (plan_seen c.args.outline.now) c.args.a) c.interval_at-this.result.is_after (atoms_found c.args.outline.now) c.loop-b.b c.min-end.result c.args.numbers.now c.loop-b.after c.extend.new.self
          c.loop-b.invariant.later this_same c.if-this.true order room c.requires.numbers c.in_ok-extend.ensures;
      rows = rows_kept (plan_seen c.args.outline.now) (atoms_found c.args.outline.now) c.args.a c.loop-b.b c.min-end.result c.interval_of_last-last.result.is_after c.interval_at-this.result.is_after c.loop-b.rows.items c.loop-b.opened.items
          c.loop-b.invariant.rows order room last_same this_same (not_false c.interval_of_last-last.result.is_after c.if-not-last.false ∙ sym c.if-this.true);
    }

pub loop-b-preserved-in_ok-close_rows : goal.loop-b-preserved-in_ok-close_rows
loop-b-preserved-in_ok-close_rows c =
    let order : c.loop-b.b ≤ c.min-end.result = omega (arith, c.min-end.ensures, c.interval_of_last-last.ensures.begins, c.interval_at-this.ensures.begins) in
    let ends : c.min-end.result ≤ c.interval_of_last-last.result.end = omega (arith, c.min-end.ensures) in
    let this_ends : c.min-end.result ≤ c.interval_at-this.result.end = omega (arith, c.min-end.ensures) in
    let room : c.min-end.result ≤ atoms_found c.args.outline.now = omega (arith, ends, c.interval_of_last-last.ensures.ends) in
    let last_same : TellsTheSame (is_after_last (plan_seen c.args.outline.now) c.args.a) c.interval_of_last-last.result.is_after c.loop-b.b c.min-end.result = λ k from below. c.interval_of_last-last.ensures.same k from (omega (arith, below, ends)) in
    let this_same : TellsTheSame (is_before (plan_seen c.args.outline.now) c.args.a) c.interval_at-this.result.is_after c.loop-b.b c.min-end.result = λ k from below. c.interval_at-this.ensures.same k from (omega (arith, below, this_ends)) in
    record {
      within = room;
      last_within = c.interval_of_last-last.ensures.ends;
      this_within = c.interval_at-this.ensures.ends;
      last_same = λ k from below. c.interval_of_last-last.ensures.same k (omega (arith, from, order)) below;
      this_same = λ k from below. c.interval_at-this.ensures.same k (omega (arith, from, order)) below;
      later = failing_interval (is_before (plan_seen c.args.outline.now) c.args.a) c.interval_at-this.result.is_after c.loop-b.b c.min-end.result c.loop-b.after
          c.loop-b.invariant.later this_same c.if-this.false order;
      rows = rows_closed (plan_seen c.args.outline.now) (atoms_found c.args.outline.now) c.args.a c.loop-b.b c.min-end.result c.interval_of_last-last.result.is_after c.interval_at-this.result.is_after c.args.numbers.now c.loop-b.rows.items c.close_rows.new.rows.items c.loop-b.opened.items
          c.loop-b.invariant.rows order room last_same this_same c.if-last.true c.if-this.false c.requires.atom c.requires.numbers
          (subst (λ (xs : List ℕ). AreClosed c.args.numbers.now c.args.a c.loop-b.b c.min-end.result xs c.loop-b.rows.items c.close_rows.new.rows.items) c.deref.ensures.value c.in_ok-close_rows.ensures);
    }

pub loop-b-preserved : goal.loop-b-preserved
loop-b-preserved c =
    let order : c.loop-b.b ≤ c.min-end.result = omega (arith, c.min-end.ensures, c.interval_of_last-last.ensures.begins, c.interval_at-this.ensures.begins) in
    let ends : c.min-end.result ≤ c.interval_of_last-last.result.end = omega (arith, c.min-end.ensures) in
    let this_ends : c.min-end.result ≤ c.interval_at-this.result.end = omega (arith, c.min-end.ensures) in
    let room : c.min-end.result ≤ atoms_found c.args.outline.now = omega (arith, ends, c.interval_of_last-last.ensures.ends) in
    let last_same : TellsTheSame (is_after_last (plan_seen c.args.outline.now) c.args.a) c.interval_of_last-last.result.is_after c.loop-b.b c.min-end.result = λ k from below. c.interval_of_last-last.ensures.same k from (omega (arith, below, ends)) in
    let this_same : TellsTheSame (is_before (plan_seen c.args.outline.now) c.args.a) c.interval_at-this.result.is_after c.loop-b.b c.min-end.result = λ k from below. c.interval_at-this.ensures.same k from (omega (arith, below, this_ends)) in
    record {
      within = room;
      last_within = c.interval_of_last-last.ensures.ends;
      this_within = c.interval_at-this.ensures.ends;
      last_same = λ k from below. c.interval_of_last-last.ensures.same k (omega (arith, from, order)) below;
      this_same = λ k from below. c.interval_at-this.ensures.same k (omega (arith, from, order)) below;
      later = failing_interval (is_before (plan_seen c.args.outline.now) c.args.a) c.interval_at-this.result.is_after c.loop-b.b c.min-end.result c.loop-b.after
          c.loop-b.invariant.later this_same c.if-this.false order;
      rows = rows_kept (plan_seen c.args.outline.now) (atoms_found c.args.outline.now) c.args.a c.loop-b.b c.min-end.result c.interval_of_last-last.result.is_after c.interval_at-this.result.is_after c.loop-b.rows.items c.loop-b.opened.items
          c.loop-b.invariant.rows order room last_same this_same (c.if-last.false ∙ sym c.if-this.false);
    }
