use Rattle.std.proofs.Common.{None, Some, take, refl, sym, ap, ◌∙◌, arith}
use Rattle.std.proofs.lemmas.List.{length-take-le}
use Rattle.tf_board.specs.Seeking.{firsts}
use Rattle.tf_board.proofs.StartLemmas.{firsts_none, next, urgent_none, urgent_here, starts_here}
use Rattle.tf_board.proofs.starts.starts_in.Goals as goal
use Rattle.tf_board.proofs.starts.starts_in.Goals.{in-Some+else-is_priority, in_default}

pub returns-then-is_priority : goal.returns-then-is_priority
returns-then-is_priority c =
    let free = c.args.free.now in
    let place = c.loop-place.place in
    let here = sym c.is_priority.ensures ∙ c.if-is_priority.true in
    starts_here free c.loop-place.found place c.loop-place.invariant.0 (urgent_here free place (Some c.in-Some.priority) c.loop-place-test.true c.in-Some.is c.loop-place.invariant.1 here)

pub loop-place-preserved : goal.loop-place-preserved
loop-place-preserved c =
    let free = c.args.free.now in
    let place = c.loop-place.place in
    let before = take place free in
    let within = c.loop-place-test.true in
    elim c.match-under.branch [
      | in-Some+else-is_priority w ↦ (
          let last = Some w.in-Some.priority in
          let long = length-take-le place free (omega arith) in (
            w.found-is ∙ w.note.ensures before c.loop-place.invariant.0 (sym long) ∙ ap firsts (sym (next free place last within w.in-Some.is)),
            urgent_none free place last within w.in-Some.is c.loop-place.invariant.1 (sym w.is_priority.ensures ∙ w.if-is_priority.false),
          )
          )
      | in_default w ↦ (
        w.found-is ∙ c.loop-place.invariant.0 ∙ sym (firsts_none before) ∙ ap firsts (sym (next free place None within w.in_default.is)),
        urgent_none free place None within w.in_default.is c.loop-place.invariant.1 refl,
      )
    ]
