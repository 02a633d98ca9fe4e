use Rattle.std.proofs.Common.{None}
use Rattle.tf_flow.specs.declared.paths.Turn.{Turn}
use Rattle.tf_model.specs.Plan.{outline_of}
use Rattle.tf_machine.specs.Tables.{shown_by}
use Rattle.tf_machine.proofs.EntryLemmas.{asked_past, asked_more, asked_all}
use Rattle.tf_machine.proofs.entries.ask_around.Goals as goal
use Rattle.tf_machine.proofs.entries.ask_around.Goals.{in-Some+in_ok-answers, in_default}

pub loop-turn-preserved : goal.loop-turn-preserved
loop-turn-preserved c =
    let d : Turn = record { flow = 0; item = None } in
    elim c.match-retry_of.branch [
      | in-Some+in_ok-answers w ↦ rw w.answers-is
          (asked_more (outline_of c.args.compiled.now) (shown_by c.args.tables.now) c.path-turn-items.result.now c.loop-turn.turn-index d c.loop-turn.answers w.in-Some.retry w.in_ok-answers.field-0
          c.loop-turn.invariant c.loop-turn-test.true w.in-Some.ensures.number w.in-Some.ensures.few w.in_ok-answers.ensures)
      | in_default w ↦ rw w.answers-is
          (asked_past (outline_of c.args.compiled.now) (shown_by c.args.tables.now) c.path-turn-items.result.now c.loop-turn.turn-index d c.loop-turn.answers
          c.loop-turn.invariant c.loop-turn-test.true w.in_default.ensures.number)
    ]

pub returns : goal.returns
returns c =
    asked_all (outline_of c.args.compiled.now) (shown_by c.args.tables.now) c.path-turn-items.result.now c.loop-turn.turn-index c.args.atom c.loop-turn.answers c.loop-turn.invariant c.loop-turn-test.false c.path-turn-items.ensures
