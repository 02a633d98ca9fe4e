use Rattle.std.proofs.Common.{take}
use Rattle.tf_model.specs.Plan.{outline_of}
use Rattle.tf_machine.specs.Tables.{shown_by}
use Rattle.tf_machine.proofs.EntryLemmas.{AreAsked}
use Rattle.tf_machine.proofs.entries.ask_around.Given as goal

abbrev pub invariant-loop-turn : goal.invariant-loop-turn
invariant-loop-turn l = AreAsked (outline_of l.compiled) (shown_by l.tables) (take l.turn-index l.turn-items) l.answers
