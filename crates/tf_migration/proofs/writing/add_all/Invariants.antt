use Rattle.std.proofs.Common.{take}
use Rattle.tf_desk.specs.State.{GoesOn}
use Rattle.tf_journal.specs.Format.{LeavesUnborn}
use Rattle.tf_journal.specs.declared.title.Title.TheVariants.{Book2 as new_title}
use Rattle.tf_migration.specs.Writing.{IsDraftOf}
use Rattle.tf_migration.proofs.writing.add_all.Given as goal

abbrev pub invariant-loop-body : goal.invariant-loop-body
invariant-loop-body g l =
    IsDraftOf g.K.Desk.state (take l.body-index l.bodies) l.journal
    × GoesOn (LeavesUnborn new_title (g.K.Desk.state l.initial.journal.desk).shown) (g.K.Desk.state l.initial.journal.desk) (g.K.Desk.state l.journal.desk)
