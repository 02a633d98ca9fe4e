use Rattle.std.proofs.Common.{sym, ap, ◌∙◌}
use Rattle.tf_migration.specs.Migrates.{carried}
use Rattle.tf_migration.proofs.FlowLemmas.{carried_legal}
use Rattle.tf_migration.proofs.HeadedLemmas.{headed, headed_same, alike_flows}
use Rattle.tf_migration.proofs.laws.old_books_are_read_once.Goals as goal

pub returns : goal.returns
returns c = λ p q past other h k same.
    alike_flows p q past other
    (c.books_are_read_once.ensures (carried p past) (carried q other) (carried_legal p past h) (carried_legal q other k)
    (sym (headed_same p past) ∙ ap headed same ∙ headed_same q other))
