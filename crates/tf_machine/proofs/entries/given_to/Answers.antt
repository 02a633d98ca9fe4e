use Rattle.tf_machine.specs.Tables.{shown_by}
use Rattle.tf_machine.proofs.EntryLemmas.{same_given, views_seen}
use Rattle.tf_machine.proofs.entries.given_to.Goals as goal

pub returns-in_ok-given-in-Parameterized : goal.returns-in_ok-given-in-Parameterized
returns-in_ok-given-in-Parameterized c =
    same_given c.args.retry.now.kind c.in_ok-given-in-Parameterized.given _ (c.in_ok-given-in-Parameterized.ensures (shown_by c.args.tables.now) (views_seen c.args.tables.now c.deref.result.now c.deref.ensures.value))
