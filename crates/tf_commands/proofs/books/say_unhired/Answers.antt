use Rattle.std.proofs.Common.{inr, []}
use Rattle.tf_journal.proofs.OpenLemmas.{untouched_now}
use Rattle.tf_commands.proofs.books.say_unhired.Goals as goal

pub returns-in-Failed-clause-refuses : goal.returns-in-Failed-clause-refuses
returns-in-Failed-clause-refuses g c = λ name entry seen untouched. inr (c.say_over.ensures.refuses name entry seen untouched)

pub returns-in-Failed-clause-closes : goal.returns-in-Failed-clause-closes
returns-in-Failed-clause-closes g c = inr (c.say_over.ensures.refuses [] c.args.desk c.args.desk untouched_now).closes
