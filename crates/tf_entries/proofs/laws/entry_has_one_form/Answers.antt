use Rattle.tf_entries.proofs.EntryLemmas.{entry_one}
use Rattle.tf_entries.proofs.laws.entry_has_one_form.Goals as goal

pub returns-clause-one : goal.returns-clause-one
returns-clause-one c = entry_one
