-- Each entry past the entering ones makes what is left less.
use Rattle.tf_bound.proofs.SessionLemmas.{session_at_most, session_spends}
use Rattle.tf_bound.proofs.laws.runs_are_bounded.Goals as goal

pub returns-clause-bound : goal.returns-clause-bound
returns-clause-bound c = session_at_most

pub returns-clause-rest : goal.returns-clause-rest
returns-clause-rest c = session_spends
