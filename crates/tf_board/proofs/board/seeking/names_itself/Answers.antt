use Rattle.std.proofs.Common.{Some, sym, ap, ◌∙◌}
use Rattle.std.proofs.lemmas.Option.{slice_get-get_or}
use Rattle.tf_board.proofs.KeptLemmas.{itself_there, itself_nowhere}
use Rattle.tf_board.proofs.board.seeking.names_itself.Goals as goal

pub returns-in-Some : goal.returns-in-Some
returns-in-Some c =
    let jobs = c.args.kept.now.jobs.items in
    let job = c.index.result.now in
    itself_there jobs c.args.job.now job c.in-Some.place c.in-Some.ensures.is (slice_get-get_or jobs c.in-Some.place job c.in-Some.ensures.within ∙ ap Some (sym c.index.ensures))

pub returns-in-None : goal.returns-in-None
returns-in-None c = itself_nowhere c.args.kept.now.jobs.items c.args.job.now c.in-None.ensures.is
