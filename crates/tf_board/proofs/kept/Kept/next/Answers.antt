use Rattle.std.proofs.Common.{◌≡◌, ◌∙◌, length, ap}
use Rattle.tf_board.specs.Board.{posted, past_in}
use Rattle.tf_board.proofs.JobLemmas.{jobs_long, job_next}
use Rattle.tf_board.proofs.kept.Kept.next.Goals as goal

pub returns : goal.returns
returns c =
    let past = past_in c.args.self.now in
    let t = c.requires.true_to in
    let count : length c.as_slice.result.now ≡ posted past = ap length (c.as_slice.ensures.value ∙ t.jobs) ∙ jobs_long past past in
    job_next past (length c.as_slice.result.now) c.in_ok-id.id c.args.name.now c.args.priority t.legal count c.in_ok-id.ensures
