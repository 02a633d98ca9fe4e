use Rattle.std.proofs.Common.{◌≡◌, ◌∙◌, ◌+◌, ℕ, suc, List, Bool, Some, get_or, take, sym, ap, arith}
use Rattle.std.specs.Prelude.{slice_get, option_map}
use Rattle.std.specs.List.{find, filter, flat_map}
use Rattle.std.proofs.lemmas.Option.{slice_get-get_or}
use Rattle.tf_states.specs.declared.priorities.Priority.{Priority}
use Rattle.tf_states.specs.declared.priorities.Priority.TheVariants as priority
use Rattle.tf_board.specs.Board.{is_listed, priorities}
use Rattle.tf_board.specs.Seeking.{number_in, is_takable}
use Rattle.tf_board.specs.declared.jobs.Job.{Job}
use Rattle.tf_board.proofs.SeekingLemmas.{seek_none, seek_found}
use Rattle.tf_board.proofs.board.seeking.free_among.Goals as goal

-- the jobs of a priority that are there
abbrev at_priority : List Job → Priority → List Job
at_priority jobs p = filter (is_listed p) jobs

pub returns-in-Some : goal.returns-in-Some
returns-in-Some c =
    let i = c.loop-priority.priority-index in
    let jobs = c.args.kept.now.jobs.items in
    let p : Job → Bool = is_takable jobs c.args.skip.now in
    let x = get_or priorities i priority.VeryHigh in
    let at : slice_get priorities i ≡ Some x = slice_get-get_or priorities i priority.VeryHigh c.loop-priority-test.true in
    sym (ap (λ o. option_map number_in o) (seek_found p (at_priority jobs) priorities i x c.in-Some.job.now at c.loop-priority.invariant (sym c.in-Some.ensures)))

pub loop-priority-preserved : goal.loop-priority-preserved
loop-priority-preserved c =
    let i = c.loop-priority.priority-index in
    let jobs = c.args.kept.now.jobs.items in
    let p : Job → Bool = is_takable jobs c.args.skip.now in
    let x = get_or priorities i priority.VeryHigh in
    let at : slice_get priorities i ≡ Some x = slice_get-get_or priorities i priority.VeryHigh c.loop-priority-test.true in
    let next : i + 1 ≡ suc i = omega arith in
    ap (λ (n : ℕ). find p (flat_map (at_priority jobs) (take n priorities))) next
    ∙ seek_none p (at_priority jobs) priorities i x at c.loop-priority.invariant (sym c.in_default.ensures)
