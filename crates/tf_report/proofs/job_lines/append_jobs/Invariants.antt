use Rattle.std.proofs.Common.{◌≡◌, ◌++◌, take}
use Rattle.std.specs.List.{flat_map}
use Rattle.tf_report.specs.Lines.{job_line}
use Rattle.tf_report.proofs.job_lines.append_jobs.Given as goal

abbrev pub invariant-loop-job : goal.invariant-loop-job
invariant-loop-job l = l.out.items ≡ l.initial.out.items ++ flat_map job_line (take l.job-index l.list)
