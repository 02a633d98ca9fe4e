use Rattle.std.proofs.Common.{arith}
use Rattle.tf_audit.proofs.LogLemmas.{line_split, no_line}
use Rattle.tf_audit.proofs.lines.first_line.Goals as goal

pub returns-in-Some : goal.returns-in-Some
returns-in-Some c =
    let longer = c.split_at.ensures.back_len in
    (line_split c.args.bytes.now c.split_at.result.0.now c.split_at.result.1.now c.in-Some.at c.in-Some.ensures.0 c.in-Some.ensures.1 c.split_at.ensures.front c.split_at.ensures.back, omega arith)

pub returns-in-None : goal.returns-in-None
returns-in-None c = no_line c.args.bytes.now c.in-None.ensures
