use Rattle.std.proofs.Common.{◌∙◌, arith}
use Rattle.tf_desk.specs.State.{bytes_now}
use Rattle.tf_journal.proofs.WindowLemmas.{all_read}
use Rattle.tf_journal.proofs.window.Window.fill.Goals as goal

pub returns-clause-all : goal.returns-clause-all
returns-clause-all g c = λ told.
    let reads = c.in_ok-count.ensures.bytes told in
    reads.prefix ∙ all_read 4096 c.in_ok-count.count c.args.place (bytes_now (g.K.Desk.state c.args.desk.now)) (omega (arith, reads.count, c.read.auto.buf))
