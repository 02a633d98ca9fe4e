use Rattle.std.proofs.Common.{take, arith}
use Rattle.tf_ports.proofs.SocketLemmas.{keeps_itself, keeps_on, consumes_after}
use Rattle.tf_ports.proofs.sockets.get.Goals as goal

pub loop-init : goal.loop-init
loop-init g c = keeps_itself (g.S.Read.remaining c.args.stream.now)

pub loop-preserved : goal.loop-preserved
loop-preserved g c =
    let remaining = g.S.Read.remaining in
    keeps_on (remaining c.args.stream.now) (remaining c.loop.stream) (remaining c.read.new.self) c.loop.invariant c.in-Err.ensures.bytes

pub returns-in-Ok : goal.returns-in-Ok
returns-in-Ok g c =
    let remaining = g.S.Read.remaining in (
      omega arith,
      c.in-Ok.ensures.bound.0,
      consumes_after (remaining c.args.stream.now) (remaining c.loop.stream) (remaining c.read.new.self) (take c.in-Ok.count c.read.new.buf) c.loop.invariant c.in-Ok.ensures.bytes.0,
    )
