use Rattle.std.proofs.Common.{◌≡◌, ℕ, List, ◌++◌, take, sym, subst, rules, arith}
use Rattle.std.proofs.lemmas.Grind.{common_steps}
use Rattle.tf_ports.specs.Ports.{SeenLink, seen_link}
use Rattle.tf_remote.specs.Received.{Brings}
use Rattle.tf_remote.proofs.ByteLemmas.{brings_piece_more, brings_any}
use Rattle.tf_remote.proofs.receiving.receive_bytes.Goals as goal

pub returns-then-is_err : goal.returns-then-is_err
returns-then-is_err g c =
    let before : SeenLink = seen_link g.L.Link.left g.L.Link.transcript g.L.Link.faults g.L.Link.ends c.args.link.now in
    let now : SeenLink = seen_link g.L.Link.left g.L.Link.transcript g.L.Link.faults g.L.Link.ends c.loop-piece.link in
    let after : SeenLink = seen_link g.L.Link.left g.L.Link.transcript g.L.Link.faults g.L.Link.ends c.recv.new.self in
    let more = take c.in-Bytes.some c.recv.new.buf in
    brings_any (c.loop-piece.bytes.items ++ more) before after (brings_piece_more c.loop-piece.bytes.items more before now after c.loop-piece.invariant.brings
    c.in-Bytes.ensures.came.2 c.in-Bytes.ensures.passed c.in-Bytes.ensures.no_fall.0 c.in-Bytes.ensures.no_fall.1)

pub loop-piece-preserved : goal.loop-piece-preserved
loop-piece-preserved g c =
    let before : SeenLink = seen_link g.L.Link.left g.L.Link.transcript g.L.Link.faults g.L.Link.ends c.args.link.now in
    let now : SeenLink = seen_link g.L.Link.left g.L.Link.transcript g.L.Link.faults g.L.Link.ends c.loop-piece.link in
    let after : SeenLink = seen_link g.L.Link.left g.L.Link.transcript g.L.Link.faults g.L.Link.ends c.recv.new.self in
    let more : List ℕ = take c.in-Bytes.some c.recv.new.buf in
    let items : c.extend_from_slice.new.self.items ≡ c.loop-piece.bytes.items ++ more = search rules in record {
      brings = subst (λ (bytes : List ℕ). Brings bytes before after) (sym items) (brings_piece_more c.loop-piece.bytes.items more before now after c.loop-piece.invariant.brings
          c.in-Bytes.ensures.came.2 c.in-Bytes.ensures.passed c.in-Bytes.ensures.no_fall.0 c.in-Bytes.ensures.no_fall.1);
      within = search rules;
      size = grind (arith, common_steps);
    }
