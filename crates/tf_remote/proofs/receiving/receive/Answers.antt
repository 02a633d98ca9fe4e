use Rattle.std.proofs.Common.{sym, ◌∙◌}
use Rattle.tf_ports.specs.Ports.{SeenLink, seen_link}
use Rattle.tf_remote.proofs.FrameLemmas.{frame_result}
use Rattle.tf_remote.proofs.receiving.receive.Goals as goal

pub returns : goal.returns
returns g c =
    let before : SeenLink = seen_link g.L.Link.left g.L.Link.transcript g.L.Link.faults g.L.Link.ends c.args.link.now in
    let now : SeenLink = seen_link g.L.Link.left g.L.Link.transcript g.L.Link.faults g.L.Link.ends c.receive_bytes.new.link in
    let after : SeenLink = seen_link g.L.Link.left g.L.Link.transcript g.L.Link.faults g.L.Link.ends c.receive_bytes-2.new.link in
    frame_result c.receive_bytes-2.result (λ bytes. bytes.items) c.in-Ok.prefix.items c.length_in-len.result before now after c.length_in-len.ensures.small (sym c.deref.ensures.value ∙ c.length_in-len.ensures.is)
    (sym c.is_frame_length.ensures ∙ c.if-not-is_frame_length.false) c.in-Ok.ensures.brings c.receive_bytes-2.ensures
