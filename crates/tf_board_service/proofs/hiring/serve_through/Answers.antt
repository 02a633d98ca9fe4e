use Rattle.std.proofs.Common.{◌≡◌, ◌<◌, ◌++◌, ℕ, List, length, take, drop, arith, ap, sym, subst, slice_index_or}
use Rattle.tf_ports.specs.Ports.{seen_link}
use Rattle.tf_board_service.specs.Turning.{HasServed}
use Rattle.tf_board_service.specs.declared.serving.Server.{Server}
use Rattle.tf_board_service.proofs.EndLemmas.{take_prefix}
use Rattle.tf_board_service.proofs.hiring.serve_through.Goals as goal

pub returns-clause-served : goal.returns-clause-served
returns-clause-served g c = λ i d below.
    let same = c.as_mut_slice.ensures.value in
    let see = seen_link g.L.Link.left g.L.Link.transcript g.L.Link.faults g.L.Link.ends in
    let new : List (Server g.row.K.Denot g.row.L.Denot) = c.serve_all.new.servers in
    let long : c.args.servers.len ≡ length new = omega (arith, c.serve_all.auto.servers, c.as_mut_slice.ensures.len, ap length same, c.args.servers.ok.0) in
    let front : take c.args.servers.len (new ++ drop (length new) c.args.servers.items) ≡ new
    = subst (λ (n : ℕ). take n (new ++ drop (length new) c.args.servers.items) ≡ new) (sym long) (take_prefix new (drop (length new) c.args.servers.items)) in
    subst (λ (l : List (Server g.row.K.Denot g.row.L.Denot)). HasServed c.args.turnstile.now i (see (slice_index_or c.args.servers.items i d).link) (see (slice_index_or l i d).link) (slice_index_or l i d).points.items (slice_index_or l i d).end (slice_index_or l i d).pass)
    (sym front)
    (subst (λ (l : List (Server g.row.K.Denot g.row.L.Denot)). HasServed c.args.turnstile.now i (see (slice_index_or l i d).link) (see (slice_index_or new i d).link) (slice_index_or new i d).points.items (slice_index_or new i d).end (slice_index_or new i d).pass)
    same (c.serve_all.ensures i d (subst (λ (l : List (Server g.row.K.Denot g.row.L.Denot)). i < length l) (sym same) below)))
