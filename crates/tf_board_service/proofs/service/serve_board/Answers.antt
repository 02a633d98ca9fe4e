use Rattle.std.proofs.Common.{◌≡◌, ◌<◌, ◌∙◌, length, arith, ap, subst}
use Rattle.std.specs.List.{All}
use Rattle.tf_shared_board.specs.Shared.{SharedValue}
use Rattle.tf_board_service.specs.Served.{AreServed}
use Rattle.tf_board_service.specs.Serving.{ServingValue, made_since}
use Rattle.tf_board_service.proofs.service.serve_board.Goals as goal

pub returns-in-Ok-make-clause-each : goal.returns-in-Ok-make-clause-each
returns-in-Ok-make-clause-each g c =
    let start : c.in-Ok-make.turnstile.start ≡ c.begin.result = cc (c.in-Ok-make.ensures.made.0, c.in-Ok-make.turnstile-is) in
    let begun : c.in-Ok-make.turnstile.start.begun ≡ c.args.shared = ap (λ (v : ServingValue g.row.K.Denot). v.begun) (start ∙ c.begin.ensures) in
    let s : AreServed g.K.Desk.state g.L.Link.left g.L.Link.transcript g.L.Link.faults g.L.Link.ends c.args.shared c.serve_links.result.shared c.args.links.now.items c.serve_links.new.links.items c.serve_links.result.sessions
    = subst (λ (b : SharedValue g.row.K.Denot). AreServed g.K.Desk.state g.L.Link.left g.L.Link.transcript g.L.Link.faults g.L.Link.ends b c.serve_links.result.shared c.args.links.now.items c.serve_links.new.links.items c.serve_links.result.sessions) begun c.serve_links.ensures in
    λ i d e below. s.each i d e (omega (arith, below, c.args.links.now.ok.0))

pub returns-in-Ok-make-clause-numbers : goal.returns-in-Ok-make-clause-numbers
returns-in-Ok-make-clause-numbers g c =
    let start : c.in-Ok-make.turnstile.start ≡ c.begin.result = cc (c.in-Ok-make.ensures.made.0, c.in-Ok-make.turnstile-is) in
    let begun : c.in-Ok-make.turnstile.start.begun ≡ c.args.shared = ap (λ (v : ServingValue g.row.K.Denot). v.begun) (start ∙ c.begin.ensures) in
    let numbers : All (λ m. m.number < length c.args.links.now.items) (made_since c.args.shared c.serve_links.result.shared)
    = subst (λ (b : SharedValue g.row.K.Denot). All (λ m. m.number < length c.args.links.now.items) (made_since b c.serve_links.result.shared)) begun c.serve_links.ensures.numbers in
    λ k d below. omega (arith, numbers k d below, c.args.links.now.ok.0)
