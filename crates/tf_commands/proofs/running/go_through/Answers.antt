use Rattle.std.proofs.Common.{◌≡◌, ℕ, length, arith}
use Rattle.tf_book.specs.Book.{outline}
use Rattle.tf_hands.specs.Hands.{orders}
use Rattle.tf_engines.specs.Asked.{HasDoneBy}
use Rattle.tf_commands.proofs.OrderLemmas.{done_alone}
use Rattle.tf_commands.proofs.running.go_through.Goals as goal

pub returns-clause-orders : goal.returns-clause-orders
returns-clause-orders g c = λ i d below.
    let P = g.row.P.Denot in
    let did = g.P.Performer.did in
    let end = c.serial-end in
    let one : length c.args.hands.now.items ≡ 1 = omega (arith, c.args.hands.now.ok.0) in
    done_alone (λ (n : ℕ) (before after : P). HasDoneBy (did before) (orders (outline c.args.book) n c.args.book.past) (did after) (orders (outline c.args.book) n end.result.book.past) end.result.how)
    c.args.hands.now.items c.pop.new.self.items c.push_reserved.new.self.items c.in-Some.hand end.new.hand c.in-Some.ensures.items one c.push_reserved.ensures.items end.ensures.orders
    i d (omega (arith, below, c.args.hands.now.ok.0))
