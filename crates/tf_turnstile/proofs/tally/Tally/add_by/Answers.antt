use Rattle.std.proofs.Common.{◌≡◌, ℕ, subst}
use Rattle.tf_turnstile.specs.Numbered.{own}
use Rattle.tf_turnstile.proofs.TallyLemmas.{own_turn}
use Rattle.tf_turnstile.proofs.tally.Tally.add_by.Goals as goal

pub returns-clause-own : goal.returns-clause-own
returns-clause-own g c =
    let P : ℕ → Type 0 = λ n. own n c.take-tally.new.pass.seen ≡ own n c.args.pass.now.seen in
    own_turn c.add.result c.is_ok-added.result c.args.turnstile.now.start.amounts c.take-tally.new.pass.seen c.give.new.pass.seen c.args.pass.now.seen c.take-tally.result c.add.new.self c.args.number c.args.amount
    c.is_ok-added.ensures.value c.take-tally.ensures.history (subst P c.requires.idle.number_is c.take-tally.ensures.own) c.give.ensures.history c.add.ensures.added c.add.ensures.same
