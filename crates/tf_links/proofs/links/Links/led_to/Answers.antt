use Rattle.std.proofs.Common.{◌≡◌, ◌∙◌, ◌*◌, ◌<◌, ap, arith}
use Rattle.tf_links.specs.Links.{LinksValue}
use Rattle.tf_links.specs.Bits.{words_for}
use Rattle.tf_links.proofs.StandingLemmas.{led_within}
use Rattle.tf_links.proofs.LinkLemmas.{led_row}
use Rattle.tf_links.proofs.links.Links.led_to.Goals as goal

pub returns-clause-within : goal.returns-clause-within
returns-clause-within c =
    let count : c.self.inside.count ≡ c.args.self.now.count = ap (λ (m : LinksValue). m.count) c.self.view_is in
    λ k on.
    let below : k < c.self.inside.count = led_within c.self.inside.from.items c.self.inside.count (64 * words_for c.self.inside.count) c.args.item c.in_ok-items.items.items c.self.invariant.within
    (c.in_ok-items.ensures ∙ led_row c.self.inside.from.items c.self.inside.count c.args.item c.index.result.now c.self.invariant.from (omega (arith, count, c.requires)) c.index.ensures) k on in
    omega (arith, below, count)
