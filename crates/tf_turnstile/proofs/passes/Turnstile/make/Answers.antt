use Rattle.std.proofs.Common.{◌∙◌, ap, refl, ◌∷◌, ◌++◌, [], Some}
use Rattle.tf_turnstile.proofs.PassLemmas.{stands_first}
use Rattle.tf_turnstile.proofs.passes.Turnstile.make.Goals as goal

pub new-requires : goal.new-requires
new-requires g c =
    let k = g.B.Kept in
    stands_first k.origin k.first k.entries (record { kept = c.of.result; passes = c.args.passes }) c.args.kept c.count-count.result (0 ∷ c.count-count.result ∷ 0 ∷ []) c.push_reserved.new.self.items
    c.of.ensures c.requires.some c.count-count.ensures refl (c.push_reserved.ensures.items ∙ ap (λ l. l ++ Some c.args.kept ∷ []) c.in-Ok-with_capacity.ensures.items)
