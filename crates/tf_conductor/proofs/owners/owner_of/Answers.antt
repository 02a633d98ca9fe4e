use Rattle.std.proofs.Common.{◌≡◌, ℕ, List, [], ◌∷◌, ◌++◌, true, false, ◌∙◌, ap, append_assoc}
use Rattle.std.specs.Fmt.{decimal}
use Rattle.tf_values.specs.Text.{is_name}
use Rattle.tf_conductor.specs.Rounds.{owner_name}
use Rattle.tf_conductor.proofs.OwnerLemmas.{owner_is_name}
use Rattle.tf_conductor.proofs.owners.owner_of.Goals as goal

pub unreachable-requires : goal.unreachable-requires
unfolding owner_name
unreachable-requires c =
    let word = c.args.word.now in
    let first : c.append.new.out.items ≡ word = c.in_ok-append.ensures.ok ∙ ap (λ (l : List ℕ). l ++ c.bytes-begun.result.now) c.new-bytes.ensures.items ∙ c.bytes-begun.ensures.value in
    let second : c.append-2.new.out.items ≡ word ++ 45 ∷ [] = c.in_ok-append-2.ensures.ok ∙ ap (λ (l : List ℕ). l ++ 45 ∷ []) first in
    let third : c.append_number.new.out.items ≡ (word ++ 45 ∷ []) ++ decimal c.args.number = c.in_ok-append_number.ensures.ok ∙ ap (λ (l : List ℕ). l ++ decimal c.args.number) second in
    let is : c.deref.result.now ≡ owner_name word c.args.number = c.deref.ensures.value ∙ third ∙ append_assoc word (45 ∷ []) (decimal c.args.number) in
    let clash : false ≡ true = c.in_default.ensures.variant ∙ ap is_name is ∙ owner_is_name word c.args.number c.bytes-begun.ensures.name c.requires.short c.requires.few in
    cc
