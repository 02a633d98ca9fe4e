-- One address more is dialled.
use Rattle.std.proofs.Common.{◌≡◌, ◌<◌, ◌+◌, ◌++◌, ◌∙◌, ℕ, List, [], ◌∷◌, length, take, get_or, Option, Some, None, refl, sym, ap, append_assoc}
use Rattle.std.proofs.lemmas.List.{take_more}
use Rattle.tf_actions.specs.Gives.{told_with}
use Rattle.tf_ports.specs.declared.crews.Address.{Address}
use Rattle.tf_ports.specs.Ports.{told_with_all}

told_behind : (before : Option (List Address)) (some : List Address) (one : Address) → told_with (told_with_all before some) one ≡ told_with_all before (some ++ one ∷ [])
told_behind None some one = refl
told_behind (Some before) some one = ap Some (append_assoc before some (one ∷ []))

-- behind the first few of the addresses the next one was dialled
pub dialled_next : (addresses : List Address) (i : ℕ) (one : Address) (before now after : Option (List Address)) → i < length addresses → one ≡ get_or addresses i one
    → now ≡ told_with_all before (take i addresses) → after ≡ told_with now one → after ≡ told_with_all before (take (i + 1) addresses)
dialled_next addresses i one before now after within is told next =
    let more : take (i + 1) addresses ≡ take i addresses ++ one ∷ [] = take_more addresses i one within ∙ ap (λ (a : Address). take i addresses ++ a ∷ []) (sym is) in
    next ∙ ap (λ (o : Option (List Address)). told_with o one) told ∙ told_behind before (take i addresses) one ∙ ap (told_with_all before) (sym more)
