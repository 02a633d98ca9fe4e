-- A crew that dials nobody; hands that were given no order.
use Rattle.std.proofs.Common.{◌≡◌, ℕ, zero, suc, List, [], ◌∷◌, map, take, drop, Option, Some, None, refl, sym, ap, ◌∙◌, arith, append-nil}
use Rattle.std.specs.List.{AllByRecursion}
use Rattle.tf_actions.specs.declared.orders.Order.{Order}
use Rattle.tf_ports.specs.Ports.{told_with_all, DialsSome, IsFresh}
use Rattle.tf_ports.specs.declared.crews.Address.{Address}

told_none : (told : Option (List Address)) → told ≡ told_with_all told []
told_none None = refl
told_none (Some had) = ap Some (sym (append-nil had))

-- nobody was dialled: the first none of the addresses
pub dials_none : (addresses : List Address) (before now : Option (List Address)) → now ≡ before → DialsSome addresses before now
dials_none addresses before now same = record { count = 0; few = omega arith; dialled = same ∙ told_none before }

-- ---- hands that were given no order

module _ {P : Type 0} (did : P → Option (List Order)) where
  -- the first of them
  pub fresh_first : (count : ℕ) (hands : List P) → AllByRecursion IsFresh (map did hands) → AllByRecursion IsFresh (map did (take count hands))
  fresh_first zero hands all = tt
  fresh_first (suc count) [] all = tt
  fresh_first (suc count) (hand ∷ hands) all = (all.0, fresh_first count hands all.1)

  -- and the others
  pub fresh_others : (count : ℕ) (hands : List P) → AllByRecursion IsFresh (map did hands) → AllByRecursion IsFresh (map did (drop count hands))
  fresh_others zero hands all = all
  fresh_others (suc count) [] all = tt
  fresh_others (suc count) (hand ∷ hands) all = fresh_others count hands all.1
