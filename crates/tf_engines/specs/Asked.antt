-- Which orders a hand was given in a run, beside the starts and restarts that it recorded.
use Rattle.std.specs.Prelude.{◌≡◌, ◌≤◌, List, [], ◌∷◌, ◌++◌, length, Option, option_map}
use Rattle.tf_actions.specs.declared.orders.Order.{Order}
use Rattle.tf_engines.specs.declared.engine.How.{How}
use Rattle.tf_engines.specs.declared.engine.How.TheVariants as how

-- orders at the end of those that the hand keeps; None, which tells nothing, stays None
abbrev pub told_all : Option (List Order) → List Order → Option (List Order)
told_all told orders = option_map (λ (before : List Order). before ++ orders) told

-- since the start, when it had been told these and the history asked for these: it was given the orders of all starts
-- since, in order, each once
pub record HasDone (told : Option (List Order)) (base : List Order) (did : Option (List Order))
    (asked : List Order) : Type 0 where
  pub done : List Order
  pub since : asked ≡ base ++ done
  pub is : did ≡ told_all told done

-- the same, but that the order of the last start may be missing
pub record HasDoneAllButOne (told : Option (List Order)) (base : List Order) (did : Option (List Order))
    (asked : List Order) : Type 0 where
  pub done : List Order
  pub missing : List Order
  pub one : length missing ≤ 1
  pub since : asked ≡ base ++ (done ++ missing)
  pub is : did ≡ told_all told done

-- the same, where that of the last start is this order, and is still to be given
pub record HasToDo (told : Option (List Order)) (base : List Order) (did : Option (List Order)) (asked : List Order)
    (next : Order) : Type 0 where
  pub done : List Order
  pub since : asked ≡ base ++ (done ++ next ∷ [])
  pub is : did ≡ told_all told done

-- by how the run stopped: the last one may be missing only where the book was halted
abbrev pub HasDoneBy : Option (List Order) → List Order → Option (List Order) → List Order → How → Type 0
HasDoneBy told base did asked (how.Halted cause) = HasDoneAllButOne told base did asked
HasDoneBy told base did asked other = HasDone told base did asked
