-- Where two paths from the root part.
use Rattle.std.specs.Prelude.{ℕ, List, [], ◌∷◌, Bool, true, false, Option, Some, None, option_map, nat_eq, if◌then◌else◌}
use Rattle.tf_model.specs.Before.{Flow, item_before}
use Rattle.tf_flow.specs.declared.paths.Turn.{Turn}
use Rattle.tf_order.specs.declared.paths.Meeting.{Meeting}
use Rattle.tf_order.specs.declared.paths.Meeting.TheVariants as meet

-- two paths that go on in flow g to these places: to the retry controller of the flow where there is no place
abbrev pub parted : ℕ → Option ℕ → Option ℕ → Option Meeting
parted g None None = Some meet.Apart
parted g None (Some v) = Some meet.First
parted g (Some u) None = Some meet.Apart
parted g (Some u) (Some v) = if nat_eq u v then None else Some (meet.Items g u v)

-- where two paths part at these turns, if they do
abbrev pub parting : Turn → Turn → Option Meeting
parting x y = if nat_eq x.flow y.flow then parted x.flow x.item y.item else Some meet.Apart

-- where they part here, or else below
abbrev pub here_or_below : Option Meeting → Meeting → Meeting
here_or_below None below = below
here_or_below (Some here) below = here

-- where two paths part
abbrev pub meeting : List Turn → List Turn → Meeting
meeting [] other = meet.Apart
meeting (x ∷ xs) [] = meet.Apart
meeting (x ∷ xs) (y ∷ ys) = here_or_below (parting x y) (meeting xs ys)

-- an atom with the first path is before one with the second: the order of the flow decides where they go
-- to two items of it
abbrev pub decides : List Flow → Meeting → Bool
decides flows meet.Apart = false
decides flows meet.First = true
decides flows (meet.Items g u v) = item_before flows g u v

-- the flow into which a turn leads, where there is a turn
abbrev pub flow_of_turn : Option Turn → Option ℕ
flow_of_turn turn = option_map (λ t. t.flow) turn

-- the place to which it leads there
abbrev pub item_of_turn : Option Turn → Option ℕ
item_of_turn None = None
item_of_turn (Some turn) = turn.item
