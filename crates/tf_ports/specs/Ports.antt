-- What the calls of a link do to the bytes that it tells of. What is told of sources and of a door, and which hands are
-- wanted.
use Rattle.std.specs.Prelude.{◌≡◌, ◌⊎◌, ℕ, ◌<◌, ◌≤◌, List, [], ◌++◌, length, take, map, Option, Some, None, option_map, vec_len}
use Rattle.std.specs.List.{AllByRecursion}
use Rattle.tf_ports.specs.declared.links.Came.{Came}
use Rattle.tf_ports.specs.Transcript.{Passed}
use Rattle.tf_actions.specs.declared.orders.Order.{Order}
use Rattle.tf_actions.specs.declared.outcomes.Outcome.{Outcome}
use Rattle.tf_actions.specs.Gives.{told_with}
use Rattle.tf_ports.specs.declared.crews.Address.{Address}
use Rattle.tf_ports.specs.declared.crews.Hands.{Hands}
use Rattle.tf_ports.specs.declared.crews.Want.{Want}
use Rattle.tf_ports.specs.declared.links.Came.TheVariants as came
use Rattle.tf_ports.specs.declared.crews.Hands.TheVariants as hands
use Rattle.tf_ports.specs.declared.crews.Want.TheVariants as want

-- what is seen of a link: the bytes that it has left, None where it doesn't tell them; what passed over it; and its
-- counts of faults and ends
pub record SeenLink : Type 0 where
  pub left : Option (List ℕ)
  pub transcript : List Passed
  pub faults : ℕ
  pub ends : ℕ

abbrev pub seen_link : {L : Type 0} → (L → Option (List ℕ)) → (L → List Passed) → (L → ℕ) → (L → ℕ) → L → SeenLink
seen_link left transcript faults ends link =
    record { left = left link; transcript = transcript link; faults = faults link; ends = ends link }

-- what was left before these bytes were taken from its front; None, which tells nothing, stays None
abbrev pub left_before : List ℕ → Option (List ℕ) → Option (List ℕ)
left_before bytes left = option_map (λ rest. bytes ++ rest) left

-- nothing is left, where it is told
abbrev pub IsNothingLeft : Option (List ℕ) → Type 0
IsNothingLeft None = Unit {0}
IsNothingLeft (Some left) = left ≡ []

-- what came: some bytes from the front of what was left, which stand first in the buffer; or the end, where
-- nothing was left; or nothing
abbrev pub Comes : Option (List ℕ) → Option (List ℕ) → List ℕ → Came → Type 0
Comes before after buffer (came.Bytes count) =
    (0 < count) × (count ≤ length buffer) × (before ≡ left_before (take count buffer) after)
Comes before after buffer came.End = IsNothingLeft before × (after ≡ before)
Comes before after buffer came.Failed = after ≡ before

-- ---- the bytes of the sources, where they are told

-- from each name that has a source to its bytes; None where the sources don't tell
abbrev pub Contents : Type 0
Contents = Option (List ℕ → Option (List ℕ))

-- these may be the bytes under the name: they are, where the sources tell
abbrev pub GivesBytes : Contents → List ℕ → List ℕ → Type 0
GivesBytes None name bytes = Unit {0}
GivesBytes (Some sources) name bytes = sources name ≡ Some bytes

-- the source of that name may have more bytes than the limit: it has, where the sources tell
abbrev pub PassesLimit : Contents → List ℕ → Type 0
PassesLimit None name = Unit {0}
PassesLimit (Some sources) name = (bytes : List ℕ) × (sources name ≡ Some bytes) × (262144 < length bytes)

-- what is told after some call: what was told before it, or nothing any more
abbrev pub TellsStill : Contents → Contents → Type 0
TellsStill before after = (after ≡ before) ⊎ (after ≡ None)

-- ---- lists that are told

-- more at the end; None, which tells nothing, stays None
abbrev pub told_with_all : {X : Type 0} → Option (List X) → List X → Option (List X)
told_with_all told xs = option_map (λ before. before ++ xs) told

-- ---- what a door tells

-- the addresses at which it was opened, in order; what was seen of each link that it gave, as it gave it; and what was
-- seen of each link that was given back to it, as it was given back
pub record DoorTold : Type 0 where
  pub opened : Option (List Address)
  pub given : Option (List SeenLink)
  pub returned : Option (List SeenLink)

-- nothing of all this
abbrev pub door_tells_nothing : DoorTold
door_tells_nothing = record { opened = None; given = None; returned = None }

-- it was opened at one address more
abbrev pub opened_at : DoorTold → Address → DoorTold
opened_at told address = record told { opened = told_with told.opened address }

-- it gave one link more
abbrev pub gave_link : DoorTold → SeenLink → DoorTold
gave_link told link = record told { given = told_with told.given link }

-- one link more was given back
abbrev pub took_back : DoorTold → SeenLink → DoorTold
took_back told link = record told { returned = told_with told.returned link }

-- ---- which hands are wanted, and whether those that were hired are these

-- so many, or one at each address
abbrev pub wanted : Want → ℕ
wanted (want.Local count) = count
wanted (want.Remote addresses) = length addresses

-- so many hands of this process where such are wanted, and else a hand for each address
abbrev pub AreWanted : {H F : Type 0} → Want → Hands H F → Type 0
AreWanted (want.Local count) (hands.Local near) = vec_len near ≡ count
AreWanted (want.Remote addresses) (hands.Remote far) = vec_len far ≡ length addresses
AreWanted _ _ = ⊥

-- the relation of orders and outcomes of the hands that are wanted: that of this process's hands, or that of those that
-- ask workers
abbrev pub gives_by : (near far : Order → Outcome → Type 0) → Want → Order → Outcome → Type 0
gives_by near far (want.Local count) = near
gives_by near far (want.Remote addresses) = far

-- ---- what a crew tells

-- for each of some hands, in their order, the orders that it was given, where it tells them; None where they aren't
-- told
abbrev pub GivenBack : Type 0
GivenBack = Option (List (Option (List Order)))

-- the wants that were answered with hands, in order; and the orders of the hands that were given back last
pub record CrewTold : Type 0 where
  pub hired : Option (List Want)
  pub back : GivenBack

-- nothing of this
abbrev pub crew_tells_nothing : CrewTold
crew_tells_nothing = record { hired = None; back = None }

-- one want more was answered with hands
abbrev pub hired_for : CrewTold → Want → CrewTold
hired_for told hands = record told { hired = told_with told.hired hands }

-- hands were given back, which had been given these orders
abbrev pub gave_back : CrewTold → List (Option (List Order)) → CrewTold
gave_back told orders = record told { back = option_map (λ before. orders) told.back }

-- the orders that each of these hands was given, in their order
abbrev pub did_by : {H F : Type 0} → (H → Option (List Order)) → (F → Option (List Order)) → Hands H F
    → List (Option (List Order))
did_by near_did far_did (hands.Local near) = map near_did near.items
did_by near_did far_did (hands.Remote far) = map far_did far.items

-- a hand was given no order yet, where it tells
abbrev pub IsFresh : Option (List Order) → Type 0
IsFresh None = Unit {0}
IsFresh (Some did) = did ≡ []

-- none of these hands was
abbrev pub AreFresh : {H F : Type 0} → (H → Option (List Order)) → (F → Option (List Order)) → Hands H F → Type 0
AreFresh near_did far_did hands = AllByRecursion IsFresh (did_by near_did far_did hands)

-- ---- which addresses are dialled

-- the addresses at which hands are wanted; none for hands of this process
abbrev pub addresses_wanted : Want → List Address
addresses_wanted (want.Local count) = []
addresses_wanted (want.Remote addresses) = addresses

-- the first few of these addresses were dialled, in order
pub record DialsSome (addresses : List Address) (before after : Option (List Address)) : Type 0 where
  pub count : ℕ
  pub few : count ≤ length addresses
  pub dialled : after ≡ told_with_all before (take count addresses)
