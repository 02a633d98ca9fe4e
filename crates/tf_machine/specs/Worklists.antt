-- Where the next entry is looked for: sets of atoms past which nothing is to be found.
use Rattle.std.specs.Prelude.{◌≡◌, ℕ, ◌<◌, ◌≤◌, ◌⊎◌, List, Bool, true, false, length, nat_eq, Option, Some, None}
use Rattle.tf_links.specs.Bits.{has, words_for}
use Rattle.tf_states.specs.declared.record.Entry.{Entry}
use Rattle.tf_states.specs.declared.record.What.{What}
use Rattle.tf_model.specs.Plan.{Outline, count, holds, own_flow}
use Rattle.tf_model.specs.History.{Resolve, Snapshot}
use Rattle.tf_model.specs.Readiness.{can_run, can_revert, refused}
use Rattle.tf_model.specs.Forced.{is_unhurt, holds_with, is_candidate}
use Rattle.tf_machine.specs.Cases.{applies, is_asked_again}
use Rattle.tf_machine.specs.declared.cases.Case.{Case}
use Rattle.tf_machine.specs.declared.counters.Counters.{Counters}
use Rattle.tf_machine.specs.declared.worklists.Worklist.{Worklist}
use Rattle.tf_machine.specs.declared.worklists.Extent.{Extent}
use Rattle.tf_machine.specs.declared.worklists.Extent.TheVariants as extent
use Rattle.tf_machine.specs.declared.worklists.Reach.{Reach}
use Rattle.tf_machine.specs.declared.worklists.Reach.TheVariants as reach

-- where an atom isn't in the first set, no case applies to it, while it can run nothing ever refuses it, and it isn't
-- asked to run its flow again; where it isn't in the second, it is no candidate; where it isn't in the third, it isn't
-- in flight
pub record ListedAt (plan : Outline) (s : Snapshot) (list : Worklist) (a : ℕ) : Type 0 where
  pub cases : has list.forcing a ≡ false → (k : Case) → applies plan s k a ≡ false
  pub never : has list.forcing a ≡ false → can_run plan s a ≡ true → (t : Snapshot) → refused plan t a ≡ None
  pub again : has list.forcing a ≡ false → is_asked_again plan s a ≡ false
  pub ready : has list.ready a ≡ false → is_candidate plan s a ≡ false
  pub busy : has list.busy a ≡ false → s.hand a ≡ None

-- the sets have room for every atom
pub record HasRoom (plan : Outline) (list : Worklist) : Type 0 where
  pub forcing : length list.forcing ≡ words_for (count plan)
  pub ready : length list.ready ≡ words_for (count plan)
  pub busy : length list.busy ≡ words_for (count plan)

-- every atom is listed as it is at this moment, and no atom is REVERT_FAILURE unless one may be
pub record IsListed (plan : Outline) (s : Snapshot) (list : Worklist) : Type 0 where
  pub room : HasRoom plan list
  pub each : (a : ℕ) → a < count plan → ListedAt plan s list a
  pub unhurt : list.hurt ≡ false → is_unhurt plan s ≡ true

-- two worklists have the atom alike
pub record SameAt (old new : Worklist) (a : ℕ) : Type 0 where
  pub forcing : has new.forcing a ≡ has old.forcing a
  pub ready : has new.ready a ≡ has old.ready a
  pub busy : has new.busy a ≡ has old.busy a

-- two moments agree on an atom's state, mark and hand
pub record AgreesOnAtom (s t : Snapshot) (a : ℕ) : Type 0 where
  pub state : t.state a ≡ s.state a
  pub mark : t.mark a ≡ s.mark a
  pub hand : t.hand a ≡ s.hand a

-- two moments agree on the states of all atoms but one, and on the marks and the hands of those of them that a flow, if
-- one is named, doesn't hold
pub record IsMovedAt (plan : Outline) (a : ℕ) (flow : Option ℕ) (s t : Snapshot) : Type 0 where
  pub states : (b : ℕ) → nat_eq a b ≡ false → t.state b ≡ s.state b
  pub others : (b : ℕ) → nat_eq a b ≡ false → holds_with plan flow b ≡ false → AgreesOnAtom s t b

-- two moments agree on all that an entry of this extent doesn't change
abbrev pub AreMoved : Outline → Snapshot → Extent → Snapshot → Type 0
AreMoved plan s extent.All t = Unit {0}
AreMoved plan s (extent.Around a) t = IsMovedAt plan a None s t
AreMoved plan s (extent.Flow g) t = IsMovedAt plan (count plan) (Some g) s t
AreMoved plan s (extent.Begin a) t = IsMovedAt plan a (own_flow plan a) s t

-- each mark is one of a flow that holds the atom
abbrev pub AreMarksHeld : Outline → Snapshot → Type 0
AreMarksHeld plan s = (a : ℕ) (m : Resolve) → s.mark a ≡ Some m → holds plan m.flow a ≡ true

-- from one worklist to another each atom stays as it is or is listed as it is at this moment, and each that a flow
-- holds, if one is named, is so
pub record IsListedWithin (plan : Outline) (s : Snapshot) (flow : Option ℕ) (old new : Worklist) : Type 0 where
  pub room : HasRoom plan new
  pub hurt : new.hurt ≡ old.hurt
  pub moved : (a : ℕ) → SameAt old new a ⊎ ListedAt plan s new a
  pub listed : (a : ℕ) → holds_with plan flow a ≡ true → ListedAt plan s new a

-- what may become of an atom after another one's state changed: it can run, since that one is done with; or it can
-- revert, since that one is settled
abbrev pub is_reached : Outline → Snapshot → Reach → ℕ → Bool
is_reached plan s reach.Run a = can_run plan s a
is_reached plan s reach.Revert a = can_revert plan s a

-- the counters that are zero where it does
abbrev pub counts_in : Reach → Counters → List ℕ
counts_in reach.Run counters = counters.waiting.items
counts_in reach.Revert counters = counters.holding.items

-- from one worklist to another each atom stays as it is or is listed as it is at this moment, and of those from one on
-- and before another each that is reached is so
pub record AreRelisted (plan : Outline) (s : Snapshot) (how : Reach) (first past : ℕ)
    (old new : Worklist) : Type 0 where
  pub room : HasRoom plan new
  pub hurt : new.hurt ≡ old.hurt
  pub moved : (a : ℕ) → SameAt old new a ⊎ ListedAt plan s new a
  pub reached : (a : ℕ) → first ≤ a → a < past → is_reached plan s how a ≡ true → ListedAt plan s new a

-- a hand recorded it
abbrev pub event : ℕ → What → Entry
event hand what = record { hand = hand; what = what }
