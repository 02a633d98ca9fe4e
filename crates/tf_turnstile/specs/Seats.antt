-- What a pass keeps true of the value that it has taken.
use Rattle.std.specs.Prelude.{◌≡◌, ℕ, List, [], ◌∷◌, ◌++◌, Option, Some, None}
use Rattle.atomic_table.specs.Seated.{TableId}
use Rattle.atomic_table.specs.Table.{Me}
use Rattle.atomic_table.specs.declared.shared.Seat.{Seat}
use Rattle.tf_turnstile.specs.declared.rule.View.{View}
use Rattle.tf_turnstile.specs.Passes.{PassValue}

-- the pass that has this seat
abbrev pub pass_of : {B E : Type 0} → Seat (Option B) (View B E) → PassValue B E
pass_of seat =
    record {
      table = seat.table_id;
      start = seat.me.0.start;
      number = seat.me.0.number;
      seen = seat.me.0.seen;
      taken =
          seat.me.0.taken;
    }

-- a turnstile's table has three words and one slot
abbrev pub IsSized : TableId → Type 0
IsSized table = (table.words ≡ 3) × (table.slots ≡ 1)

-- the same seat of the same table, whatever it knows
abbrev pub IsSameSeat : {B E : Type 0} → Seat (Option B) (View B E) → Seat (Option B) (View B E) → Type 0
IsSameSeat seat after = (after.table_id ≡ seat.table_id) × (after.id ≡ seat.id)

-- a seat took the slot, with a value in it
abbrev pub TakesSlot : {B E : Type 0} → Me (Option B) (View B E) → Me (Option B) (View B E) → Type 0
TakesSlot {B} m n = (b : B) × (n ≡ (record m.0 { taken = Some b }, (0, Some b) ∷ []))

-- the seat of a pass that was not given back, with nothing taken
pub record IsFree {B E : Type 0} (seat : Seat (Option B) (View B E)) : Type 0 where
  pub start : B
  pub live : seat.me.0.start ≡ Some start
  pub nothing : seat.me.0.taken ≡ None
  pub no_slot : seat.me.1 ≡ []

-- a pass of this number that was not given back, with nothing taken
pub record IsOut {B E : Type 0} (table : TableId) (number : ℕ) (pass : PassValue B E) : Type 0 where
  pub start : B
  pub at : pass.table ≡ table
  pub live : pass.start ≡ Some start
  pub number_is : pass.number ≡ number
  pub nothing : pass.taken ≡ None

-- the slots that a seat holds: the one, emptied, while its value is out
abbrev pub emptied : {B : Type 0} → Option B → List (ℕ × Option B)
emptied None = []
emptied (Some b) = (0, None) ∷ []

module _ {B O E : Type 0} (origin : B → O) (entries : B → List (ℕ × E)) where
  -- a value that was taken has what the first value may never change, and the first entries with those that were seen
  -- after them; no other seat was given back
  pub record IsPassSeat (v : View B E) (slots : List (ℕ × Option B)) : Type 0 where
    pub none_back : v.back ≡ []
    pub slots_are : slots ≡ emptied v.taken
    pub taken_is : (a b : B) → v.start ≡ Some a → v.taken ≡ Some b → (origin b ≡ origin a)
        × (entries b ≡ entries a ++ v.seen)
