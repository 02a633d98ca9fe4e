-- The rule of the table below a turnstile: three words (turn, count, bell), one slot, and what each seat knows.
use Rattle.std.specs.Prelude.{◌≡◌, ◌≢◌, ℕ, ◌+◌, ◌≤◌, true, false, List, [], ◌∷◌, ◌++◌, length, slice_index, Option, Some, None}
use mathlib.Core.Option.{some}
use lib.ListN.{get_elem?}
use Rattle.atomic_table.specs.Table.{State}
use Rattle.tf_turnstile.specs.declared.rule.View.{View}
use Rattle.tf_turnstile.specs.declared.rule.Opening.{Opening}
use Rattle.tf_turnstile.specs.Numbered.{AreNumberedBelow, IsLater}

-- what the first seat knows: it is the last one in number, and makes the others
abbrev pub first_view : {B E : Type 0} → B → View B E
first_view start =
    record { marker = record {}; start = Some start; number = 0; seen = []; taken = None; is_last = true; back = [] }

-- what a seat knows that was given back
abbrev pub spent_view : {B E : Type 0} → View B E
spent_view =
    record { marker = record {}; start = None; number = 0; seen = []; taken = None; is_last = false; back = [] }

-- a seat becomes a pass, and the new seat the last one, with the next number
abbrev pub left_view : {B E : Type 0} → View B E → View B E
left_view v = record v { is_last = false }

abbrev pub right_view : {B E : Type 0} → View B E → View B E
right_view v = record v { number = v.number + 1 }

-- the last seat takes another one back, and keeps what that one has seen
abbrev pub back_view : {B E : Type 0} → View B E → View B E → View B E
back_view v w = record v { back = v.back ++ w.seen ∷ [] }

module _ {B E : Type 0} where
  -- each seat that was given back is spent, and after what it had seen there came nothing of its number
  abbrev pub AreBack : List (ℕ × E) → List (View B E) → List (List (ℕ × E)) → Type 0
  AreBack added views back = (i : ℕ) (seen : List (ℕ × E)) → get_elem? back i ≡ some seen
      → IsLater i seen added × ((v : View B E) → get_elem? views i ≡ some v → v.start ≡ None)

  -- what the seat i knows is true: of the value now, the entries added so far, the turn word and the seat that has the
  -- value
  pub record Fits (start now : B) (added : List (ℕ × E)) (turn by : ℕ) (views : List (View B E)) (i : ℕ)
      (v : View B E) : Type 0 where
    pub taken : (b : B) → v.taken ≡ Some b → (b ≡ now) × (i ≡ by) × (turn ≢ 0)
    pub live : (b : B) → v.start ≡ Some b → (b ≡ start) × (v.number ≡ i) × IsLater i v.seen added
    pub spent : v.start ≡ None → (v.taken ≡ None) × (v.is_last ≡ false)
    pub last : v.is_last ≡ true → (length views ≡ i + 1) × AreBack added views v.back
    pub ends : length views ≡ i + 1 → v.is_last ≡ true

module _ {B O E : Type 0} (origin : B → O) (first : B → ℕ) (entries : B → List (ℕ × E)) where
  -- what holds between any two steps
  pub record HoldsBetweenSteps (opening : Opening B) (s : State (Option B) (View B E)) : Type 0 where
    pub now : B
    pub added : List (ℕ × E)
    pub by : ℕ
    pub same : origin now ≡ origin opening.kept.value
    pub history : entries now ≡ entries opening.kept.value ++ added
    pub numbers : AreNumberedBelow (length s.views) added
    pub passes : length s.views ≤ opening.passes
    pub words : length s.words ≡ 3
    pub count : slice_index s.words 1 ≡ first now + length (entries now)
    pub home : slice_index s.words 0 ≡ 0 → get_elem? s.homes 0 ≡ some (some (Some now))
    pub out : slice_index s.words 0 ≢ 0 → (v : View B E) × (get_elem? s.views by ≡ some v) × (v.taken ≡ Some now)
    pub fits : (i : ℕ) (v : View B E) → get_elem? s.views i ≡ some v
        → Fits opening.kept.value now added (slice_index s.words 0) by s.views i v
