-- What each kind of step tells the seat that makes it.
use Rattle.std.specs.Prelude.{◌≡◌, ◌≢◌, ℕ, ◌+◌, List, [], ◌∷◌, ◌++◌, length, Option, Some, None}
use Rattle.atomic_table.specs.Table.{Me, Step}
use Rattle.tf_turnstile.specs.declared.rule.View.{View}
use Rattle.tf_turnstile.specs.Numbered.{IsLater}

module _ {B E : Type 0} where
  -- the exchange out: where the turn word was 0 the seat has the slot, with the value in it; otherwise nothing changed
  abbrev pub takes_out : Step (Option B) → Me (Option B) (View B E) → ℕ → Me (Option B) (View B E) → Type 0
  takes_out s m found n =
      (found ≡ 0 → (b : B) × (n ≡ (record m.0 { taken = Some b }, (0, Some b) ∷ []))) × (found ≢ 0 → n ≡ m)

  -- a load without the value in hand, or a step on the bell: nothing is learned
  abbrev pub tells_nothing : Step (Option B) → Me (Option B) (View B E) → ℕ → Me (Option B) (View B E) → Type 0
  tells_nothing s m found n = n ≡ m

  -- the exchange home: the seat has nothing
  abbrev pub puts_home : Step (Option B) → Me (Option B) (View B E) → ℕ → Me (Option B) (View B E) → Type 0
  puts_home s m stored n = n ≡ (record m.0 { taken = None }, [])

module _ {B O E : Type 0} (origin : B → O) (first : B → ℕ) (entries : B → List (ℕ × E)) where
  -- what a load with the value b in hand tells, where the first value was a
  pub record Sees (a b : B) (m : Me (Option B) (View B E)) (found : ℕ) (n : Me (Option B) (View B E)) : Type 0 where
    pub seen : List (ℕ × E)
    pub same : origin b ≡ origin a
    pub history : entries b ≡ entries a ++ seen
    pub later : IsLater m.0.number m.0.seen seen
    pub count : found ≡ first b + length (entries b)
    pub after : n ≡ (record m.0 { seen = seen }, m.1)

  -- the load with the value in hand: the seat has seen the value's history
  abbrev pub looks : Step (Option B) → Me (Option B) (View B E) → ℕ → Me (Option B) (View B E) → Type 0
  looks s m found n = (a b : B) → m.0.start ≡ Some a → m.0.taken ≡ Some b → Sees a b m found n

  -- the count: the seat has seen the history of the value that it has put into the slot
  abbrev pub counts : Step (Option B) → Me (Option B) (View B E) → ℕ → Me (Option B) (View B E) → Type 0
  counts s m stored n = (a kept : B) → m.0.start ≡ Some a → m.1 ≡ (0, Some kept) ∷ []
      → (seen : List (ℕ × E)) × (entries kept ≡ entries a ++ seen)
      × (n ≡ (record m.0 { seen = seen; taken = Some kept }, m.1))
