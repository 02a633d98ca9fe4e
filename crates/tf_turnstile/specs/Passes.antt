-- A turnstile and its passes as contracts see them.
use Rattle.std.specs.Prelude.{◌≡◌, ℕ, ◌<◌, List, [], ◌++◌, length, Option, Some, None, slice_index_or}
use Rattle.std.specs.List.{All}
use Rattle.atomic_table.specs.Seated.{TableId}
use Rattle.tf_turnstile.specs.Numbered.{AreNumberedBelow, IsLater, IsLonger, own}

-- which turnstile it is, the value that it was made with, and for how many passes
pub record TurnstileValue (B : Type 0) : Type 0 where
  pub table : TableId
  pub start : B
  pub passes : ℕ

-- a pass: its turnstile's table and first value, its number, the entries after the first ones that it has seen, and the
-- value that it has taken
pub record PassValue (B E : Type 0) : Type 0 where
  pub table : TableId
  pub start : Option B
  pub number : ℕ
  pub seen : List (ℕ × E)
  pub taken : Option B

module _ {B E : Type 0} where
  -- the pass was made with this turnstile
  pub record IsPassOf (turnstile : TurnstileValue B) (pass : PassValue B E) : Type 0 where
    pub table : pass.table ≡ turnstile.table
    pub start : pass.start ≡ Some turnstile.start

  -- the pass of this number, with nothing taken
  pub record IsIdle (turnstile : TurnstileValue B) (number : ℕ) (pass : PassValue B E) : Type 0 where
    pub mine : IsPassOf turnstile pass
    pub number_is : pass.number ≡ number
    pub nothing : pass.taken ≡ None

  -- the pass of this number as it is made: nothing seen after the first entries, and nothing taken
  abbrev pub new_pass : TurnstileValue B → ℕ → PassValue B E
  new_pass turnstile number =
      record { table = turnstile.table; start = Some turnstile.start; number = number; seen = []; taken = None }

  -- as many passes as the turnstile was made for, in the order of their numbers, as they are made
  pub record AreNew (turnstile : TurnstileValue B) (passes : List (PassValue B E)) : Type 0 where
    pub count : length passes ≡ turnstile.passes
    pub each : (i : ℕ) (d : PassValue B E) → i < length passes → slice_index_or passes i d ≡ new_pass turnstile i

  -- all passes of the turnstile, in the order of their numbers, with nothing taken
  pub record AreAll (turnstile : TurnstileValue B) (passes : List (PassValue B E)) : Type 0 where
    pub count : length passes ≡ turnstile.passes
    pub each : (i : ℕ) (d : PassValue B E) → i < length passes → IsIdle turnstile i (slice_index_or passes i d)

module _ {B O E : Type 0} (origin : B → O) (entries : B → List (ℕ × E)) where
  -- the pass may give this value: it has what the value that was taken may never change, and that one's entries with
  -- the pass's own after them
  pub record MayGive (pass : PassValue B E) (kept : B) : Type 0 where
    pub taken : B
    pub has : pass.taken ≡ Some taken
    pub same : origin kept ≡ origin taken
    pub longer : IsLonger pass.number (entries taken) (entries kept)

module _ {B E : Type 0} (entries : B → List (ℕ × E)) where
  -- the value in the end: entries came after the first ones, each with the number of a pass; to each pass they are what
  -- it has seen with entries of others after it, and those of its number are its own, in its order
  pub record HasGrown (turnstile : TurnstileValue B) (passes : List (PassValue B E)) (kept : B) : Type 0 where
    pub added : List (ℕ × E)
    pub history : entries kept ≡ entries turnstile.start ++ added
    pub numbers : AreNumberedBelow turnstile.passes added
    pub seen : All (λ pass. IsLater pass.number pass.seen added) passes
    pub own : All (λ pass. own pass.number added ≡ own pass.number pass.seen) passes
