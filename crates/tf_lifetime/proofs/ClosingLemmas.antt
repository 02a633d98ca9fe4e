-- What a command on a board that ended with 0 said.
use Rattle.std.proofs.Common.{◌≡◌, ◌≢◌, ℕ, List, Option, [], sym, ◌∙◌, inl, inr, arith}
use Rattle.tf_desk.specs.Crash.{shown_with}
use Rattle.tf_board.specs.Board.{board_in, Holds}
use Rattle.tf_board.specs.Does.{HoldsEither}
use Rattle.tf_report.specs.Closing.{ClosesWithOrStops, said, cut}
use Rattle.tf_board.specs.declared.commands.Command.{Command}

-- a command that ends with another status doesn't end with 0
pub never_closes : {old new : Option (List ℕ)} {message : List ℕ} {wanted status : ℕ} → status ≡ 0 → wanted ≢ 0 → ClosesWithOrStops old message wanted new status → ⊥
never_closes is other (inl out) = let nine : 9 ≡ 0 = sym out.0 ∙ is in omega (arith, nine)
never_closes is other (inr (said shown)) = other is
never_closes is other (inr (cut shown)) = let seven : 7 ≡ 0 = is in omega (arith, seven)

-- one that ends with 0 said its message whole
pub said_whole : {old new : Option (List ℕ)} {message : List ℕ} {wanted status : ℕ} → status ≡ 0 → ClosesWithOrStops old message wanted new status → new ≡ shown_with old message
said_whole is (inl out) = let nine : 9 ≡ 0 = sym out.0 ∙ is in absurd (omega (arith, nine))
said_whole is (inr (said shown)) = shown
said_whole is (inr (cut shown)) = let seven : 7 ≡ 0 = is in absurd (omega (arith, seven))

pub either_one : (after : List Command) (file : List ℕ) → HoldsEither [] after (board_in file) → Holds after (board_in file)
either_one after file (inl held) = held
either_one after file (inr held) = held
