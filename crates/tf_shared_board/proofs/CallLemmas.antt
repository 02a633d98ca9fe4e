-- The calls that were made on a shared board.
use Rattle.std.proofs.Common.{◌≡◌, ◌+◌, List, [], ◌∷◌, ◌++◌, length, refl, arith}
use Rattle.tf_board.specs.declared.commands.Command.{Command}
use Rattle.tf_shared_board.specs.declared.calls.Made.{Made}
use Rattle.tf_shared_board.specs.Shared.{made_command, numbered, followed_by, AreAbout}
use Rattle.tf_board.specs.Does.{job_of}

-- one call more
pub followed_more : (past : List Command) (made : List Made) (m : Made) → followed_by past (made ++ m ∷ []) ≡ made_command m ∷ followed_by past made
followed_more past [] m = refl
followed_more past (n ∷ made) m = followed_more (made_command n ∷ past) made m

pub about_more : (past : List Command) (made : List Made) (m : Made) → AreAbout past made → m.job ≡ job_of (followed_by past made) m.call → AreAbout past (made ++ m ∷ [])
about_more past [] m about is = (is, tt)
about_more past (n ∷ made) m about is = (about.0, about_more (made_command n ∷ past) made m about.1 is)

-- how many commands there are
pub length-followed : (past : List Command) (made : List Made) → length (followed_by past made) ≡ length past + length made
length-followed past [] = omega arith
length-followed past (m ∷ made) = omega (arith, length-followed (made_command m ∷ past) made)

pub length-numbered : (made : List Made) → length (numbered made) ≡ length made
length-numbered [] = refl
length-numbered (m ∷ made) = omega (arith, length-numbered made)
