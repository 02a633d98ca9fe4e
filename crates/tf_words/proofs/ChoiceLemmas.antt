-- The words behind those that choose a command.
use Rattle.std.proofs.Common.{◌≡◌, ℕ, List, ◌∷◌, true, sym, ap, ◌∙◌}
use Rattle.tf_numbers.proofs.TruthLemmas.{and_second}
use Rattle.tf_words.specs.Verbs.{is_filled, are_filled}

-- the words behind the first are filled where all are
pub filled_behind : (words others : List (List ℕ)) (first : List ℕ) → words ≡ first ∷ others → are_filled words ≡ true → are_filled others ≡ true
filled_behind words others first is filled = and_second (is_filled first) (are_filled others) (sym (ap are_filled is) ∙ filled)
