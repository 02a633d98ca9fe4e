-- How a name lies in its field.
use Rattle.std.proofs.Common.{◌≡◌, ℕ, ◌-◌, ◌≤◌, List, [], ◌∷◌, length, true, arith}
use Rattle.std.proofs.Math.ListN.{replicate}
use Rattle.std.proofs.Math.Seq.{drop-append_seam, take-append_seam}
use Rattle.std.proofs.lemmas.Grind.{common_steps}
use Rattle.tf_values.specs.Text.{is_name, IsPadded, padded}

-- a name is short
pub length-is_name : (name : List ℕ) → is_name name ≡ true → length name ≤ 64
length-is_name [] is = cc
length-is_name (first ∷ others) is = grind (arith, common_steps)

-- a name with zeros after it lies in its field
pub is_padded : (name : List ℕ) → is_name name ≡ true → IsPadded (padded name) (length name)
is_padded name is =
    let short : length name ≤ 64 = length-is_name name is in
    record {
      whole = grind (arith, common_steps);
      short = short;
      named = rw (take-append_seam name (replicate (64 - length name) 0)) is;
      zeros = drop-append_seam name (replicate (64 - length name) 0);
    }
