-- What a crash may leave inside a write that is synced, and inside one whose gate is opened after it.
use Rattle.std.specs.Prelude.{◌≡◌, ◌⊎◌, ℕ, ◌+◌, List, length, Option, Some}
use Rattle.tf_desk.specs.Crash.{written, Torn}

-- the bytes torn in a range; the shown text stays
abbrev pub LeavesTornAt : List ℕ → ℕ → ℕ → Option (List ℕ) → List ℕ → List ℕ → Type 0
LeavesTornAt old at n shown image text = Torn at n old image × (shown ≡ Some text)

-- the bytes torn behind the gate, or torn at the gate where these stand behind it; the shown text stays
abbrev pub LeavesGated : List ℕ → ℕ → List ℕ → Option (List ℕ) → List ℕ → List ℕ → Type 0
LeavesGated old gate bytes shown image text =
    (Torn (gate + 1) (length bytes) old image ⊎ Torn gate 1 (written old (gate + 1) bytes) image) × (shown ≡ Some text)
