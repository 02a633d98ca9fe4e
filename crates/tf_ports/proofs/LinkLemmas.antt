-- What a link in memory gives.
use Rattle.std.proofs.Common.{◌≡◌, ℕ, ◌+◌, List, ◌++◌, take, drop, sym, ap, ◌∙◌}
use Rattle.std.proofs.lemmas.List.{take-append-drop, drop-drop}

-- the bytes from a place on are those that stand first in a buffer, and those behind them
pub given_first : (bytes rest buffer : List ℕ) (place count : ℕ) → rest ≡ drop place bytes → take count buffer ≡ take count rest → drop place bytes ≡ take count buffer ++ drop (place + count) bytes
given_first bytes rest buffer place count is copied =
    sym (take-append-drop count (drop place bytes))
    ∙ ap (λ (first : List ℕ). first ++ drop count (drop place bytes)) (sym (copied ∙ ap (take count) is))
    ∙ ap (λ (behind : List ℕ). take count buffer ++ behind) (drop-drop count place bytes)
