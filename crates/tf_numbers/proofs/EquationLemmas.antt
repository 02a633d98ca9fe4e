-- Equations.
use Rattle.std.proofs.Common.{◌≡◌, ap, ◌∙◌}

-- a function of two arguments gives the same of the same
pub ap2 : {X Y Z : Type 0} (f : X → Y → Z) {x x' : X} {y y' : Y} → x ≡ x' → y ≡ y' → f x y ≡ f x' y'
ap2 {X = X} f {x = x} {y' = y'} first second = ap (f x) second ∙ ap (λ (z : X). f z y') first
