-- What the line of an entry says behind its numbers.
use Rattle.std.proofs.Common.{◌≡◌, ◌≤◌, ℕ, List, [], ◌∷◌, ◌++◌, length, drop, refl, ap, ◌∙◌, arith}
use Rattle.std.specs.Fmt.{decimal}
use Rattle.std.proofs.lemmas.Fmt.{decimal_digit}
use Rattle.tf_states.specs.declared.record.What.{What}
use Rattle.tf_model.specs.Plan.{Outline}
use Rattle.tf_report.specs.Lines.{line, what_text}
use Rattle.tf_audit.proofs.LineLemmas.{line_words}

-- the line of entry 1 by hand 0
one_line : (plan : Outline) (w : What) (prefix text : List ℕ) → prefix ≡ [] → text ≡ prefix ++ line plan 1 (record { hand = 0; what = w }) → text ≡ 49 ∷ 32 ∷ 48 ∷ 32 ∷ (what_text plan w ++ 10 ∷ [])
one_line plan w prefix text none is =
    is ∙ (ap (λ (f : List ℕ). f ++ line plan 1 (record { hand = 0; what = w })) none
    ∙ (line_words plan 1 (record { hand = 0; what = w }) (line plan 1 (record { hand = 0; what = w })) refl
    ∙ (ap (λ (d : List ℕ). d ++ 32 ∷ (decimal 0 ++ 32 ∷ (what_text plan w ++ 10 ∷ []))) (decimal_digit 1 (omega arith))
    ∙ ap (λ (d : List ℕ). 49 ∷ 32 ∷ (d ++ 32 ∷ (what_text plan w ++ 10 ∷ []))) (decimal_digit 0 (omega arith)))))

pub long_enough : (plan : Outline) (w : What) (prefix text : List ℕ) → prefix ≡ [] → text ≡ prefix ++ line plan 1 (record { hand = 0; what = w }) → 4 ≤ length text
long_enough plan w prefix text none is =
    let long : length text ≡ length (49 ∷ 32 ∷ 48 ∷ 32 ∷ (what_text plan w ++ 10 ∷ [])) = ap length (one_line plan w prefix text none is) in
    omega (arith, long)

pub event_behind : (plan : Outline) (w : What) (prefix text : List ℕ) → prefix ≡ [] → text ≡ prefix ++ line plan 1 (record { hand = 0; what = w }) → drop 4 text ≡ what_text plan w ++ 10 ∷ []
event_behind plan w prefix text none is = ap (drop 4) (one_line plan w prefix text none is)
