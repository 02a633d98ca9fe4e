-- What one turn adds to a tally.
use Rattle.std.proofs.Common.{◌≡◌, ℕ, ◌++◌, ◌==◌, Bool, true, List, [], ◌∷◌, Ok, Err, Result, is_ok, OnOk, OnErr, refl, sym, ap, subst, ◌∙◌, append_assoc}
use Rattle.std.proofs.lemmas.Bool.{eq-eqb}
use Rattle.std.proofs.lemmas.List.{append_cancel_left}
use Rattle.std.proofs.lemmas.List.Elements.{filter-append}
use Rattle.std.specs.Prelude.{MatchBool}
use Rattle.tf_turnstile.specs.Numbered.{own}
use Rattle.tf_turnstile.specs.Tally.{TallyValue}

-- an entry of the number is the last of its own
pub own-more : (number amount : ℕ) (seen : List (ℕ × ℕ)) → own number (seen ++ (number, amount) ∷ []) ≡ own number seen ++ (number, amount) ∷ []
own-more number amount seen =
    let entry : ℕ × ℕ = (number, amount) in
    let test : (number == number) ≡ true = eq-eqb number number refl in
    let one : own number (entry ∷ []) ≡ entry ∷ [] = rw test refl in
    filter-append (λ (e : ℕ × ℕ). e.0 == number) seen (entry ∷ []) ∙ ap (λ l. own number seen ++ l) one

pub own_turn : {X Y : Type 0} (r : Result X Y) (b : Bool) (start seen now old : List (ℕ × ℕ)) (t u : TallyValue) (number amount : ℕ) → b ≡ is_ok r
    → t.amounts ≡ start ++ seen → own number seen ≡ own number old → u.amounts ≡ start ++ now
    → OnOk r (u ≡ record t { amounts = t.amounts ++ (number, amount) ∷ [] }) → OnErr r (u ≡ t)
    → MatchBool b (own number now ≡ own number old ++ (number, amount) ∷ []) (own number now ≡ own number old)
own_turn (Ok x) b start seen now old t u number amount is before mine after added same =
    let entry : ℕ × ℕ = (number, amount) in
    let all : start ++ now ≡ start ++ (seen ++ entry ∷ []) = sym after ∙ (ap (λ (v : TallyValue). v.amounts) added ∙ (ap (λ l. l ++ entry ∷ []) before ∙ append_assoc start seen (entry ∷ []))) in
    let now_is : now ≡ seen ++ entry ∷ [] = append_cancel_left start now (seen ++ entry ∷ []) all in
    let P : Bool → Type 0 = λ c. MatchBool c (own number now ≡ own number old ++ entry ∷ []) (own number now ≡ own number old) in
    subst P (sym is) (ap (own number) now_is ∙ (own-more number amount seen ∙ ap (λ l. l ++ entry ∷ []) mine))
own_turn (Err y) b start seen now old t u number amount is before mine after added same =
    let all : start ++ now ≡ start ++ seen = sym after ∙ (ap (λ (v : TallyValue). v.amounts) same ∙ before) in
    let now_is : now ≡ seen = append_cancel_left start now seen all in
    let P : Bool → Type 0 = λ c. MatchBool c (own number now ≡ own number old ++ (number, amount) ∷ []) (own number now ≡ own number old) in
    subst P (sym is) (ap (own number) now_is ∙ mine)
