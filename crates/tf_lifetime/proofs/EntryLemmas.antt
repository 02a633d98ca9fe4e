-- What a book tells that has entries of one detail, and perhaps the detail, behind what it had.
use Rattle.std.proofs.Common.{◌≡◌, ℕ, List, [], ◌∷◌, ◌++◌, map, Bool, true, false, refl, ap, ◌∙◌}
use Rattle.std.specs.Prelude.{nat_eq, if◌then◌else◌}
use Rattle.std.proofs.lemmas.Bool.{eq-eqb}
use Rattle.tf_states.specs.declared.record.Entry.{Entry}
use Rattle.tf_details.specs.Elements.{Element, detail, entry, details, history}

-- entries bring no detail
pub details_stay : (number : ℕ) (entries : List Entry) (elements : List Element) → details (map (entry number) entries ++ elements) ≡ details elements
details_stay number [] elements = refl
details_stay number (e ∷ entries) elements = details_stay number entries elements

-- an entry of a detail, in its history
own : (number : ℕ) (e : Entry) (past : List Entry) → (if nat_eq number number then e ∷ past else past) ≡ e ∷ past
own number e past = ap (λ (b : Bool). if b then e ∷ past else past) (eq-eqb number number refl)

-- they stand in the history of their detail
pub history_on : (number : ℕ) (entries : List Entry) (elements : List Element) → history number (map (entry number) entries ++ elements) ≡ entries ++ history number elements
history_on number [] elements = refl
history_on number (e ∷ entries) elements =
    ap (λ (past : List Entry). if nat_eq number number then e ∷ past else past) (history_on number entries elements) ∙ own number e (entries ++ history number elements)

-- and in that of no other one
pub history_aside : (number other : ℕ) → nat_eq number other ≡ false → (entries : List Entry) (elements : List Element)
    → history other (map (entry number) entries ++ elements) ≡ history other elements
history_aside number other apart [] elements = refl
history_aside number other apart (e ∷ entries) elements =
    ap (λ (b : Bool). if b then e ∷ history other (map (entry number) entries ++ elements) else history other (map (entry number) entries ++ elements)) apart
    ∙ history_aside number other apart entries elements

-- the history over both parts of a book
pub history_both : (number : ℕ) (newer older : List Element) → history number (newer ++ older) ≡ history number newer ++ history number older
history_both number [] older = refl
history_both number (detail plan ∷ newer) older = history_both number newer older
history_both number (entry its e ∷ newer) older = by (nat_eq its number) (history_both number newer older)
  where
    by : (b : Bool) → history number (newer ++ older) ≡ history number newer ++ history number older
        → (if b then e ∷ history number (newer ++ older) else history number (newer ++ older)) ≡ (if b then e ∷ history number newer else history number newer) ++ history number older
    by true same = ap (λ (past : List Entry). e ∷ past) same
    by false same = same
