-- The orders that hands were given stand among those of a later history.
use Rattle.std.proofs.Common.{◌≡◌, ℕ, List, [], ◌∷◌, ◌++◌, Option, Some, None, sym, ap, ◌∙◌, append-nil, append_assoc}
use Rattle.tf_actions.specs.declared.orders.Order.{Order}
use Rattle.tf_states.specs.declared.record.Entry.{Entry}
use Rattle.tf_model.specs.Plan.{Outline}
use Rattle.tf_hands.specs.Hands.{asked_of, orders}
use Rattle.tf_commands.specs.Books.{WasGivenIfTold}
use Rattle.tf_lifetime.specs.Life.{AreFirstIfTold}

-- a later history asks for those of an earlier one first
orders_on : (plan : Outline) (hand : ℕ) (more past : List Entry) → (later : List Order) × (orders plan hand (more ++ past) ≡ orders plan hand past ++ later)
orders_on plan hand [] past = ([], sym (append-nil (orders plan hand past)))
orders_on plan hand (e ∷ more) past =
    let on = orders_on plan hand more past in
    let last = asked_of plan hand (more ++ past) e in
    (on.0 ++ last, ap (λ (asked : List Order). asked ++ last) on.1 ∙ append_assoc (orders plan hand past) on.0 last)

-- so do those that a hand was given
pub first_later : (whole : Type 0) (plan : Outline) (before past more : List Entry) (hand : ℕ) (did : Option (List Order)) → WasGivenIfTold whole plan before past hand did
    → AreFirstIfTold plan before (more ++ past) hand did
first_later whole plan before past more hand None given = tt
first_later whole plan before past more hand (Some did) given =
    let on = orders_on plan hand more past in
    let first = orders plan hand before in
    record {
      others = given.missing ++ on.0;
      are = on.1 ∙ ap (λ (asked : List Order). asked ++ on.0) given.since ∙ append_assoc first (did ++ given.missing) on.0 ∙ ap (λ (asked : List Order). first ++ asked) (append_assoc did given.missing on.0);
    }
