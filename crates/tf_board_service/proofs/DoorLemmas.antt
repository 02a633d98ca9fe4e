-- The links that a door gives, and those that are given back to it.
use Rattle.std.proofs.Common.{◌≡◌, ◌≤◌, ℕ, List, [], ◌∷◌, ◌++◌, length, Option, Some, None, Result, Ok, Err, refl, sym, ap, ◌∙◌, arith, append_assoc, append-nil, length-append}
use Rattle.std.specs.Prelude.{OnOk}
use Rattle.tf_actions.specs.Gives.{told_with}
use Rattle.tf_ports.specs.Ports.{DoorTold, SeenLink, gave_link, told_with_all, took_back}
use Rattle.tf_values.specs.declared.faults.Memory.{Memory}
use Rattle.tf_board_service.specs.Sessions.{GivesBack, GivesInVain, gave_links, took_links}

-- ---- lists that are told

told_nothing : {X : Type 0} (told : Option (List X)) → told ≡ told_with_all told []
told_nothing None = refl
told_nothing (Some had) = ap Some (sym (append-nil had))

told_on : {X : Type 0} (told : Option (List X)) (xs : List X) (x : X) → told_with (told_with_all told xs) x ≡ told_with_all told (xs ++ x ∷ [])
told_on None xs x = refl
told_on (Some had) xs x = ap Some (append_assoc had xs (x ∷ []))

-- ---- links that are given back

-- none so far
pub back_none : (door : DoorTold) → GivesBack [] door door (Ok tt)
back_none door = record { back = []; now = ap (λ (r : Option (List SeenLink)). record door { returned = r }) (told_nothing door.returned); few = omega arith; all = refl }

-- one more
pub back_more : (links : List SeenLink) (link : SeenLink) (old mid new : DoorTold) (whole : Result (Unit {0}) Memory) → GivesBack links old mid whole → new ≡ took_back mid link
    → GivesBack (links ++ link ∷ []) old new whole
back_more links link old mid new whole g is = record {
  back = g.back ++ link ∷ [];
  now = is ∙ ap (λ (d : DoorTold). took_back d link) g.now ∙ ap (λ (r : Option (List SeenLink)). record old { returned = r }) (told_on old.returned g.back link);
  few = omega (arith, g.few, length-append g.back (link ∷ []), length-append links (link ∷ []));
  all = on_ok whole g.all;
}
  where
    on_ok : (r : Result (Unit {0}) Memory) → OnOk r (g.back ≡ links) → OnOk r (g.back ++ link ∷ [] ≡ links ++ link ∷ [])
    on_ok (Ok x) had = ap (λ (l : List SeenLink). l ++ link ∷ []) had
    on_ok (Err e) had = tt

-- memory ran out for one more
pub back_lost : (links : List SeenLink) (link : SeenLink) (old mid new : DoorTold) (whole : Result (Unit {0}) Memory) (fault : Memory) → GivesBack links old mid whole → new ≡ mid
    → GivesBack (links ++ link ∷ []) old new (Err fault)
back_lost links link old mid new whole fault g is = record {
  back = g.back;
  now = is ∙ g.now;
  few = omega (arith, g.few, length-append links (link ∷ []));
  all = tt;
}

-- ---- links that the door gives

-- none so far
pub gave_none : (door : DoorTold) → door ≡ gave_links door []
gave_none door = ap (λ (r : Option (List SeenLink)). record door { given = r }) (told_nothing door.given)

-- one more
pub gave_more : (links : List SeenLink) (link : SeenLink) (old mid new : DoorTold) → mid ≡ gave_links old links → new ≡ gave_link mid link → new ≡ gave_links old (links ++ link ∷ [])
gave_more links link old mid new had is =
    is ∙ ap (λ (d : DoorTold). gave_link d link) had ∙ ap (λ (r : Option (List SeenLink)). record old { given = r }) (told_on old.given links link)

-- no link came
pub vain_none : (count : ℕ) (whole : Type 0) (door : DoorTold) → GivesInVain count door door whole
vain_none count whole door = record {
  given = [];
  back = [];
  few = omega arith;
  some = omega arith;
  all = λ is. refl;
  now = gave_none door ∙ ap (λ (r : Option (List SeenLink)). record (gave_links door []) { returned = r }) (told_nothing door.returned);
}

-- some came, and were given back
pub vain_back : (count : ℕ) (links : List SeenLink) (old mid new : DoorTold) (r : Result (Unit {0}) Memory) (whole : Type 0) → length links ≤ count → mid ≡ gave_links old links
    → GivesBack links mid new r → (whole → (back : List SeenLink) → OnOk r (back ≡ links) → back ≡ links) → GivesInVain count old new whole
vain_back count links old mid new r whole few gave g all = record {
  given = links;
  back = g.back;
  few = few;
  some = g.few;
  all = λ is. all is g.back g.all;
  now = g.now ∙ ap (λ (d : DoorTold). took_links d g.back) gave;
}

-- all of them were given back
pub vain_all : (count : ℕ) (old new : DoorTold) (whole : Type 0) → GivesInVain count old new whole → whole → GivesInVain count old new (Unit {0})
vain_all count old new whole v is = record { given = v.given; back = v.back; few = v.few; some = v.some; all = λ any. v.all is; now = v.now }

-- or some
pub vain_some : (count : ℕ) (old new : DoorTold) (whole : Type 0) → GivesInVain count old new whole → GivesInVain count old new ⊥
vain_some count old new whole v = record { given = v.given; back = v.back; few = v.few; some = v.some; all = λ none. absurd none; now = v.now }
