-- How a reading of records goes on.
use Rattle.std.proofs.Common.{◌≡◌, ◌≢◌, ℕ, zero, suc, ◌+◌, ◌-◌, ◌≤◌, ◌<◌, List, [], ◌∷◌, ◌++◌, length, get_or, take, Option, refl, sym, ◌∙◌, ap, subst, arith, append_assoc, length-append, length-take}
use Rattle.std.proofs.lemmas.List.{append-nil}
use Rattle.std.specs.List.{flat_map}
use Rattle.tf_journal.specs.Format.{OPEN, title_of, length_bytes, record_of, prefix_of, Found, closed, bad, record_at, Recovered, bodies, not_a_book, with_body, then_from, records_from, IsBody, AreBodies, LiesAs}
use Rattle.tf_journal.proofs.FoundLemmas.{found_some}
use Rattle.tf_journal.specs.declared.title.Title.{Title}
use Rattle.tf_journal.specs.Reach.{HasRecord, with_bodies, Reaches}

pub flat_map-push : (held : List (List ℕ)) (new : List ℕ) → flat_map record_of (held ++ new ∷ []) ≡ flat_map record_of held ++ record_of new
flat_map-push [] new = append-nil (record_of new)
flat_map-push (first ∷ held) new = ap (λ (l : List ℕ). record_of first ++ l) (flat_map-push held new) ∙ sym (append_assoc (record_of first) (flat_map record_of held) (record_of new))

pub length-record_of : (b : List ℕ) → length (record_of b) ≡ 5 + length b
length-record_of b = omega (arith, length-append (length_bytes (length b)) b)

-- each record takes bytes
pub records_long : (held : List (List ℕ)) → length held ≤ length (flat_map record_of held)
records_long [] = omega arith
records_long (first ∷ held) = omega (arith, records_long held, length-append (record_of first) (flat_map record_of held), length-record_of first)

pub with_bodies-push : (held : List (List ℕ)) (new : List ℕ) (others : Recovered) → with_bodies (held ++ new ∷ []) others ≡ with_bodies held (with_body new others)
with_bodies-push [] new others = refl
with_bodies-push (first ∷ held) new others = ap (with_body first) (with_bodies-push held new others)

pub with_bodies-none : (held : List (List ℕ)) → with_bodies held (bodies []) ≡ bodies held
with_bodies-none [] = refl
with_bodies-none (first ∷ held) = ap (with_body first) (with_bodies-none held)

pub with_bodies-bad : (held : List (List ℕ)) (offset : ℕ) (byte : Option ℕ) → with_bodies held (not_a_book offset byte) ≡ not_a_book offset byte
with_bodies-bad [] offset byte = refl
with_bodies-bad (first ∷ held) offset byte = ap (with_body first) (with_bodies-bad held offset byte)

pub bodies_push : (title : Title) (held : List (List ℕ)) (new : List ℕ) → AreBodies title held → IsBody title new → AreBodies title (held ++ new ∷ [])
bodies_push title [] new are is = (is, tt)
bodies_push title (first ∷ held) new are is = (are.0, bodies_push title held new are.1 is)

-- at the first place nothing is read yet
pub reach_start : (title : Title) (bytes : List ℕ) → 18 ≤ length bytes → Reaches title bytes [] 17
reach_start title bytes whole = record {
  prefix = sym (append-nil (take 17 bytes));
  start = omega arith;
  within = omega (arith, whole);
  limit = omega arith;
  fit = tt;
  left = (length bytes, omega arith, refl);
}

-- fewer bodies were read than the file has bytes
fewer : (title : Title) (bytes : List ℕ) (held : List (List ℕ)) (place : ℕ) → Reaches title bytes held place → length held < length bytes
fewer title bytes held place r =
    omega (arith, ap length r.prefix, length-append (take 17 bytes) (flat_map record_of held), length-take place bytes, length-take 17 bytes, records_long held, r.start, r.within)

-- there is one more step to go, at least
steps_on : (title : Title) (bytes : List ℕ) (place most : ℕ) → 0 < most → records_from title most bytes place ≡ then_from (record_at title bytes place) (records_from title (most - 1) bytes)
steps_on title bytes place zero some = absurd (omega (arith, some))
steps_on title bytes place (suc most) some = let same : suc most - 1 ≡ most = omega arith in ap (λ (m : ℕ). then_from (record_at title bytes place) (records_from title m bytes)) (sym same)

pub reach_on : (title : Title) (bytes : List ℕ) (held : List (List ℕ)) (place : ℕ) (new : List ℕ) → Reaches title bytes held place → HasRecord title bytes place new → Reaches title bytes (held ++ new ∷ []) (place + 5 + length new)
reach_on title bytes held place new r has =
    let few = fewer title bytes held place r in
    let most = r.left.0 in
    let some : 0 < most = omega (arith, few, r.left.1) in
    record {
      prefix = has.prefix ∙ ap (λ (l : List ℕ). l ++ record_of new) r.prefix ∙ append_assoc (take 17 bytes) (flat_map record_of held) (record_of new) ∙ ap (λ (l : List ℕ). take 17 bytes ++ l) (sym (flat_map-push held new));
      start = omega (arith, r.start);
      within = omega (arith, has.within);
      limit = omega (arith, has.limit);
      fit = bodies_push title held new r.fit has.is_body;
      left = (
        most - 1,
        omega (arith, some, r.left.1, length-append held (new ∷ [])),
        r.left.2 ∙ ap (with_bodies held) (steps_on title bytes place most some ∙ ap (λ (f : Found). then_from f (records_from title (most - 1) bytes)) has.found) ∙ sym (with_bodies-push held new (records_from title (most - 1) bytes (place + 5 + length new))),
      );
    }

-- a gate that isn't open ends the bodies
pub reach_closed : (title : Title) (bytes : List ℕ) (held : List (List ℕ)) (place : ℕ) → Reaches title bytes held place → record_at title bytes place ≡ closed → records_from title (length bytes) bytes 17 ≡ bodies held
reach_closed title bytes held place r is =
    let few = fewer title bytes held place r in
    let some : 0 < r.left.0 = omega (arith, few, r.left.1) in
    r.left.2 ∙ ap (with_bodies held) (steps_on title bytes place r.left.0 some ∙ ap (λ (f : Found). then_from f (records_from title (r.left.0 - 1) bytes)) is) ∙ with_bodies-none held

-- what is no record is told of the whole
pub reach_bad : (title : Title) (bytes : List ℕ) (held : List (List ℕ)) (place offset : ℕ) (byte : Option ℕ) → Reaches title bytes held place → record_at title bytes place ≡ bad offset byte → records_from title (length bytes) bytes 17 ≡ not_a_book offset byte
reach_bad title bytes held place offset byte r is =
    let few = fewer title bytes held place r in
    let some : 0 < r.left.0 = omega (arith, few, r.left.1) in
    r.left.2 ∙ ap (with_bodies held) (steps_on title bytes place r.left.0 some ∙ ap (λ (f : Found). then_from f (records_from title (r.left.0 - 1) bytes)) is) ∙ with_bodies-bad held offset byte

shut_gate : (title : Title) (bytes : List ℕ) (place : ℕ) → place < length bytes → record_at title bytes place ≡ closed → get_or bytes place 0 ≢ OPEN
shut_gate title bytes place there is gate = found_some title bytes place there gate is

-- there, the bodies lie in the file
pub reach_lies : (title : Title) (bytes : List ℕ) (held : List (List ℕ)) (place : ℕ) → take 17 bytes ≡ OPEN ∷ title_of title → length (title_of title) ≡ 16 → Reaches title bytes held place → record_at title bytes place ≡ closed → LiesAs title held (place + 1) bytes
reach_lies title bytes held place titled long r is =
    let prefix : take place bytes ≡ prefix_of title held = r.prefix ∙ ap (λ (l : List ℕ). l ++ flat_map record_of held) titled in
    let at : length (prefix_of title held) ≡ place = sym (ap length prefix) ∙ omega (arith, length-take place bytes, r.within) in
    record {
      prefix = ap (λ (k : ℕ). take k bytes) at ∙ prefix;
      place = omega (arith, at);
      whole = omega (arith, r.within);
      gate = subst (λ (k : ℕ). get_or bytes k 0 ≢ OPEN) (sym at) (shut_gate title bytes place r.within is);
      limit = omega (arith, r.limit);
      fit = r.fit;
    }
