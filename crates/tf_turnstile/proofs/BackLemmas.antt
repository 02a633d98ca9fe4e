-- Passes as they are taken back, one after the other.
use Rattle.std.proofs.Common.{◌≡◌, ℕ, zero, suc, ◌+◌, ◌<◌, List, [], ◌∷◌, ◌++◌, map, length, slice_get, slice_index_or, Option, Some, None, refl, sym, ap, subst, ◌∙◌, arith, length-append}
use Rattle.std.proofs.lemmas.List.{map-append}
use Rattle.std.proofs.lemmas.List.Elements.{All-append}
use Rattle.std.proofs.lemmas.Option.{slice_get-get_or}
use Rattle.std.specs.List.{All}
use mathlib.Core.Option.{some, some-injective}
use lib.ListN.{get_elem?}
use Rattle.atomic_table.specs.Table.{Me, Final, Seen}
use Rattle.atomic_table.proofs.Lists.{at_map}
use Rattle.atomic_table.specs.declared.shared.Seat.{Seat}
use Rattle.tf_turnstile.specs.declared.rule.View.{View}
use Rattle.tf_turnstile.specs.Seats.{IsOut, pass_of}
use Rattle.tf_turnstile.specs.declared.rule.Opening.{Opening}
use Rattle.tf_turnstile.specs.Numbered.{AreNumberedBelow, IsLater}
use Rattle.tf_turnstile.specs.Order.{HoldsBetweenSteps, back_view}
use Rattle.tf_turnstile.specs.Passes.{TurnstileValue, PassValue, IsPassOf, IsIdle, AreAll, HasGrown}
use Rattle.tf_turnstile.proofs.NumberedLemmas.{each_get, own-later}
use Rattle.tf_turnstile.proofs.PassLemmas.{home_at_last}

-- the last seat, once these were seen by those that it took back
abbrev pub with_back : {B E : Type 0} → Me (Option B) (View B E) → List (List (ℕ × E)) → Me (Option B) (View B E)
with_back m back = (record m.0 { back = back }, [])

module _ {B E : Type 0} where
  pub none_taken_back : (m : Me (Option B) (View B E)) → m.1 ≡ [] → m.0.back ≡ [] → m ≡ with_back m []
  none_taken_back m none back = ap (λ l. (m.0, l)) none ∙ ap (with_back m) back

  pub one_taken_back : (m m' n : Me (Option B) (View B E)) (seat : Seat (Option B) (View B E)) (pass : PassValue B E) (passes : List (PassValue B E)) → m' ≡ with_back m (map (λ p. p.seen) passes)
      → pass_of seat ≡ pass → n ≡ (back_view m'.0 seat.me.0, m'.1) → n ≡ with_back m (map (λ p. p.seen) (passes ++ pass ∷ []))
  one_taken_back m m' n seat pass passes old view new =
      let seen : List (ℕ × E) = seat.me.0.seen in
      let same : seen ≡ pass.seen = ap (λ (p : PassValue B E). p.seen) view in
      new ∙ (ap (λ (x : Me (Option B) (View B E)). (back_view x.0 seat.me.0, x.1)) old
      ∙ (ap (λ s. with_back m (map (λ p. p.seen) passes ++ s ∷ [])) same ∙ ap (with_back m) (sym (map-append (λ (p : PassValue B E). p.seen) passes (pass ∷ [])))))

-- an element of a longer list, and its last one
pub get_front : {A : Type 0} (l : List A) (a b : A) (i : ℕ) → slice_get l i ≡ Some b → slice_get (l ++ a ∷ []) i ≡ Some b
get_front [] a b i e = absurd cc
get_front (x ∷ xs) a b zero e = e
get_front (x ∷ xs) a b (suc i) e = get_front xs a b i e

pub get_last : {A : Type 0} (l : List A) (a : A) → slice_get (l ++ a ∷ []) (length l) ≡ Some a
get_last [] a = refl
get_last (x ∷ xs) a = get_last xs a

pub at_index_or : {A : Type 0} (l : List A) (i : ℕ) (d : A) → i < length l → get_elem? l i ≡ some (slice_index_or l i d)
at_index_or [] i d h = absurd (omega arith)
at_index_or (x ∷ xs) zero d h = refl
at_index_or (x ∷ xs) (suc i) d h = at_index_or xs i d (omega arith)

-- all passes are the last one and those before it
pub record AreSplit {B E : Type 0} (turnstile : TurnstileValue B) (front : List (PassValue B E)) (last : PassValue B E) : Type 0 where
  pub count : length front + 1 ≡ turnstile.passes
  pub mine : IsPassOf turnstile last
  pub number : last.number ≡ length front
  pub nothing : last.taken ≡ None
  pub others : (i : ℕ) (pass : PassValue B E) → slice_get front i ≡ Some pass → IsOut turnstile.table i pass

module _ {B E : Type 0} where
  pub split_all : (turnstile : TurnstileValue B) (passes front : List (PassValue B E)) (last : PassValue B E) → passes ≡ front ++ last ∷ [] → AreAll turnstile passes → AreSplit turnstile front last
  split_all turnstile passes front last is all =
      let P : List (PassValue B E) → Type 0 = λ l. AreAll turnstile l in
      let whole : AreAll turnstile (front ++ last ∷ []) = subst P is all in
      let each = each_get (IsIdle turnstile) (front ++ last ∷ []) whole.each in
      let end = each (length front) last (get_last front last) in record {
        count = sym (length-append front (last ∷ [])) ∙ whole.count;
        mine = end.mine;
        number = end.number_is;
        nothing = end.nothing;
        others = λ i pass e. let one = each i pass (get_front front last pass i e) in record { start = turnstile.start; at = one.mine.table; live = one.mine.start; number_is = one.number_is; nothing = one.nothing };
      }

  -- each entry carries the number of a pass, and to each pass the entries are what it has seen with entries of others after it
  pub record AreLast (turnstile : TurnstileValue B) (passes : List (PassValue B E)) (added : List (ℕ × E)) : Type 0 where
    pub numbers : AreNumberedBelow turnstile.passes added
    pub seen : All (λ pass. IsLater pass.number pass.seen added) passes

  -- what each pass has seen has come true of the entries in the end
  pub all_seen : (turnstile : TurnstileValue B) (passes front : List (PassValue B E)) (last : PassValue B E) (added : List (ℕ × E)) → passes ≡ front ++ last ∷ [] → AreSplit turnstile front last → AreNumberedBelow turnstile.passes added
      → ((i : ℕ) (seen : List (ℕ × E)) → get_elem? (map (λ (p : PassValue B E). p.seen) front) i ≡ some seen → IsLater i seen added) → IsLater last.number last.seen added → AreLast turnstile passes added
  all_seen turnstile passes front last added is split numbers back end =
      let Q : PassValue B E → Type 0 = λ p. IsLater p.number p.seen added in
      let P : List (PassValue B E) → Type 0 = λ l. All Q l in
      let first : All Q front = λ k d h.
      let p : PassValue B E = slice_index_or front k d in
      let out = split.others k p (slice_get-get_or front k d h) in
      let later : IsLater k p.seen added = back k p.seen (at_map (λ (q : PassValue B E). q.seen) front k p (at_index_or front k d h)) in
      let N : ℕ → Type 0 = λ n. IsLater n p.seen added in subst N (sym out.number_is) later in
      let only : All Q (last ∷ []) = λ k d h. elim k as (λ n. n < 1 → Q (slice_index_or (last ∷ []) n d)) [ zero ↦ λ _. end | suc n ↦ λ lt. absurd (omega (arith, lt)) ] h in record {
        numbers = numbers;
        seen = subst P (sym is) (All-append Q front (last ∷ []) first only);
      }

module _ {B O E : Type 0} (origin : B → O) (first : B → ℕ) (entries : B → List (ℕ × E)) where
  -- how the value is in the end
  pub record Ends (opening : Opening B) (v : View B E) (slot : Option B) : Type 0 where
    pub now : B
    pub is : slot ≡ Some now
    pub same : origin now ≡ origin opening.kept.value
    pub added : List (ℕ × E)
    pub history : entries now ≡ entries opening.kept.value ++ added
    pub numbers : AreNumberedBelow opening.passes added
    pub back : (i : ℕ) (seen : List (ℕ × E)) → get_elem? v.back i ≡ some seen → IsLater i seen added
    pub last : IsLater v.number v.seen added

  pub ends_with : (opening : Opening B) (id : ℕ) (v : View B E) (a : B) (words : List ℕ) (slots : List (Option B)) (slot : Option B) → v.start ≡ Some a → v.taken ≡ None → v.number + 1 ≡ opening.passes → length v.back ≡ v.number
      → Final (Seen (HoldsBetweenSteps origin first entries opening) id v) words slots → get_elem? slots 0 ≡ some slot → Ends opening v slot
  ends_with opening id v a words slots slot live free whole all final there =
      let st = final.1.0 in
      let h = home_at_last origin first entries opening id v a final.0 live free whole all final.1 in
      let P : ℕ → Type 0 = λ n. AreNumberedBelow n st.added in record {
        now = st.now;
        is = some-injective slot (Some st.now) (sym there ∙ final.4 0 (Some st.now) h.0);
        same = st.same;
        added = st.added;
        history = st.history;
        numbers = subst P h.1 st.numbers;
        back = λ i seen e. (h.2 i seen e).0;
        last = h.3;
      }

  -- to each pass the added entries are what it has seen with entries of others after it
  pub all_last : (opening : Opening B) (turnstile : TurnstileValue B) (passes front : List (PassValue B E)) (last : PassValue B E) (seat : Seat (Option B) (View B E)) (n : Me (Option B) (View B E)) (slot : Option B)
      → opening.passes ≡ turnstile.passes → passes ≡ front ++ last ∷ [] → AreSplit turnstile front last → pass_of seat ≡ last → n ≡ with_back seat.me (map (λ (p : PassValue B E). p.seen) front)
      → (end : Ends opening n.0 slot) → AreLast turnstile passes end.added
  all_last opening turnstile passes front last seat n slot count is split view back end =
      let P : ℕ → Type 0 = λ k. AreNumberedBelow k end.added in
      let Q : List (List (ℕ × E)) → Type 0 = λ l. (i : ℕ) (seen : List (ℕ × E)) → get_elem? l i ≡ some seen → IsLater i seen end.added in
      let R : Me (Option B) (View B E) → Type 0 = λ m. IsLater m.0.number m.0.seen end.added in
      let S : PassValue B E → Type 0 = λ p. IsLater p.number p.seen end.added in
      all_seen turnstile passes front last end.added is split (subst P count end.numbers) (subst Q (ap (λ (m : Me (Option B) (View B E)). m.0.back) back) end.back) (subst S view (subst R back end.last))

  -- so the value in the end has grown as it should
  pub has_grown : (opening : Opening B) (turnstile : TurnstileValue B) (passes : List (PassValue B E)) (v : View B E) (slot : Option B) (kept : B) (end : Ends opening v slot)
      → kept ≡ end.now → opening.kept.value ≡ turnstile.start → AreLast turnstile passes end.added → HasGrown entries turnstile passes kept
  has_grown opening turnstile passes v slot kept end now_is start_is last = record {
    added = end.added;
    history = ap entries now_is ∙ (end.history ∙ ap (λ x. entries x ++ end.added) start_is);
    numbers = last.numbers;
    seen = last.seen;
    own = λ k d h. let p : PassValue B E = slice_index_or passes k d in own-later p.number p.seen end.added (last.seen k d h);
  }
