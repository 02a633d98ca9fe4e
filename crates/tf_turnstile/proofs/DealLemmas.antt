-- Passes as they are dealt out, one after the other.
use Rattle.std.proofs.Common.{◌≡◌, ◌⊎◌, ℕ, zero, suc, ◌+◌, List, [], ◌∷◌, ◌++◌, length, Option, Some, None, slice_get, refl, sym, ap, subst, ◌∙◌, inl, inr, arith, length-append}
use Rattle.atomic_table.specs.Seated.{TableId}
use Rattle.atomic_table.specs.Table.{Me}
use Rattle.atomic_table.specs.declared.shared.Seat.{Seat}
use Rattle.tf_turnstile.specs.declared.rule.View.{View}
use Rattle.tf_turnstile.specs.Seats.{IsPassSeat, emptied, pass_of}
use Rattle.tf_turnstile.specs.Order.{first_view, left_view, right_view}
use Rattle.tf_turnstile.proofs.NumberedLemmas.{each_index}
use Rattle.tf_turnstile.specs.Passes.{TurnstileValue, PassValue, AreNew, new_pass}

-- what the last seat knows while passes are dealt out
abbrev pub last_view : {B E : Type 0} → B → ℕ → View B E
last_view start number = record (first_view start) { number = number }

-- these passes were dealt out, and the seat is the next one
pub record AreDealt {B E : Type 0} (turnstile : TurnstileValue B) (passes : List (PassValue B E)) (seat : Seat (Option B) (View B E)) : Type 0 where
  pub at : seat.table_id ≡ turnstile.table
  pub me : seat.me ≡ (last_view turnstile.start (length passes), [])
  pub each : (i : ℕ) (pass : PassValue B E) → slice_get passes i ≡ Some pass → pass ≡ new_pass turnstile i

-- the last element, or one before it
pub get_end : {A : Type 0} (l : List A) (a b : A) (i : ℕ) → slice_get (l ++ a ∷ []) i ≡ Some b → (slice_get l i ≡ Some b) ⊎ ((i ≡ length l) × (a ≡ b))
get_end [] a b zero e = inr (refl, cc)
get_end [] a b (suc i) e = absurd cc
get_end (x ∷ xs) a b zero e = inl e
get_end (x ∷ xs) a b (suc i) e = elim (get_end xs a b i e) [ inl p ↦ inl p | inr p ↦ inr (omega (arith, p.0), p.1) ]

module _ {B O E : Type 0} (origin : B → O) (entries : B → List (ℕ × E)) where
  -- nothing is in hand
  pub seat_of_new : (v : View B E) (slots : List (ℕ × Option B)) → v.back ≡ [] → v.taken ≡ None → slots ≡ [] → IsPassSeat origin entries v slots
  seat_of_new v slots back none no_slot = record {
    none_back = back;
    slots_are = no_slot ∙ ap emptied (sym none);
    taken_is = λ a b live held. absurd cc;
  }

module _ {B E : Type 0} where
  -- a seat that knows this much is a new pass
  pub new_is : (turnstile : TurnstileValue B) (seat : Seat (Option B) (View B E)) (v : View B E) (number : ℕ) → seat.table_id ≡ turnstile.table → seat.me ≡ (v, []) → left_view v ≡ left_view (last_view turnstile.start number) → pass_of seat ≡ new_pass turnstile number
  new_is turnstile seat v number at me view =
      let with_table = λ (t : TableId). let h : PassValue B E = record { table = t; start = seat.me.0.start; number = seat.me.0.number; seen = seat.me.0.seen; taken = seat.me.0.taken } in h in
      let with_me = λ (m : Me (Option B) (View B E)). let h : PassValue B E = record { table = turnstile.table; start = m.0.start; number = m.0.number; seen = m.0.seen; taken = m.0.taken } in h in
      let with_view = λ (w : View B E). let h : PassValue B E = record { table = turnstile.table; start = w.start; number = w.number; seen = w.seen; taken = w.taken } in h in
      ap with_table at ∙ (ap with_me me ∙ ap with_view view)

  -- one more pass is the next in number
  pub each_more : (turnstile : TurnstileValue B) (passes : List (PassValue B E)) (pass : PassValue B E) → ((i : ℕ) (p : PassValue B E) → slice_get passes i ≡ Some p → p ≡ new_pass turnstile i) → pass ≡ new_pass turnstile (length passes)
      → (i : ℕ) (p : PassValue B E) → slice_get (passes ++ pass ∷ []) i ≡ Some p → p ≡ new_pass turnstile i
  each_more turnstile passes pass each next i p e = elim (get_end passes pass p i e) [ inl q ↦ each i p q | inr q ↦ sym q.1 ∙ (next ∙ ap (new_pass turnstile) (sym q.0)) ]

  pub dealt_more : (turnstile : TurnstileValue B) (passes : List (PassValue B E)) (seat old next : Seat (Option B) (View B E)) → AreDealt turnstile passes seat
      → old.table_id ≡ seat.table_id → old.me ≡ (left_view seat.me.0, seat.me.1) → next.table_id ≡ seat.table_id → next.me ≡ (right_view seat.me.0, [])
      → AreDealt turnstile (passes ++ pass_of old ∷ []) next
  dealt_more turnstile passes seat old next dealt old_at old_me next_at next_me =
      let more : length passes + 1 ≡ length (passes ++ pass_of old ∷ []) = sym (length-append passes (pass_of old ∷ [])) in record {
        at = next_at ∙ dealt.at;
        me = next_me ∙ (ap (λ (m : Me (Option B) (View B E)). (right_view m.0, [])) dealt.me ∙ ap (λ n. (last_view turnstile.start n, [])) more);
        each = each_more turnstile passes (pass_of old) dealt.each (new_is turnstile old (left_view seat.me.0) (length passes) (old_at ∙ dealt.at)
            (old_me ∙ ap (λ l. (left_view seat.me.0, l)) (ap (λ (m : Me (Option B) (View B E)). m.1) dealt.me)) (ap (λ (m : Me (Option B) (View B E)). left_view m.0) dealt.me));
      }

  -- with the last seat they are all
  pub all_dealt : (turnstile : TurnstileValue B) (passes : List (PassValue B E)) (seat : Seat (Option B) (View B E)) → AreDealt turnstile passes seat → length passes + 1 ≡ turnstile.passes → AreNew turnstile (passes ++ pass_of seat ∷ [])
  all_dealt turnstile passes seat dealt count = record {
    count = length-append passes (pass_of seat ∷ []) ∙ count;
    each = each_index (λ i p. p ≡ new_pass turnstile i) (passes ++ pass_of seat ∷ []) (each_more turnstile passes (pass_of seat) dealt.each (new_is turnstile seat (last_view turnstile.start (length passes)) (length passes) dealt.at dealt.me refl));
  }

  -- at first there are none
  pub none_dealt : (turnstile : TurnstileValue B) (passes : List (PassValue B E)) (seat : Seat (Option B) (View B E)) → passes ≡ [] → seat.table_id ≡ turnstile.table → seat.me ≡ (first_view turnstile.start, []) → AreDealt turnstile passes seat
  none_dealt turnstile passes seat none at me = record {
    at = at;
    me = me ∙ ap (λ n. (last_view turnstile.start n, [])) (sym (ap length none));
    each = λ i pass e. let P : List (PassValue B E) → Type 0 = λ l. slice_get l i ≡ Some pass in let h : None ≡ Some pass = subst P none e in absurd cc;
  }
