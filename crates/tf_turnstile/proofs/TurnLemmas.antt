-- What the steps of one turn make together.
use Rattle.std.proofs.Common.{◌≡◌, ◌==◌, ℕ, zero, suc, Bool, false, List, [], ◌∷◌, ◌++◌, Option, Some, None, refl, sym, ap, subst, ◌∙◌, arith, append_assoc}
use Rattle.std.proofs.lemmas.Bool.{ne_eqb}
use Rattle.std.proofs.lemmas.List.{append_cancel_left}
use Rattle.std.specs.Prelude.{MatchBool}
use Rattle.atomic_table.specs.Table.{Me, Step, rest}
use Rattle.tf_turnstile.specs.declared.rule.View.{View}
use Rattle.tf_turnstile.specs.Numbered.{IsLater, IsLonger}
use Rattle.tf_turnstile.specs.Seats.{IsPassSeat, TakesSlot, emptied, pass_of}
use Rattle.tf_turnstile.specs.Passes.{PassValue}
use Rattle.atomic_table.specs.Seated.{TableId}
use Rattle.atomic_table.specs.declared.shared.Seat.{Seat}
use Rattle.tf_turnstile.specs.Steps.{Sees, takes_out, looks, counts}
use Rattle.tf_turnstile.proofs.OrderLemmas.{view_after}
use Rattle.tf_turnstile.proofs.StepLemmas.{one_slot}

module _ {B O E : Type 0} (origin : B → O) (first : B → ℕ) (entries : B → List (ℕ × E)) where
  -- a seat m has taken the value, and is n
  pub record Taken (start kept : B) (m n : Me (Option B) (View B E)) : Type 0 where
    pub same : origin kept ≡ origin start
    pub history : entries kept ≡ entries start ++ n.0.seen
    pub later : IsLater m.0.number m.0.seen n.0.seen
    pub after : n ≡ (view_after m.0 n.0.seen (Some kept), (0, None) ∷ [])

  -- the exchange out, the read of the slot, and the load
  pub taken_is : (m0 m1 m2 m3 : Me (Option B) (View B E)) (start b kept : B) (slot : Option B) (step : Step (Option B)) (found : ℕ)
      → m0.0.start ≡ Some start → m1 ≡ (view_after m0.0 m0.0.seen (Some b), (0, Some b) ∷ [])
      → m1.1 ≡ (0, slot) ∷ rest m1.1 → m2 ≡ (m1.0, (0, None) ∷ rest m1.1)
      → looks origin first entries step m2 found m3 → slot ≡ Some kept → Taken start kept m0 m3
  taken_is m0 m1 m2 m3 start b kept slot step found live out read written look full =
      let in_slot : m1.1 ≡ (0, Some kept) ∷ rest m1.1 = read ∙ ap (λ o. (0, o) ∷ rest m1.1) full in
      let held : m1.1 ≡ (0, Some b) ∷ [] = ap (λ (m : Me (Option B) (View B E)). m.1) out in
      let none : rest m1.1 ≡ [] = ap rest held in
      let one : m1.1 ≡ (0, Some kept) ∷ [] = in_slot ∙ ap (λ l. (0, Some kept) ∷ l) none in
      let same : b ≡ kept = one_slot m1.1 b kept held one in
      let m2_is : m2 ≡ (view_after m0.0 m0.0.seen (Some b), (0, None) ∷ []) = written ∙ (ap (λ l. (m1.0, (0, None) ∷ l)) none ∙ ap (λ (m : Me (Option B) (View B E)). (m.0, (0, None) ∷ [])) out) in
      let sees : Sees origin first entries start b m2 found m3 = look start b (ap (λ (m : Me (Option B) (View B E)). m.0.start) m2_is ∙ live) (ap (λ (m : Me (Option B) (View B E)). m.0.taken) m2_is) in
      let seen_is : sees.seen ≡ m3.0.seen = ap (λ (m : Me (Option B) (View B E)). m.0.seen) (sym sees.after) in
      let number_is : m2.0.number ≡ m0.0.number = ap (λ (m : Me (Option B) (View B E)). m.0.number) m2_is in
      let old_is : m2.0.seen ≡ m0.0.seen = ap (λ (m : Me (Option B) (View B E)). m.0.seen) m2_is in
      let P : ℕ → Type 0 = λ n. IsLater n m2.0.seen sees.seen in
      let Q : List (ℕ × E) → Type 0 = λ l. IsLater m0.0.number l sees.seen in
      let S : List (ℕ × E) → Type 0 = λ l. IsLater m0.0.number m0.0.seen l in
      let later : IsLater m0.0.number m0.0.seen m3.0.seen = subst S seen_is (subst Q old_is (subst P number_is sees.later)) in record {
        same = ap origin (sym same) ∙ sees.same;
        history = ap entries (sym same) ∙ (sees.history ∙ ap (λ l. entries start ++ l) seen_is);
        later = later;
        after = sees.after ∙ (ap (λ (m : Me (Option B) (View B E)). (record m.0 { seen = sees.seen }, m.1)) m2_is ∙ (ap (λ l. (view_after m0.0 l (Some b), (0, None) ∷ [])) seen_is ∙ ap (λ x. (view_after m0.0 m3.0.seen (Some x), (0, None) ∷ [])) same));
      }

  -- the value is in the slot that was emptied
  pub filled_is : (m0 m1 : Me (Option B) (View B E)) (b kept : B) → m0.0.taken ≡ Some b → IsPassSeat origin entries m0.0 m0.1 → m1 ≡ (m0.0, (0, Some kept) ∷ rest m0.1) → m1 ≡ (m0.0, (0, Some kept) ∷ [])
  filled_is m0 m1 b kept held hand written =
      let none : rest m0.1 ≡ [] = ap rest (hand.slots_are ∙ ap emptied held) in
      written ∙ ap (λ l. (m0.0, (0, Some kept) ∷ l)) none

  -- after the count
  pub counted_is : (m0 m1 m2 : Me (Option B) (View B E)) (start kept : B) (step : Step (Option B)) (n : ℕ) → m0.0.start ≡ Some start → m1 ≡ (m0.0, (0, Some kept) ∷ [])
      → counts origin first entries step m1 n m2
      → (seen : List (ℕ × E)) × (entries kept ≡ entries start ++ seen) × (m2 ≡ (view_after m0.0 seen (Some kept), (0, Some kept) ∷ []))
  counted_is m0 m1 m2 start kept step n live filled count =
      let c = count start kept (ap (λ (m : Me (Option B) (View B E)). m.0.start) filled ∙ live) (ap (λ (m : Me (Option B) (View B E)). m.1) filled) in
      (c.0, c.1, c.2 ∙ ap (λ (m : Me (Option B) (View B E)). (view_after m.0 c.0 (Some kept), m.1)) filled)

  -- a seat m has given the value, and is n
  pub record Gave (start kept : B) (m n : Me (Option B) (View B E)) : Type 0 where
    pub history : entries kept ≡ entries start ++ n.0.seen
    pub longer : IsLonger m.0.number m.0.seen n.0.seen
    pub after : n ≡ (view_after m.0 n.0.seen None, [])

  pub gave_is : (m0 m1 m2 m3 : Me (Option B) (View B E)) (start b kept : B) (step : Step (Option B)) (n : ℕ)
      → m0.0.start ≡ Some start → m0.0.taken ≡ Some b → IsPassSeat origin entries m0.0 m0.1 → IsLonger m0.0.number (entries b) (entries kept)
      → m1 ≡ (m0.0, (0, Some kept) ∷ rest m0.1) → counts origin first entries step m1 n m2 → m3 ≡ (record m2.0 { taken = None }, []) → Gave start kept m0 m3
  gave_is m0 m1 m2 m3 start b kept step n live held hand longer written count home =
      let c = counted_is m0 m1 m2 start kept step n live (filled_is m0 m1 b kept held hand written) count in
      let end : m3 ≡ (view_after m0.0 c.0 None, []) = home ∙ ap (λ (m : Me (Option B) (View B E)). (record m.0 { taken = None }, [])) c.2 in
      let seen_is : c.0 ≡ m3.0.seen = ap (λ (m : Me (Option B) (View B E)). m.0.seen) (sym end) in
      let was : entries b ≡ entries start ++ m0.0.seen = (hand.taken_is start b live held).1 in
      let whole : entries start ++ c.0 ≡ entries start ++ (m0.0.seen ++ longer.mine) =
      sym c.1 ∙ (longer.begins ∙ (ap (λ l. l ++ longer.mine) was ∙ append_assoc (entries start) m0.0.seen longer.mine)) in
      let grown : c.0 ≡ m0.0.seen ++ longer.mine = append_cancel_left (entries start) c.0 (m0.0.seen ++ longer.mine) whole in record {
        history = c.1 ∙ ap (λ l. entries start ++ l) seen_is;
        longer = record { mine = longer.mine; begins = sym seen_is ∙ grown; own = longer.own };
        after = end ∙ ap (λ l. (view_after m0.0 l None, [])) seen_is;
      }

  -- what the pass keeps true of the value that it took
  pub seat_after_take : (start kept : B) (m n : Me (Option B) (View B E)) → m.0.start ≡ Some start → IsPassSeat origin entries m.0 m.1 → Taken start kept m n → IsPassSeat origin entries n.0 n.1
  seat_after_take start kept m n live hand t = record {
    none_back = ap (λ (x : Me (Option B) (View B E)). x.0.back) t.after ∙ hand.none_back;
    slots_are = ap (λ (x : Me (Option B) (View B E)). x.1) t.after ∙ sym (ap (λ (x : Me (Option B) (View B E)). emptied x.0.taken) t.after);
    taken_is = λ a b at held.
        let started : n.0.start ≡ Some start = ap (λ (x : Me (Option B) (View B E)). x.0.start) t.after ∙ live in
        let has : n.0.taken ≡ Some kept = ap (λ (x : Me (Option B) (View B E)). x.0.taken) t.after in
        let first_is : start ≡ a = cc in
        let kept_is : kept ≡ b = cc in
        (ap origin (sym kept_is) ∙ (t.same ∙ ap origin first_is), ap entries (sym kept_is) ∙ (t.history ∙ ap (λ x. entries x ++ n.0.seen) first_is));
  }

  pub seat_after_give : (start kept : B) (m n : Me (Option B) (View B E)) → IsPassSeat origin entries m.0 m.1 → Gave start kept m n → IsPassSeat origin entries n.0 n.1
  seat_after_give start kept m n hand t =
      let nothing : n.0.taken ≡ None = ap (λ (x : Me (Option B) (View B E)). x.0.taken) t.after in record {
        none_back = ap (λ (x : Me (Option B) (View B E)). x.0.back) t.after ∙ hand.none_back;
        slots_are = ap (λ (x : Me (Option B) (View B E)). x.1) t.after ∙ sym (ap emptied nothing);
        taken_is = λ a b live held. absurd cc;
      }

module _ {B E : Type 0} where
  -- the slot was taken exactly where the turn word was 0
  pub taken_or_not : (m n : Me (Option B) (View B E)) (found : ℕ) (step : Step (Option B)) → takes_out step m found n → MatchBool (found == 0) (TakesSlot m n) (n ≡ m)
  taken_or_not m n zero step told = told.0 refl
  taken_or_not m n (suc k) step told = let P : Bool → Type 0 = λ b. MatchBool b (TakesSlot m n) (n ≡ m) in let test : (suc k == 0) ≡ false = ne_eqb (suc k) 0 (λ e. omega (arith, e)) in subst P (sym test) (told.1 (λ e. omega (arith, e)))

  -- what is said of a seat is said of its pass
  pub later_of : (p q : PassValue B E) (seen : List (ℕ × E)) → p ≡ q → IsLater p.number p.seen seen → IsLater q.number q.seen seen
  later_of p q seen e later = let P : PassValue B E → Type 0 = λ x. IsLater x.number x.seen seen in subst P e later

  pub longer_of : (p q : PassValue B E) (seen : List (ℕ × E)) → p ≡ q → IsLonger p.number p.seen seen → IsLonger q.number q.seen seen
  longer_of p q seen e longer = let P : PassValue B E → Type 0 = λ x. IsLonger x.number x.seen seen in subst P e longer

  -- what is said of a pass is said of its seat
  pub longer_back : (s : Seat (Option B) (View B E)) (p : PassValue B E) (number : ℕ) (old now : List (ℕ × E)) → pass_of s ≡ p → number ≡ s.me.0.number → IsLonger p.number old now → IsLonger number old now
  longer_back s p number old now view same longer =
      let P : ℕ → Type 0 = λ n. IsLonger n old now in
      subst P (sym (same ∙ ap (λ (q : PassValue B E). q.number) view)) longer

  -- the pass after a step
  pub pass_after : (s n : Seat (Option B) (View B E)) (p : PassValue B E) (seen : List (ℕ × E)) (taken : Option B) (slots : List (ℕ × Option B)) → pass_of s ≡ p → n.table_id ≡ s.table_id → n.me ≡ (view_after s.me.0 seen taken, slots)
      → pass_of n ≡ record p { seen = seen; taken = taken }
  pass_after s n p seen taken slots view at after =
      let with_table = λ (t : TableId). let h : PassValue B E = record { table = t; start = n.me.0.start; number = n.me.0.number; seen = n.me.0.seen; taken = n.me.0.taken } in h in
      let with_me = λ (m : Me (Option B) (View B E)). let h : PassValue B E = record { table = s.table_id; start = m.0.start; number = m.0.number; seen = m.0.seen; taken = m.0.taken } in h in
      let with_pass = λ (q : PassValue B E). let h : PassValue B E = record q { seen = seen; taken = taken } in h in
      ap with_table at ∙ (ap with_me after ∙ ap with_pass view)
