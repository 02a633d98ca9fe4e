-- Entries that carry numbers, one list after another; and lists read by `get_elem?`.
use Rattle.std.proofs.Common.{◌≡◌, ◌≢◌, ◌⊎◌, ℕ, zero, suc, ◌+◌, ◌<◌, ◌==◌, false, List, [], ◌∷◌, ◌++◌, length, slice_get, slice_index_or, Some, refl, sym, ap, subst, ◌∙◌, inl, inr, arith, append_assoc}
use Rattle.std.proofs.lemmas.Bool.{ne_eqb}
use Rattle.std.proofs.lemmas.List.{append-nil}
use Rattle.std.proofs.lemmas.List.Elements.{All-append, filter-append}
use Rattle.std.proofs.lemmas.Option.{get_or_from_slice_get, slice_get_within, slice_get-get_or}
use mathlib.Core.Option.{some, some-injective, some-ne-none}
use lib.ListN.{get_elem?}
use Rattle.tf_turnstile.specs.Numbered.{AllBy, NoneBy, AreNumberedBelow, own, IsLater, IsLonger}

module _ {E : Type 0} where
  -- what one number carries another does not
  pub none_by : (m n : ℕ) (mine : List (ℕ × E)) → m ≢ n → AllBy n mine → NoneBy m mine
  none_by m n mine ne all = λ k d h q. ne (sym q ∙ all k d h)

  -- nothing came after
  pub later_same : (n : ℕ) (seen : List (ℕ × E)) → IsLater n seen seen
  later_same n seen = record { since = []; begins = sym (append-nil seen); others = λ k d h. absurd (omega arith) }

  pub longer_same : (n : ℕ) (seen : List (ℕ × E)) → IsLonger n seen seen
  longer_same n seen = record { mine = []; begins = sym (append-nil seen); own = λ k d h. absurd (omega arith) }

  -- what another number adds comes later
  pub later_on : (m n : ℕ) (seen added now : List (ℕ × E)) → m ≢ n → IsLater m seen added → IsLonger n added now → IsLater m seen now
  later_on m n seen added now ne l g =
      record { since = l.since ++ g.mine; begins = g.begins ∙ ap (λ x. x ++ g.mine) l.begins ∙ append_assoc seen l.since g.mine; others = All-append (λ e. e.0 ≢ m) l.since g.mine l.others (none_by m n g.mine ne g.own) }

  -- a number below the bound keeps all below it
  pub below_on : (n bound : ℕ) (added now : List (ℕ × E)) → n < bound → AreNumberedBelow bound added → IsLonger n added now → AreNumberedBelow bound now
  below_on n bound added now lt all g =
      let P : List (ℕ × E) → Type 0 = λ x. AreNumberedBelow bound x in
      subst P (sym g.begins) (All-append (λ e. e.0 < bound) added g.mine all (λ k d h. let e = g.own k d h in omega (arith, e)))

  pub none_of : (n : ℕ) (entries : List (ℕ × E)) → AreNumberedBelow n entries → NoneBy n entries
  none_of n entries all = λ k d h q. let lt = all k d h in omega (arith, lt, q)

  pub below_more : (n : ℕ) (entries : List (ℕ × E)) → AreNumberedBelow n entries → AreNumberedBelow (n + 1) entries
  below_more n entries all = λ k d h. let lt = all k d h in omega (arith, lt)

  -- no entry carries the number
  pub own-none : (n : ℕ) (entries : List (ℕ × E)) → NoneBy n entries → own n entries ≡ []
  own-none n [] none = refl
  own-none n (e ∷ es) none =
      let differs : (e.0 == n) ≡ false = ne_eqb e.0 n (none 0 e (omega arith)) in
      let tail : own n es ≡ [] = own-none n es (λ k d h. none (suc k) d (omega (arith, h))) in
      rw differs tail

  -- what comes later leaves the number's own entries as they were
  pub own-later : (n : ℕ) (seen now : List (ℕ × E)) → IsLater n seen now → own n now ≡ own n seen
  own-later n seen now later =
      ap (own n) later.begins ∙ (filter-append (λ e. e.0 == n) seen later.since ∙ (ap (λ l. own n seen ++ l) (own-none n later.since later.others) ∙ append-nil (own n seen)))

module _ {A : Type 0} where
  -- the last element, or one before it
  pub at_end : (l : List A) (a b : A) (j : ℕ) → get_elem? (l ++ a ∷ []) j ≡ some b → (get_elem? l j ≡ some b) ⊎ ((j ≡ length l) × (a ≡ b))
  at_end [] a b zero e = inr (refl, some-injective a b e)
  at_end [] a b (suc j) e = absurd (some-ne-none b (sym e))
  at_end (x ∷ xs) a b zero e = inl e
  at_end (x ∷ xs) a b (suc j) e = elim (at_end xs a b j e) [ inl p ↦ inl p | inr p ↦ inr (omega (arith, p.0), p.1) ]

  pub is_there : (l : List A) (j : ℕ) → j < length l → (a : A) × (get_elem? l j ≡ some a)
  is_there [] j h = absurd (omega arith)
  is_there (x ∷ xs) zero h = (x, refl)
  is_there (x ∷ xs) (suc j) h = is_there xs j (omega arith)

  pub there_below : (l : List A) (j : ℕ) (a : A) → get_elem? l j ≡ some a → j < length l
  there_below [] j a e = absurd (some-ne-none a (sym e))
  there_below (x ∷ xs) zero a e = omega arith
  there_below (x ∷ xs) (suc j) a e = let lt = there_below xs j a e in omega (arith, lt)

  -- what is said of each element, by its index and by what stands there
  pub each_get : (P : ℕ → A → Type 0) (l : List A) → ((i : ℕ) (d : A) → i < length l → P i (slice_index_or l i d)) → (i : ℕ) (a : A) → slice_get l i ≡ Some a → P i a
  each_get P l each i a e = let Q : A → Type 0 = λ x. P i x in subst Q (get_or_from_slice_get l i a a e) (each i a (slice_get_within l i a e))

  pub each_index : (P : ℕ → A → Type 0) (l : List A) → ((i : ℕ) (a : A) → slice_get l i ≡ Some a → P i a) → (i : ℕ) (d : A) → i < length l → P i (slice_index_or l i d)
  each_index P l each i d lt = each i (slice_index_or l i d) (slice_get-get_or l i d lt)
