-- Passes are dealt out and taken back, and at the end the value is at home.
use Rattle.std.proofs.Common.{◌≡◌, ◌≢◌, ℕ, zero, suc, ◌+◌, ◌<◌, ◌≤◌, true, List, [], ◌∷◌, ◌++◌, length, slice_index, slice_set, Option, Some, None, refl, sym, ap, subst, ◌∙◌, inl, inr, arith, length-set, length-append}
use mathlib.Core.Option.{some}
use mathlib.Core.Logic.{dite}
use native.Mathlib.Decide.{ℕ_discrete}
use lib.ListN.{get_elem?}
use Rattle.std.proofs.lemmas.List.{append-nil}
use Rattle.std.proofs.lemmas.List.Elements.{All-nil}
use Rattle.atomic_table.specs.Table.{State, Splits, Joins, Seen, opening as opens}
use Rattle.atomic_table.proofs.Lists.{at_set, set_here, set_else, at_longer}
use Rattle.tf_turnstile.specs.declared.rule.View.{View}
use Rattle.tf_turnstile.specs.declared.rule.Opening.{Opening}
use Rattle.tf_turnstile.specs.Numbered.{AreNumberedBelow, IsLater}
use Rattle.tf_turnstile.specs.Order.{AreBack, Fits, HoldsBetweenSteps, first_view, left_view, right_view, back_view, spent_view}
use Rattle.tf_turnstile.proofs.NumberedLemmas.{later_same, none_of, below_more, at_end, is_there, there_below}
use Rattle.tf_turnstile.proofs.OrderLemmas.{fits_at}

-- the same number, the same entries
pub later_at : {E : Type 0} (i j : ℕ) (seen now : List (ℕ × E)) (added : List (ℕ × E)) → i ≡ j → seen ≡ now → IsLater i seen added → IsLater j now added
later_at {E} i j seen now added e f l =
    let P : ℕ → Type 0 = λ k. IsLater k seen added in
    let Q : List (ℕ × E) → Type 0 = λ x. IsLater j x added in
    subst Q f (subst P e l)

module _ {B E : Type 0} where
  -- nothing was given back
  pub none_back : (added : List (ℕ × E)) (views : List (View B E)) → AreBack added views []
  none_back added views i seen e = absurd (mathlib.Core.Option.some-ne-none seen (sym e))

  -- a seat that has taken nothing isn't the one that has the value
  pub holds_none : (views : List (View B E)) (i j : ℕ) (v w : View B E) (b : B) → get_elem? views i ≡ some v → get_elem? views j ≡ some w → j ≡ i → v.taken ≡ None → w.taken ≡ Some b → ⊥
  holds_none views i j v w b at here e none full =
      let P : ℕ → Type 0 = λ k. get_elem? views k ≡ some w in
      let same : v ≡ w = mathlib.Core.Option.some-injective v w (sym at ∙ subst P e here) in
      let empty : w.taken ≡ None = ap (λ (x : View B E). x.taken) (sym same) ∙ none in cc

module _ {B O E : Type 0} (origin : B → O) (first : B → ℕ) (entries : B → List (ℕ × E)) (opening : Opening B) where
  -- the last seat becomes a pass, and the new one the last
  pub deal_allowed : (id : ℕ) (v : View B E) (a : B) → v.start ≡ Some a → v.taken ≡ None → v.is_last ≡ true → v.seen ≡ [] → v.back ≡ [] → v.number + 1 < opening.passes
      → Splits (HoldsBetweenSteps origin first entries opening) id v (left_view v) (right_view v)
  deal_allowed id v a live free last unseen unback few s st at =
      let views : List (View B E) = s.views in
      let left : View B E = left_view v in
      let right : View B E = right_view v in
      let after : List (View B E) = slice_set views id left ++ right ∷ [] in
      let fit = st.fits id v at in
      let f = fit.live a live in
      let long : length views ≡ id + 1 = (fit.last last).0 in
      let set_long : length (slice_set views id left) ≡ id + 1 = length-set views id left ∙ long in
      let after_long : length after ≡ id + 2 = length-append (slice_set views id left) (right ∷ []) ∙ omega (arith, set_long) in
      let there : id < length views = there_below views id v at in
      let turn : ℕ = slice_index s.words 0 in
      let start : B = opening.kept.value in
      let numbers : AreNumberedBelow (id + 1) st.added = let P : ℕ → Type 0 = λ n. AreNumberedBelow n st.added in subst P long st.numbers in
      let number_is : v.number ≡ id = f.1 in
      let left_fits : Fits start st.now st.added turn st.by after id left = record {
        taken = fit.taken;
        live = fit.live;
        spent = λ e. absurd cc;
        last = λ e. absurd cc;
        ends = λ e. absurd (omega (arith, after_long, e));
      } in
      let right_fits : Fits start st.now st.added turn st.by after (id + 1) right = record {
        taken = λ b e. absurd cc;
        live = λ b e. ((fit.live b e).0, omega (arith, number_is), record { since = st.added; begins = ap (λ l. l ++ st.added) (sym unseen); others = none_of (id + 1) st.added numbers });
        spent = λ e. absurd cc;
        last = λ e. (omega (arith, after_long), (let P : List (List (ℕ × E)) → Type 0 = λ l. AreBack st.added after l in subst P (sym unback) (none_back st.added after)));
        ends = λ e. last;
      } in
      let other_fits : (i : ℕ) (u : View B E) → i ≢ id → get_elem? views i ≡ some u → Fits start st.now st.added turn st.by after i u = λ i u ne here. let old = st.fits i u here in let low = there_below views i u here in record {
        taken = old.taken;
        live = old.live;
        spent = old.spent;
        last = λ e. let l = (old.last e).0 in absurd (ne (omega (arith, l, long)));
        ends = λ e. absurd (omega (arith, e, after_long, low, long));
      } in record {
        now = st.now;
        added = st.added;
        by = st.by;
        same = st.same;
        history = st.history;
        numbers = let P : ℕ → Type 0 = λ n. AreNumberedBelow n st.added in let more = below_more (id + 1) st.added numbers in let n : id + 1 + 1 ≡ length after = omega (arith, after_long) in subst P n more;
        passes = omega (arith, after_long, few, number_is);
        words = st.words;
        count = st.count;
        home = st.home;
        out = λ away. let o = st.out away in
            let ne : st.by ≢ id = λ e. holds_none views id st.by v o.0 st.now at o.1 e free o.2 in
            (o.0, at_longer (slice_set views id left) (right ∷ []) st.by o.0 (set_else views id st.by left ne ∙ o.1), o.2);
        fits = λ i u here. elim (at_end (slice_set views id left) right u i here) as (λ _. Fits start st.now st.added turn st.by after i u) [
          | inl p ↦ elim (at_set views id i left u p) as (λ _. Fits start st.now st.added turn st.by after i u) [
            | inl q ↦ fits_at start st.now st.added turn st.by after id i left u (sym q.0) q.1 left_fits
            | inr q ↦ other_fits i u q.0 q.1
          ]
          | inr p ↦ fits_at start st.now st.added turn st.by after (id + 1) i right u (sym (p.0 ∙ set_long)) p.1 right_fits
        ];
      }

  -- the last seat takes another one back
  pub return_allowed : (id : ℕ) (v : View B E) (other : ℕ) (w : View B E) (a b : B) → v.start ≡ Some a → v.taken ≡ None → v.number + 1 ≡ opening.passes
      → w.start ≡ Some b → w.taken ≡ None → w.number ≡ length v.back
      → Joins (HoldsBetweenSteps origin first entries opening) id v other w (back_view v w) spent_view
  return_allowed id v other w a b live free whole other_live other_free next s st at apart other_at =
      let views : List (View B E) = s.views in
      let both : View B E = back_view v w in
      let mid : List (View B E) = slice_set views id both in
      let after : List (View B E) = slice_set mid other spent_view in
      let mid_long : length mid ≡ length views = length-set views id both in
      let after_long : length after ≡ length views = length-set mid other spent_view ∙ mid_long in
      let there : id < length views = there_below views id v at in
      let other_there : other < length views = let low = there_below mid other w other_at in omega (arith, low, mid_long) in
      let was : get_elem? views other ≡ some w = sym (set_else views id other both apart) ∙ other_at in
      let fit = st.fits id v at in
      let f = fit.live a live in
      let few : length views ≤ opening.passes = st.passes in
      let number_is : v.number ≡ id = f.1 in
      let long : length views ≡ id + 1 = omega (arith, few, there, whole, number_is) in
      let last : v.is_last ≡ true = fit.ends long in
      let old_back : AreBack st.added views v.back = (fit.last last).1 in
      let other_fit = (st.fits other w was).live b other_live in
      let other_is : other ≡ length v.back = sym other_fit.1 ∙ next in
      let turn : ℕ = slice_index s.words 0 in
      let start : B = opening.kept.value in
      let spent_there : get_elem? after other ≡ some (spent_view {B = B} {E = E}) = set_here mid other spent_view (omega (arith, other_there, mid_long)) in
      let back : AreBack st.added after both.back = λ i seen e. elim (at_end v.back w.seen seen i e) as (λ _. IsLater i seen st.added × ((u : View B E) → get_elem? after i ≡ some u → u.start ≡ None)) [
        | inl p ↦ let t = old_back i seen p in (
          t.0,
          λ u here. elim (at_set mid other i spent_view u here) as (λ _. u.start ≡ None) [
            | inl q ↦ ap (λ (x : View B E). x.start) (sym q.1)
            | inr q ↦ elim (at_set views id i both u q.1) as (λ _. u.start ≡ None) [
              | inl r ↦ let P : ℕ → Type 0 = λ k. get_elem? views k ≡ some v in let none : v.start ≡ None = t.1 v (subst P (sym r.0) at) in absurd cc
              | inr r ↦ t.1 u r.1
            ]
          ],
        )
        | inr p ↦ (
          later_at other i w.seen seen st.added (other_is ∙ sym p.0) p.1 other_fit.2,
          λ u here. let P : ℕ → Type 0 = λ k. get_elem? after k ≡ some u in
              let same : spent_view ≡ u = mathlib.Core.Option.some-injective spent_view u (sym spent_there ∙ subst P (p.0 ∙ sym other_is) here) in
              ap (λ (x : View B E). x.start) (sym same),
        )
      ] in
      let spent_fits : Fits start st.now st.added turn st.by after other spent_view = record {
        taken = λ c e. absurd cc;
        live = λ c e. absurd cc;
        spent = λ e. (refl, refl);
        last = λ e. absurd cc;
        ends = λ e. absurd (apart (omega (arith, e, after_long, long)));
      } in
      let both_fits : Fits start st.now st.added turn st.by after id both = record {
        taken = fit.taken;
        live = fit.live;
        spent = λ e. absurd cc;
        last = λ e. (after_long ∙ long, back);
        ends = λ e. last;
      } in
      let other_fits : (i : ℕ) (u : View B E) → i ≢ id → get_elem? views i ≡ some u → Fits start st.now st.added turn st.by after i u = λ i u ne here. let old = st.fits i u here in record {
        taken = old.taken;
        live = old.live;
        spent = old.spent;
        last = λ e. let l = (old.last e).0 in absurd (ne (omega (arith, l, long)));
        ends = λ e. absurd (ne (omega (arith, e, after_long, long)));
      } in record {
        now = st.now;
        added = st.added;
        by = st.by;
        same = st.same;
        history = st.history;
        numbers = let P : ℕ → Type 0 = λ n. AreNumberedBelow n st.added in subst P (sym after_long) st.numbers;
        passes = omega (arith, after_long, few);
        words = st.words;
        count = st.count;
        home = st.home;
        out = λ away. let o = st.out away in
            let not_id : st.by ≢ id = λ e. holds_none views id st.by v o.0 st.now at o.1 e free o.2 in
            let not_other : st.by ≢ other = λ e. holds_none views other st.by w o.0 st.now was o.1 e other_free o.2 in
            (o.0, set_else mid other st.by spent_view not_other ∙ (set_else views id st.by both not_id ∙ o.1), o.2);
        fits = λ i u here. elim (at_set mid other i spent_view u here) as (λ _. Fits start st.now st.added turn st.by after i u) [
          | inl p ↦ fits_at start st.now st.added turn st.by after other i spent_view u (sym p.0) p.1 spent_fits
          | inr p ↦ elim (at_set views id i both u p.1) as (λ _. Fits start st.now st.added turn st.by after i u) [
            | inl q ↦ fits_at start st.now st.added turn st.by after id i both u (sym q.0) q.1 both_fits
            | inr q ↦ other_fits i u q.0 q.1
          ]
        ];
      }

  -- once all others were taken back, the value is at home
  pub home_at_last : (id : ℕ) (v : View B E) (a : B) (s : State (Option B) (View B E)) → v.start ≡ Some a → v.taken ≡ None → v.number + 1 ≡ opening.passes → length v.back ≡ v.number
      → (seen : Seen (HoldsBetweenSteps origin first entries opening) id v s) → (get_elem? s.homes 0 ≡ some (some (Some seen.0.now))) × (length s.views ≡ opening.passes) × AreBack seen.0.added s.views v.back × IsLater v.number v.seen seen.0.added
  home_at_last id v a s live free whole all seen =
      let st = seen.0 in
      let at = seen.1 in
      let views : List (View B E) = s.views in
      let there : id < length views = there_below views id v at in
      let fit = st.fits id v at in
      let f = fit.live a live in
      let few : length views ≤ opening.passes = st.passes in
      let number_is : v.number ≡ id = f.1 in
      let long : length views ≡ id + 1 = omega (arith, few, there, whole, number_is) in
      let last : v.is_last ≡ true = fit.ends long in
      let back : AreBack st.added views v.back = (fit.last last).1 in
      let later : IsLater v.number v.seen st.added = let P : ℕ → Type 0 = λ k. IsLater k v.seen st.added in subst P (sym number_is) f.2 in
      let home : slice_index s.words 0 ≢ 0 → ⊥ = λ away.
      let o = st.out away in
      let not_id : st.by ≢ id = λ e. holds_none views id st.by v o.0 st.now at o.1 e free o.2 in
      let low : st.by < length views = there_below views st.by o.0 o.1 in
      let given = is_there v.back st.by (omega (arith, low, long, all, number_is, not_id)) in
      let none : o.0.start ≡ None = (back st.by given.0 given.1).1 o.0 o.1 in
      let empty : o.0.taken ≡ None = ((st.fits st.by o.0 o.1).spent none).0 in
      let full : o.0.taken ≡ Some st.now = o.2 in cc in
      dite (ℕ_discrete (slice_index s.words 0) 0) (λ e. (st.home e, omega (arith, long, whole, number_is), back, later)) (λ away. absurd (home away))

  -- at first the value is at home, and there is one seat
  pub stands_first : (kept : B) (count : ℕ) (words : List ℕ) (slots : List (Option B)) → opening.kept.value ≡ kept → 0 < opening.passes → count ≡ first kept + length (entries kept) → words ≡ 0 ∷ count ∷ 0 ∷ [] → slots ≡ Some kept ∷ []
      → HoldsBetweenSteps origin first entries opening (opens words slots (first_view opening.kept.value))
  stands_first kept count words slots is some_passes counted words_are slots_are =
      let v : View B E = first_view opening.kept.value in
      let W : List ℕ → Type 0 = λ ws. HoldsBetweenSteps origin first entries opening (opens ws slots v) in
      let S : List (Option B) → Type 0 = λ xs. HoldsBetweenSteps origin first entries opening (opens (0 ∷ count ∷ 0 ∷ []) xs v) in
      let no_entries : List (ℕ × E) = [] in
      let none : AreNumberedBelow 1 no_entries = All-nil (λ e. e.0 < 1) in
      let fit : Fits opening.kept.value kept [] 0 0 (v ∷ []) 0 v = record {
        taken = λ b e. absurd cc;
        live = λ b e. let same : opening.kept.value ≡ b = cc in (sym same, refl, later_same 0 no_entries);
        spent = λ e. absurd cc;
        last = λ e. (refl, none_back [] (v ∷ []));
        ends = λ e. refl;
      } in
      subst W (sym words_are) (subst S (sym slots_are) (record {
        now = kept;
        added = [];
        by = 0;
        same = ap origin (sym is);
        history = ap entries (sym is) ∙ sym (append-nil (entries opening.kept.value));
        numbers = none;
        passes = some_passes;
        words = refl;
        count = counted;
        home = λ e. refl;
        out = λ ne. absurd (ne refl);
        fits = λ i u here. elim i as (λ n. get_elem? (v ∷ []) n ≡ some u → Fits opening.kept.value kept [] 0 0 (v ∷ []) n u) [
          | zero ↦ λ e. let same : v ≡ u = mathlib.Core.Option.some-injective v u e in fits_at opening.kept.value kept [] 0 0 (v ∷ []) 0 0 v u refl same fit
          | suc n ↦ λ e. absurd (mathlib.Core.Option.some-ne-none u (sym e))
        ] here;
      }))
