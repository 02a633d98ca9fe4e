-- Each kind of step of a pass is one that the rule of the table allows.
use Rattle.std.proofs.Common.{◌≡◌, ◌≢◌, ℕ, ◌+◌, ◌<◌, List, [], ◌∷◌, ◌++◌, length, slice_index, slice_set, Option, Some, None, refl, sym, ap, subst, ◌∙◌, arith, length-set, append_assoc, get_or-set_same, get_or-set_other}
use mathlib.Core.Option.{some}
use mathlib.Core.Logic.{dite}
use native.Mathlib.Decide.{ℕ_discrete}
use lib.ListN.{get_elem?}
use Rattle.atomic_table.specs.Table.{State, Me, Step, keeps, takes, gives, Allows}
use Rattle.atomic_table.proofs.Lists.{set_here, set_again}
use Rattle.tf_turnstile.specs.declared.rule.View.{View}
use Rattle.tf_turnstile.specs.declared.rule.Opening.{Opening}
use Rattle.tf_turnstile.specs.Numbered.{IsLonger}
use Rattle.tf_turnstile.specs.Order.{HoldsBetweenSteps}
use Rattle.tf_turnstile.specs.Steps.{takes_out, tells_nothing, puts_home, looks, counts}
use Rattle.tf_turnstile.proofs.NumberedLemmas.{later_same, longer_same, there_below}
use Rattle.tf_turnstile.proofs.OrderLemmas.{view_after, stands_after}

-- one slot has one value
pub one_slot : {B : Type 0} (slots : List (ℕ × Option B)) (b c : B) → slots ≡ (0, Some b) ∷ [] → slots ≡ (0, Some c) ∷ [] → b ≡ c
one_slot {B} slots b c p q =
    let X : ℕ × Option B = (0, Some b) in
    let Y : ℕ × Option B = (0, Some c) in
    let lists : X ∷ [] ≡ Y ∷ [] = sym p ∙ q in
    let heads : X ≡ Y = cc in
    let values : Some b ≡ Some c = ap (λ (z : ℕ × Option B). z.1) heads in cc

module _ {B O E : Type 0} (origin : B → O) (first : B → ℕ) (entries : B → List (ℕ × E)) (opening : Opening B) (slots : ℕ) where
  -- the words change, and turn and count stay as they were: nothing is learned
  pub quiet_keeps : (s : State (Option B) (View B E)) (st : HoldsBetweenSteps origin first entries opening s) (id : ℕ) (v : View B E) → get_elem? s.views id ≡ some v
      → (words : List ℕ) → length words ≡ 3 → slice_index words 0 ≡ slice_index s.words 0 → slice_index words 1 ≡ slice_index s.words 1
      → HoldsBetweenSteps origin first entries opening (record { words = words; homes = s.homes; views = slice_set s.views id v })
  quiet_keeps s st id v at words three turn count =
      let P : List (View B E) → Type 0 = λ views. HoldsBetweenSteps origin first entries opening (record { words = words; homes = s.homes; views = views }) in
      let Q : ℕ → Type 0 = λ n. (i : ℕ) (u : View B E) → get_elem? s.views i ≡ some u → Rattle.tf_turnstile.specs.Order.Fits opening.kept.value st.now st.added n st.by s.views i u in
      subst P (sym (set_again s.views id v at)) (record {
        now = st.now;
        added = st.added;
        by = st.by;
        same = st.same;
        history = st.history;
        numbers = st.numbers;
        passes = st.passes;
        words = three;
        count = count ∙ st.count;
        home = λ e. st.home (sym turn ∙ e);
        out = λ ne. st.out (λ e. ne (turn ∙ e));
        fits = subst Q (sym turn) st.fits;
      })

  -- a load of the count without the value in hand
  pub glance_allowed : (id : ℕ) (m : Me (Option B) (View B E)) (step : Step (Option B)) → Allows (HoldsBetweenSteps origin first entries opening) slots id m 1 (λ n. n) (tells_nothing step m)
  glance_allowed id m step s st one at wide =
      let long = st.words in
      let there : 1 < length s.words = omega (arith, long) in (
        m.0,
        keeps,
        tt,
        quiet_keeps s st id m.0 at (slice_set s.words 1 (slice_index s.words 1)) (length-set s.words 1 (slice_index s.words 1) ∙ long)
            (get_or-set_other s.words 1 0 (slice_index s.words 1) 0 (λ e. omega (arith, e))) (get_or-set_same s.words 1 (slice_index s.words 1) 0 there),
        refl,
      )

  -- a step on the bell
  pub bell_allowed : (id : ℕ) (m : Me (Option B) (View B E)) (step : Step (Option B)) (f : ℕ → ℕ) → Allows (HoldsBetweenSteps origin first entries opening) slots id m 2 f (tells_nothing step m)
  bell_allowed id m step f s st one at wide =
      let long = st.words in
      let n : ℕ = f (slice_index s.words 2) in (
        m.0,
        keeps,
        tt,
        quiet_keeps s st id m.0 at (slice_set s.words 2 n) (length-set s.words 2 n ∙ long)
            (get_or-set_other s.words 2 0 n 0 (λ e. omega (arith, e))) (get_or-set_other s.words 2 1 n 0 (λ e. omega (arith, e))),
        refl,
      )

  -- the exchange out
  pub take_allowed : (turn : ℕ) → 0 < turn → (id : ℕ) (m : Me (Option B) (View B E)) (step : Step (Option B)) (a : B) → m.0.start ≡ Some a → m.0.taken ≡ None → m.1 ≡ []
      → Allows (HoldsBetweenSteps origin first entries opening) slots id m 0 (λ _. turn) (takes_out step m)
  take_allowed turn out id m step a live free none s st one at wide =
      let words : List ℕ = slice_set s.words 0 turn in
      let long : length s.words ≡ 3 = st.words in
      let three : length words ≡ 3 = length-set s.words 0 turn ∙ long in
      let count : slice_index words 1 ≡ first st.now + length (entries st.now) = get_or-set_other s.words 0 1 turn 0 (λ e. omega (arith, e)) ∙ st.count in
      let now : slice_index words 0 ≡ turn = get_or-set_same s.words 0 turn 0 (omega (arith, long)) in
      let out_now : slice_index words 0 ≢ 0 = λ e. omega (arith, now, e, out) in
      let v : View B E = m.0 in
      let f = (st.fits id v at).live a live in
      let there : id < length s.views = there_below s.views id v at in
      dite (ℕ_discrete (slice_index s.words 0) 0)
      (λ home. (
        view_after v v.seen (Some st.now),
        takes 0 (Some st.now),
        st.home home,
        stands_after origin first entries opening s st id v a at live st.now st.added id v.seen (Some st.now) words (slice_set s.homes 0 mathlib.Core.Option.none) st.same st.history (longer_same id st.added) three count
            (λ e. absurd (out_now e)) (λ _. (view_after v v.seen (Some st.now), set_here s.views id (view_after v v.seen (Some st.now)) there, refl))
            (λ i ne e away. absurd (away home)) (λ b e. (cc, refl, out_now)) f.2,
        ((λ _. (st.now, ap (λ (l : List (ℕ × Option B)). (view_after v v.seen (Some st.now), (0, Some st.now) ∷ l)) none)), (λ ne. absurd (ne home))),
      ))
      (λ away. (
        v,
        keeps,
        tt,
        stands_after origin first entries opening s st id v a at live st.now st.added st.by v.seen v.taken words s.homes st.same st.history (longer_same id st.added) three count
            (λ e. absurd (out_now e))
            (λ _. let o = st.out away in let P : List (View B E) → Type 0 = λ views. get_elem? views st.by ≡ some o.0 in (o.0, subst P (sym (set_again s.views id v at)) o.1, o.2))
            (λ i ne e far. (refl, e, out_now)) (λ b e. absurd cc) f.2,
        ((λ home. absurd (away home)), (λ _. refl)),
      ))

  -- the load with the value in hand
  pub look_allowed : (id : ℕ) (m : Me (Option B) (View B E)) (step : Step (Option B)) (a b : B) → m.0.start ≡ Some a → m.0.taken ≡ Some b
      → Allows (HoldsBetweenSteps origin first entries opening) slots id m 1 (λ n. n) (looks origin first entries step m)
  look_allowed id m step a b live held s st one at wide =
      let n : ℕ = slice_index s.words 1 in
      let words : List ℕ = slice_set s.words 1 n in
      let long : length s.words ≡ 3 = st.words in
      let turn : slice_index words 0 ≡ slice_index s.words 0 = get_or-set_other s.words 1 0 n 0 (λ e. omega (arith, e)) in
      let count : slice_index words 1 ≡ n = get_or-set_same s.words 1 n 0 (omega (arith, long)) in
      let v : View B E = m.0 in
      let w : View B E = view_after v st.added v.taken in
      let fit = st.fits id v at in
      let f = fit.live a live in
      let t = fit.taken b held in
      let start_is : a ≡ opening.kept.value = f.0 in
      let now_is : b ≡ st.now = t.0 in
      let there : id < length s.views = there_below s.views id v at in
      let away : slice_index words 0 ≢ 0 = λ e. t.2 (sym turn ∙ e) in (
        w,
        keeps,
        tt,
        stands_after origin first entries opening s st id v a at live st.now st.added st.by st.added v.taken words s.homes st.same st.history (longer_same id st.added) (length-set s.words 1 n ∙ long) (count ∙ st.count)
            (λ e. absurd (away e))
            (λ _. let P : ℕ → Type 0 = λ i. get_elem? (slice_set s.views id w) i ≡ some w in (w, subst P t.1 (set_here s.views id w there), held ∙ ap Some now_is))
            (λ i ne e far. (refl, e, away)) (λ c e. let same : c ≡ b = cc in (same ∙ now_is, t.1, away)) (later_same id st.added),
        (λ x c xs cs. let x_is : x ≡ opening.kept.value = cc in let c_is : c ≡ st.now = cc in record {
          seen = st.added;
          same = ap origin c_is ∙ st.same ∙ ap origin (sym x_is);
          history = ap entries c_is ∙ st.history ∙ ap (λ y. entries y ++ st.added) (sym x_is);
          later = let P : ℕ → Type 0 = λ k. Rattle.tf_turnstile.specs.Numbered.IsLater k v.seen st.added in subst P (sym f.1) f.2;
          count = st.count ∙ ap (λ y. first y + length (entries y)) (sym c_is);
          after = refl;
        }),
      )

  -- the count: what was taken is in the slot again, with entries of the seat's number added
  pub count_allowed : (id : ℕ) (m : Me (Option B) (View B E)) (step : Step (Option B)) (a b kept : B) (n : ℕ) → m.0.start ≡ Some a → m.0.taken ≡ Some b → m.1 ≡ (0, Some kept) ∷ []
      → origin kept ≡ origin b → IsLonger m.0.number (entries b) (entries kept) → n ≡ first kept + length (entries kept)
      → Allows (HoldsBetweenSteps origin first entries opening) slots id m 1 (λ _. n) (λ _. counts origin first entries step m n)
  count_allowed id m step a b kept n live held slot same longer count_is s st one at wide =
      let words : List ℕ = slice_set s.words 1 n in
      let long : length s.words ≡ 3 = st.words in
      let turn : slice_index words 0 ≡ slice_index s.words 0 = get_or-set_other s.words 1 0 n 0 (λ e. omega (arith, e)) in
      let count : slice_index words 1 ≡ n = get_or-set_same s.words 1 n 0 (omega (arith, long)) in
      let v : View B E = m.0 in
      let fit = st.fits id v at in
      let f = fit.live a live in
      let t = fit.taken b held in
      let added : List (ℕ × E) = st.added ++ longer.mine in
      let w : View B E = view_after v added (Some kept) in
      let start_is : a ≡ opening.kept.value = f.0 in
      let now_is : b ≡ st.now = t.0 in
      let history : entries kept ≡ entries opening.kept.value ++ added =
      longer.begins ∙ ap (λ y. entries y ++ longer.mine) now_is ∙ ap (λ l. l ++ longer.mine) st.history ∙ append_assoc (entries opening.kept.value) st.added longer.mine in
      let P : ℕ → Type 0 = λ k. Rattle.tf_turnstile.specs.Numbered.AllBy k longer.mine in
      let more : IsLonger id st.added added = record { mine = longer.mine; begins = refl; own = subst P f.1 longer.own } in
      let there : id < length s.views = there_below s.views id v at in
      let away : slice_index words 0 ≢ 0 = λ e. t.2 (sym turn ∙ e) in (
        w,
        keeps,
        tt,
        stands_after origin first entries opening s st id v a at live kept added id added (Some kept) words s.homes (same ∙ ap origin now_is ∙ st.same) history more (length-set s.words 1 n ∙ long) (count ∙ count_is)
            (λ e. absurd (away e)) (λ _. (w, set_here s.views id w there, refl))
            (λ i ne e far. absurd (ne (e ∙ sym t.1))) (λ c e. (cc, refl, away)) (later_same id added),
        (λ x c xs cs. let x_is : opening.kept.value ≡ x = cc in let c_is : c ≡ kept = one_slot m.1 c kept cs slot in (added, ap entries c_is ∙ history ∙ ap (λ y. entries y ++ added) x_is, ap (λ y. (view_after v added (Some y), m.1)) (sym c_is))),
      )

  -- the exchange home
  pub home_allowed : (id : ℕ) (m : Me (Option B) (View B E)) (step : Step (Option B)) (a kept : B) → slots ≡ 1 → m.0.start ≡ Some a → m.0.taken ≡ Some kept → m.1 ≡ (0, Some kept) ∷ []
      → Allows (HoldsBetweenSteps origin first entries opening) slots id m 0 (λ _. 0) (puts_home step m)
  home_allowed id m step a kept only live held slot s st one at wide =
      let words : List ℕ = slice_set s.words 0 0 in
      let long : length s.words ≡ 3 = st.words in
      let count : slice_index words 1 ≡ first st.now + length (entries st.now) = get_or-set_other s.words 0 1 0 0 (λ e. omega (arith, e)) ∙ st.count in
      let turn : slice_index words 0 ≡ 0 = get_or-set_same s.words 0 0 0 (omega (arith, long)) in
      let v : View B E = m.0 in
      let fit = st.fits id v at in
      let f = fit.live a live in
      let t = fit.taken kept held in
      let homes = slice_set s.homes 0 (some (Some kept)) in
      let now_is : some (some (Some kept)) ≡ some (some (Some st.now)) = ap (λ y. some (some (Some y))) t.0 in
      let P : List (ℕ × Option B) → Type 0 = λ c. HoldsBetweenSteps origin first entries opening (record { words = words; homes = Rattle.atomic_table.specs.Table.put_back s.homes c; views = slice_set s.views id (view_after v v.seen None) }) in (
        view_after v v.seen None,
        gives,
        tt,
        subst P (sym slot) (stands_after origin first entries opening s st id v a at live st.now st.added st.by v.seen None words homes st.same st.history (longer_same id st.added) (length-set s.words 0 0 ∙ long) count
            (λ _. set_here s.homes 0 (some (Some kept)) (omega (arith, one, only)) ∙ now_is) (λ ne. absurd (ne turn))
            (λ i ne e far. absurd (ne (e ∙ sym t.1))) (λ c e. absurd cc) f.2),
        ap (λ c. (view_after v v.seen None, Rattle.atomic_table.specs.Table.rest c)) slot,
      )
