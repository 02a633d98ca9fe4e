-- Each kind of step keeps the rule of the table.
use Rattle.std.proofs.Common.{◌≡◌, ◌≢◌, ℕ, ◌+◌, List, ◌++◌, length, slice_index, slice_set, Option, Some, None, sym, subst, ◌∙◌, inl, inr, arith, length-set}
use mathlib.Core.Option.{some}
use lib.ListN.{get_elem?}
use Rattle.atomic_table.specs.Table.{State}
use Rattle.atomic_table.proofs.Lists.{at_set}
use Rattle.tf_turnstile.specs.declared.rule.View.{View}
use Rattle.tf_turnstile.specs.declared.rule.Opening.{Opening}
use Rattle.tf_turnstile.specs.Numbered.{AreNumberedBelow, IsLater, IsLonger}
use Rattle.tf_turnstile.specs.Order.{AreBack, Fits, HoldsBetweenSteps}
use Rattle.tf_turnstile.proofs.NumberedLemmas.{later_on, below_on, there_below}

-- a view after a step: it may have seen more, and taken or given the value
abbrev pub view_after : {B E : Type 0} → View B E → List (ℕ × E) → Option B → View B E
view_after v seen taken = record v { seen = seen; taken = taken }

module _ {B E : Type 0} where
  -- a live seat's step keeps what is known of those that were given back
  pub back_on : (views : List (View B E)) (id : ℕ) (v w : View B E) (a : B) (added now : List (ℕ × E)) (back : List (List (ℕ × E)))
      → get_elem? views id ≡ some v → v.start ≡ Some a → IsLonger id added now → AreBack added views back → AreBack now (slice_set views id w) back
  back_on views id v w a added now back at live more old i seen e =
      let t = old i seen e in
      let ne : i ≢ id = λ q. let P : ℕ → Type 0 = λ k. get_elem? views k ≡ some v in let none : v.start ≡ None = t.1 v (subst P (sym q) at) in cc in
      (later_on i id seen added now ne t.0 more, λ u here. elim (at_set views id i w u here) [ inl p ↦ absurd (ne p.0) | inr p ↦ t.1 u p.1 ])

  -- a live seat's step keeps what another seat knows
  pub fits_on : (start now now' : B) (added added' : List (ℕ × E)) (turn turn' by by' : ℕ) (views : List (View B E)) (id : ℕ) (v w : View B E) (a : B)
      → get_elem? views id ≡ some v → v.start ≡ Some a → IsLonger id added added'
      → ((i : ℕ) → i ≢ id → i ≡ by → turn ≢ 0 → (now ≡ now') × (i ≡ by') × (turn' ≢ 0))
      → (i : ℕ) (u : View B E) → i ≢ id → Fits start now added turn by views i u → Fits start now' added' turn' by' (slice_set views id w) i u
  fits_on start now now' added added' turn turn' by by' views id v w a at live more others i u ne f =
      let same : length (slice_set views id w) ≡ length views = length-set views id w in record {
        taken = λ b e. let t = f.taken b e in let o = others i ne t.1 t.2 in (t.0 ∙ o.0, o.1, o.2);
        live = λ b e. let t = f.live b e in (t.0, t.1, later_on i id u.seen added added' ne t.2 more);
        spent = f.spent;
        last = λ e. let t = f.last e in (same ∙ t.0, back_on views id v w a added added' u.back at live more t.1);
        ends = λ e. f.ends (sym same ∙ e);
      }

  -- what the seat that makes the step knows after it
  pub fits_here : (start now now' : B) (added added' : List (ℕ × E)) (turn turn' by by' : ℕ) (views : List (View B E)) (id : ℕ) (v : View B E) (a : B) (seen : List (ℕ × E)) (held : Option B)
      → get_elem? views id ≡ some v → v.start ≡ Some a → IsLonger id added added' → Fits start now added turn by views id v
      → ((b : B) → held ≡ Some b → (b ≡ now') × (id ≡ by') × (turn' ≢ 0)) → IsLater id seen added'
      → Fits start now' added' turn' by' (slice_set views id (view_after v seen held)) id (view_after v seen held)
  fits_here start now now' added added' turn turn' by by' views id v a seen held at live more f has later =
      let w : View B E = view_after v seen held in
      let same : length (slice_set views id w) ≡ length views = length-set views id w in record {
        taken = has;
        live = λ b e. let t = f.live b e in (t.0, t.1, later);
        spent = λ e. absurd cc;
        last = λ e. let t = f.last e in (same ∙ t.0, back_on views id v w a added added' v.back at live more t.1);
        ends = λ e. f.ends (sym same ∙ e);
      }

  pub fits_at : (start now : B) (added : List (ℕ × E)) (turn by : ℕ) (views : List (View B E)) (i j : ℕ) (u w : View B E) → i ≡ j → u ≡ w → Fits start now added turn by views i u → Fits start now added turn by views j w
  fits_at start now added turn by views i j u w e f fit =
      let P : ℕ → Type 0 = λ k. Fits start now added turn by views k u in
      let Q : View B E → Type 0 = λ x. Fits start now added turn by views j x in
      subst Q f (subst P e fit)

module _ {B O E : Type 0} (origin : B → O) (first : B → ℕ) (entries : B → List (ℕ × E)) where
  -- a live seat's step on the words and the slot
  pub stands_after : (opening : Opening B) (s : State (Option B) (View B E)) (st : HoldsBetweenSteps origin first entries opening s) (id : ℕ) (v : View B E) (a : B) → get_elem? s.views id ≡ some v → v.start ≡ Some a
      → (now : B) (added : List (ℕ × E)) (by : ℕ) (seen : List (ℕ × E)) (held : Option B) (words : List ℕ) (homes : List (mathlib.Core.Option.Option (Option B)))
      → origin now ≡ origin opening.kept.value → entries now ≡ entries opening.kept.value ++ added → IsLonger id st.added added
      → length words ≡ 3 → slice_index words 1 ≡ first now + length (entries now)
      → (slice_index words 0 ≡ 0 → get_elem? homes 0 ≡ some (some (Some now)))
      → (slice_index words 0 ≢ 0 → (w : View B E) × (get_elem? (slice_set s.views id (view_after v seen held)) by ≡ some w) × (w.taken ≡ Some now))
      → ((i : ℕ) → i ≢ id → i ≡ st.by → slice_index s.words 0 ≢ 0 → (st.now ≡ now) × (i ≡ by) × (slice_index words 0 ≢ 0))
      → ((b : B) → held ≡ Some b → (b ≡ now) × (id ≡ by) × (slice_index words 0 ≢ 0)) → IsLater id seen added
      → HoldsBetweenSteps origin first entries opening (record { words = words; homes = homes; views = slice_set s.views id (view_after v seen held) })
  stands_after opening s st id v a at live now added by seen held words homes same history more three count home out others has later =
      let w : View B E = view_after v seen held in
      let long : length (slice_set s.views id w) ≡ length s.views = length-set s.views id w in
      let Below : ℕ → Type 0 = λ n. AreNumberedBelow n added in record {
        now = now;
        added = added;
        by = by;
        same = same;
        history = history;
        numbers = subst Below (sym long) (below_on id (length s.views) st.added added (there_below s.views id v at) st.numbers more);
        passes = let few = st.passes in omega (arith, long, few);
        words = three;
        count = count;
        home = home;
        out = out;
        fits = λ i u here. elim (at_set s.views id i w u here) as (λ _. Fits opening.kept.value now added (slice_index words 0) by (slice_set s.views id w) i u) [
          | inl p ↦ fits_at opening.kept.value now added (slice_index words 0) by (slice_set s.views id w) id i w u (sym p.0) p.1
              (fits_here opening.kept.value st.now now st.added added (slice_index s.words 0) (slice_index words 0) st.by by s.views id v a seen held at live more (st.fits id v at) has later)
          | inr p ↦ fits_on opening.kept.value st.now now st.added added (slice_index s.words 0) (slice_index words 0) st.by by s.views id v w a at live more others i u p.0 (st.fits i u p.1)
        ];
      }
