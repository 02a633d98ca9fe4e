-- A line has one reading: entries of a plan.
use Rattle.std.proofs.Common.{◌≡◌, ℕ, ◌+◌, ◌<◌, List, [], ◌∷◌, ◌++◌, length, Bool, true, false, Some, None, refl, sym, ap, subst, ◌∙◌, arith, position}
use Rattle.std.specs.Prelude.{codes, ◌||◌, if◌then◌else◌}
use Rattle.std.specs.Str.{bytes_eq}
use Rattle.std.specs.Fmt.{decimal}
use Rattle.std.proofs.lemmas.Fmt.{decimal_injective}
use Rattle.tf_flow.specs.Tree.{same_name}
use Rattle.tf_flow.specs.Plan as numbering
use Rattle.tf_flow.specs.Plan.{PlanValue}
use Rattle.tf_flow.specs.Rules.{first_refusal}
use Rattle.tf_states.specs.declared.record.Entry.{Entry}
use Rattle.tf_states.specs.declared.record.Kind.{Kind}
use Rattle.tf_states.specs.declared.record.Payload.{Payload}
use Rattle.tf_states.specs.declared.record.What.{What}
use Rattle.tf_states.specs.declared.record.What.TheVariants as what
use Rattle.tf_states.specs.declared.state.AtomState.{AtomState}
use Rattle.tf_states.specs.declared.state.FlowState.{FlowState}
use Rattle.tf_model.specs.Plan.{Outline, outline_of, count, is_task, atom_name}
use Rattle.tf_entries.specs.Entries.{is_payload_of, IsAmong, HasItsPayload}
use Rattle.tf_report.specs.Lines.{what_text, part_word, atom_word, flow_word, kind_word, flow_name, payload_text}
use Rattle.tf_audit.specs.Names.{AreNamed}
use Rattle.tf_audit.specs.Verdicts.{IsLineOf}
use Rattle.tf_audit.specs.Words.{is_unbroken, atom_state_named, flow_state_named, resolution_named}
use Rattle.tf_audit.proofs.EventLemmas.{two_words, three_words}
use Rattle.tf_audit.proofs.LineLemmas.{line_words}
use Rattle.tf_audit.proofs.NameLemmas.{atom_found, flow_found, atom_at, flow_at}
use Rattle.tf_audit.proofs.NumberLemmas.{number_unbroken}
use Rattle.tf_audit.proofs.OneLemmas.{snoc_one, payload_breaks, payload_one}
use Rattle.tf_audit.proofs.WordLemmas.{word_one, name_unbroken, atom_word_unbroken, atom_word_named, flow_word_named, kind_word_named}

-- ---- the words of states and kinds

atom_word_one : (s t : AtomState) → atom_word s ≡ atom_word t → s ≡ t
atom_word_one s t is = let both : Some s ≡ Some t = sym (atom_word_named s) ∙ ap atom_state_named is ∙ atom_word_named t in cc

flow_word_one : (s t : FlowState) → flow_word s ≡ flow_word t → s ≡ t
flow_word_one s t is = let both : Some s ≡ Some t = sym (flow_word_named s) ∙ ap flow_state_named is ∙ flow_word_named t in cc

kind_word_one : (s t : Kind) → kind_word s ≡ kind_word t → s ≡ t
kind_word_one s t is = let both : Some s ≡ Some t = sym (kind_word_named s) ∙ ap resolution_named is ∙ kind_word_named t in cc

-- ---- the first word of an event, and what stands behind it

abbrev head_of : Bool → List ℕ
head_of true = codes "task"
head_of false = codes "retry"

abbrev first_word : Outline → What → List ℕ
first_word plan (what.Atom a s held) = head_of (is_task plan a)
first_word plan (what.Flow s) = codes "flow"
first_word plan (what.Resolve g k) = codes "resolve"
first_word plan (what.Restart a) = codes "restart"

abbrev behind_word : Outline → What → List ℕ
behind_word plan (what.Atom a s held) = atom_name plan a ++ 32 ∷ (atom_word s ++ (payload_text held ++ 10 ∷ []))
behind_word plan (what.Flow s) = flow_name plan 0 ++ 32 ∷ (flow_word s ++ 10 ∷ [])
behind_word plan (what.Resolve g k) = flow_name plan g ++ 32 ∷ (kind_word k ++ 10 ∷ [])
behind_word plan (what.Restart a) = atom_name plan a ++ 10 ∷ []

abbrev event_tag : What → ℕ
event_tag (what.Atom a s held) = 1
event_tag (what.Flow s) = 2
event_tag (what.Resolve g k) = 3
event_tag (what.Restart a) = 4

abbrev first_tag : List ℕ → ℕ
first_tag word =
    if bytes_eq word (codes "task") || bytes_eq word (codes "retry") then 1
    else if bytes_eq word (codes "flow") then 2
    else if bytes_eq word (codes "resolve") then 3
    else 4

atom_shape : (task : Bool) (n sw pt : List ℕ) → (part_word task ++ n ++ 32 ∷ sw ++ pt) ++ 10 ∷ [] ≡ head_of task ++ 32 ∷ (n ++ 32 ∷ (sw ++ (pt ++ 10 ∷ [])))
atom_shape true n sw pt = ap (λ (x : List ℕ). codes "task" ++ 32 ∷ x) (three_words n sw pt)
atom_shape false n sw pt = ap (λ (x : List ℕ). codes "retry" ++ 32 ∷ x) (three_words n sw pt)

event_shape : (plan : Outline) (w : What) → what_text plan w ++ 10 ∷ [] ≡ first_word plan w ++ 32 ∷ behind_word plan w
event_shape plan (what.Atom a s held) = atom_shape (is_task plan a) (atom_name plan a) (atom_word s) (payload_text held)
event_shape plan (what.Flow s) = ap (λ (x : List ℕ). codes "flow" ++ 32 ∷ x) (two_words (flow_name plan 0) (flow_word s))
event_shape plan (what.Resolve g k) = ap (λ (x : List ℕ). codes "resolve" ++ 32 ∷ x) (two_words (flow_name plan g) (kind_word k))
event_shape plan (what.Restart a) = refl

head_tag : (task : Bool) → first_tag (head_of task) ≡ 1
head_tag true = refl
head_tag false = refl

tag_is : (plan : Outline) (w : What) → first_tag (first_word plan w) ≡ event_tag w
tag_is plan (what.Atom a s held) = head_tag (is_task plan a)
tag_is plan (what.Flow s) = refl
tag_is plan (what.Resolve g k) = refl
tag_is plan (what.Restart a) = refl

head_unbroken : (task : Bool) → is_unbroken (head_of task) ≡ true
head_unbroken true = refl
head_unbroken false = refl

first_unbroken : (plan : Outline) (w : What) → is_unbroken (first_word plan w) ≡ true
first_unbroken plan (what.Atom a s held) = head_unbroken (is_task plan a)
first_unbroken plan (what.Flow s) = refl
first_unbroken plan (what.Resolve g k) = refl
first_unbroken plan (what.Restart a) = refl

-- two words and what stands behind each
words_one : (u w a b : List ℕ) → is_unbroken u ≡ true → is_unbroken w ≡ true → u ++ 32 ∷ a ≡ w ++ 32 ∷ b → (u ≡ w) × (a ≡ b)
words_one u w a b iu iw is =
    let p = word_one u w (32 ∷ a) (32 ∷ b) iu iw refl refl is in
    let behind : 32 ∷ a ≡ 32 ∷ b = p.1 in
    let tails : a ≡ b = cc in
    (p.0, tails)

entry_one : (e f : Entry) → e.hand ≡ f.hand → e.what ≡ f.what → e ≡ f
entry_one e f hands events = (λ i. record { hand = hands i; what = events i })

module _ (plan : PlanValue) (accepted : first_refusal plan.root plan.store ≡ None) (named : AreNamed (outline_of plan)) where
  atom_one : (a b : ℕ) → a < count (outline_of plan) → b < count (outline_of plan) → atom_name (outline_of plan) a ≡ atom_name (outline_of plan) b → a ≡ b
  atom_one a b below_a below_b is =
      let both : Some a ≡ Some b =
      sym (atom_found plan a (atom_name (outline_of plan) a) accepted (atom_at plan a below_a))
      ∙ ap (λ (n : List ℕ). position (same_name n) (numbering.atoms plan)) is
      ∙ atom_found plan b (atom_name (outline_of plan) b) accepted (atom_at plan b below_b) in
      cc

  flow_one : (g h : ℕ) → g < length (outline_of plan).flows → h < length (outline_of plan).flows → flow_name (outline_of plan) g ≡ flow_name (outline_of plan) h → g ≡ h
  flow_one g h below_g below_h is =
      let both : Some g ≡ Some h =
      sym (flow_found plan g (flow_name (outline_of plan) g) accepted (flow_at plan g below_g))
      ∙ ap (λ (n : List ℕ). position (same_name n) (numbering.flows plan)) is
      ∙ flow_found plan h (flow_name (outline_of plan) h) accepted (flow_at plan h below_h) in
      cc

  entered_one : (a b : ℕ) (s t : AtomState) (h k : Payload) → a < count (outline_of plan) → b < count (outline_of plan) → HasItsPayload (what.Atom a s h) → HasItsPayload (what.Atom b t k)
      → behind_word (outline_of plan) (what.Atom a s h) ≡ behind_word (outline_of plan) (what.Atom b t k) → what.Atom a s h ≡ what.Atom b t k
  entered_one a b s t h k below_a below_b ga gb is =
      let p = words_one (atom_name (outline_of plan) a) (atom_name (outline_of plan) b) (atom_word s ++ (payload_text h ++ 10 ∷ [])) (atom_word t ++ (payload_text k ++ 10 ∷ []))
      (name_unbroken (atom_name (outline_of plan) a) (named.atoms a below_a)) (name_unbroken (atom_name (outline_of plan) b) (named.atoms b below_b)) is in
      let q = word_one (atom_word s) (atom_word t) (payload_text h ++ 10 ∷ []) (payload_text k ++ 10 ∷ []) (atom_word_unbroken s) (atom_word_unbroken t) (payload_breaks h) (payload_breaks k) p.1 in
      let atoms : a ≡ b = atom_one a b below_a below_b p.0 in
      let states : s ≡ t = atom_word_one s t q.0 in
      let helds : h ≡ k = payload_one t h k (subst (λ (x : AtomState). is_payload_of x h ≡ true) states ga.1) gb.1 ga.2 gb.2 q.1 in
      (λ i. what.Atom (atoms i) (states i) (helds i))

  event_one : (w v : What) → IsAmong (count (outline_of plan)) (length (outline_of plan).flows) w → IsAmong (count (outline_of plan)) (length (outline_of plan).flows) v → HasItsPayload w → HasItsPayload v
      → event_tag w ≡ event_tag v → behind_word (outline_of plan) w ≡ behind_word (outline_of plan) v → w ≡ v
  event_one (what.Atom a s h) (what.Atom b t k) aw av gw gv same is = entered_one a b s t h k aw av gw gv is
  event_one (what.Flow s) (what.Flow t) aw av gw gv same is =
      let n = flow_name (outline_of plan) 0 in
      let p = words_one n n (flow_word s ++ 10 ∷ []) (flow_word t ++ 10 ∷ []) (name_unbroken n (named.flows 0 named.root)) (name_unbroken n (named.flows 0 named.root)) is in
      ap what.Flow (flow_word_one s t (snoc_one (flow_word s) (flow_word t) 10 10 p.1).0)
  event_one (what.Resolve g k) (what.Resolve h l) aw av gw gv same is =
      let p = words_one (flow_name (outline_of plan) g) (flow_name (outline_of plan) h) (kind_word k ++ 10 ∷ []) (kind_word l ++ 10 ∷ [])
      (name_unbroken (flow_name (outline_of plan) g) (named.flows g aw)) (name_unbroken (flow_name (outline_of plan) h) (named.flows h av)) is in
      let flows : g ≡ h = flow_one g h aw av p.0 in
      let kinds : k ≡ l = kind_word_one k l (snoc_one (kind_word k) (kind_word l) 10 10 p.1).0 in
      (λ i. what.Resolve (flows i) (kinds i))
  event_one (what.Restart a) (what.Restart b) aw av gw gv same is =
      ap what.Restart (atom_one a b aw av (snoc_one (atom_name (outline_of plan) a) (atom_name (outline_of plan) b) 10 10 is).0)
  event_one (what.Atom a s h) (what.Flow t) aw av gw gv same is = absurd (omega (arith, same))
  event_one (what.Atom a s h) (what.Resolve g k) aw av gw gv same is = absurd (omega (arith, same))
  event_one (what.Atom a s h) (what.Restart b) aw av gw gv same is = absurd (omega (arith, same))
  event_one (what.Flow s) (what.Atom b t k) aw av gw gv same is = absurd (omega (arith, same))
  event_one (what.Flow s) (what.Resolve g k) aw av gw gv same is = absurd (omega (arith, same))
  event_one (what.Flow s) (what.Restart b) aw av gw gv same is = absurd (omega (arith, same))
  event_one (what.Resolve g k) (what.Atom b t h) aw av gw gv same is = absurd (omega (arith, same))
  event_one (what.Resolve g k) (what.Flow t) aw av gw gv same is = absurd (omega (arith, same))
  event_one (what.Resolve g k) (what.Restart b) aw av gw gv same is = absurd (omega (arith, same))
  event_one (what.Restart a) (what.Atom b t k) aw av gw gv same is = absurd (omega (arith, same))
  event_one (what.Restart a) (what.Flow t) aw av gw gv same is = absurd (omega (arith, same))
  event_one (what.Restart a) (what.Resolve g k) aw av gw gv same is = absurd (omega (arith, same))

  what_one : (w v : What) → IsAmong (count (outline_of plan)) (length (outline_of plan).flows) w → IsAmong (count (outline_of plan)) (length (outline_of plan).flows) v → HasItsPayload w → HasItsPayload v
      → what_text (outline_of plan) w ++ 10 ∷ [] ≡ what_text (outline_of plan) v ++ 10 ∷ [] → w ≡ v
  what_one w v aw av gw gv is =
      let p = words_one (first_word (outline_of plan) w) (first_word (outline_of plan) v) (behind_word (outline_of plan) w) (behind_word (outline_of plan) v) (first_unbroken (outline_of plan) w) (first_unbroken (outline_of plan) v)
      (sym (event_shape (outline_of plan) w) ∙ is ∙ event_shape (outline_of plan) v) in
      event_one w v aw av gw gv (sym (tag_is (outline_of plan) w) ∙ ap first_tag p.0 ∙ tag_is (outline_of plan) v) p.1

  -- two entries that have one line are one, with one number
  pub line_one : (n m : ℕ) (e f : Entry) (text : List ℕ) → IsLineOf (outline_of plan) n e text → IsLineOf (outline_of plan) m f text → (n ≡ m) × (e ≡ f)
  line_one n m e f text one two =
      let small = one.entry.hand in
      let small_too = two.entry.hand in
      let p = words_one (decimal n) (decimal m) (decimal e.hand ++ 32 ∷ (what_text (outline_of plan) e.what ++ 10 ∷ [])) (decimal f.hand ++ 32 ∷ (what_text (outline_of plan) f.what ++ 10 ∷ []))
      (number_unbroken n one.fits) (number_unbroken m two.fits) (sym (line_words (outline_of plan) n e text one.printed) ∙ line_words (outline_of plan) m f text two.printed) in
      let q = words_one (decimal e.hand) (decimal f.hand) (what_text (outline_of plan) e.what ++ 10 ∷ []) (what_text (outline_of plan) f.what ++ 10 ∷ [])
      (number_unbroken e.hand (omega arith)) (number_unbroken f.hand (omega arith)) p.1 in (
        decimal_injective n m one.fits two.fits p.0,
        entry_one e f (decimal_injective e.hand f.hand (omega arith) (omega arith) q.0) (what_one e.what f.what one.entry.among two.entry.among one.entry.payload two.entry.payload q.1),
      )
