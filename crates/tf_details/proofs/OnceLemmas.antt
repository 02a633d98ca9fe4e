-- Bodies are those of one legal book, as far as it tells something; and none of them is refused.
use Rattle.std.proofs.Common.{◌≡◌, ◌⊎◌, ◌<◌, ◌^◌, inl, inr, ℕ, ◌+◌, List, [], ◌∷◌, ◌++◌, length, map, Bool, cond, Option, Some, None, refl, sym, ap, ◌∙◌, subst, arith, slice_get, position}
use Rattle.std.specs.Prelude.{nat_eq, nat_lt, if◌then◌else◌, not, option_map}
use Rattle.std.specs.List.{position_or_len}
use Rattle.std.proofs.lemmas.List.{length-map, map-append}
use Rattle.std.proofs.lemmas.Option.{slice_get-map}
use Rattle.tf_flow.specs.Plan.{PlanValue, WrittenPlan}
use Rattle.tf_flow.specs.Tree.{same_name as is_same_name}
use Rattle.tf_states.specs.declared.record.Entry.{Entry}
use Rattle.tf_entries.specs.Entries.{entry_bytes}
use Rattle.tf_entries.specs.Plans.{plan_bytes}
use Rattle.tf_entries.specs.declared.heads.Head.TheVariants as head
use Rattle.tf_entries.proofs.HeadLemmas.{head_one}
use Rattle.tf_model.specs.History.{snapshot}
use Rattle.tf_model.specs.Plan.{Outline, outline_of}
use Rattle.tf_model.specs.Steps.{Step}
use Rattle.tf_details.specs.Elements.{Element, detail, entry, details, plan_of, history, detail_name, has_name, number_among, element_bytes, bodies_of, IsHistoryOf, MayBegin, MayFollow, MayStand, IsLegalBook, no_form, no_run, IsNoDetail, no_plan, too_many, name_taken, IsNoEntry, no_detail, no_step, IsNoElement, no_head, bad_detail, bad_entry, CannotFollow}
use Rattle.tf_details.specs.Whole.{plan_written, AreAlike}
use Rattle.tf_details.proofs.ElementLemmas.{number_below, few_details}
use Rattle.tf_details.proofs.BookLemmas.{history_legal}
use Rattle.tf_details.proofs.EntryLemmas.{entries_of}
use Rattle.tf_details.proofs.FormLemmas.{keeps_limits, same_written, same_outline, same_run, same_name, name_written, name_told, form_one}

-- ---- lists

-- nothing ends with one more
not_empty : {A : Type 0} (xs ys : List A) (x : A) → xs ++ x ∷ ys ≡ [] → ⊥
not_empty [] ys x is = cc
not_empty (a ∷ xs) ys x is = cc

-- lists that end with one more are the same before it, and in it
last_same : {A : Type 0} (xs ys : List A) (x y : A) → xs ++ x ∷ [] ≡ ys ++ y ∷ [] → (xs ≡ ys) × (x ≡ y)
last_same [] [] x y is = (refl, (let same : x ≡ y = cc in same))
last_same [] (b ∷ ys) x y is = absurd (not_empty ys [] y (let rest : [] ≡ ys ++ y ∷ [] = cc in sym rest))
last_same (a ∷ xs) [] x y is = absurd (not_empty xs [] x (let rest : xs ++ x ∷ [] ≡ [] = cc in rest))
last_same {A} (a ∷ xs) (b ∷ ys) x y is =
    let first : a ≡ b = cc in
    let rest = last_same xs ys x y (let rest : xs ++ x ∷ [] ≡ ys ++ y ∷ [] = cc in rest) in
    (ap (λ (z : A). z ∷ xs) first ∙ ap (λ (l : List A). b ∷ l) rest.0, rest.1)

-- one of a list that ends with one more is that one, or stands before it
splits : {A : Type 0} (xs before after : List A) (x y : A) → xs ++ x ∷ [] ≡ before ++ y ∷ after → ((xs ≡ before) × (x ≡ y)) ⊎ ((rest : List A) × (xs ≡ before ++ y ∷ rest))
splits [] [] after x y is = inl (refl, (let same : x ≡ y = cc in same))
splits [] (b ∷ before) after x y is = absurd (not_empty before after y (let rest : [] ≡ before ++ y ∷ after = cc in sym rest))
splits {A} (a ∷ xs) [] after x y is = inr (xs, ap (λ (z : A). z ∷ xs) (let first : a ≡ y = cc in first))
splits {A} (a ∷ xs) (b ∷ before) after x y is =
    let first : a ≡ b = cc in
    elim (splits xs before after x y (let rest : xs ++ x ∷ [] ≡ before ++ y ∷ after = cc in rest)) [
      | inl same ↦ inl (ap (λ (z : A). z ∷ xs) first ∙ ap (λ (l : List A). b ∷ l) same.0, same.1)
      | inr some ↦ inr (some.0, ap (λ (z : A). z ∷ xs) first ∙ ap (λ (l : List A). b ∷ l) some.1)
    ]

-- what a mapped option came from
mapped_from : {A B : Type 0} (f : A → B) (o : Option A) (y : B) → option_map f o ≡ Some y → (x : A) × (o ≡ Some x) × (f x ≡ y)
mapped_from f None y is = absurd (cc)
mapped_from f (Some x) y is = (x, refl, (let same : f x ≡ y = cc in same))

-- ---- books alike

pub as_many : (a b : List Element) → AreAlike a b → length (details a) ≡ length (details b)
as_many a b alike = sym (length-map (details a) plan_written) ∙ (ap length alike.plans ∙ length-map (details b) plan_written)

-- the plan of the same number is written alike
pub plan_alike : (a b : List Element) (n : ℕ) (p : PlanValue) → AreAlike a b → plan_of b n ≡ Some p → (q : PlanValue) × (plan_of a n ≡ Some q) × (plan_written q ≡ plan_written p)
plan_alike a b n p alike is =
    mapped_from plan_written (plan_of a n) (plan_written p)
    (sym (slice_get-map plan_written (details a) n) ∙ (ap (λ (l : List WrittenPlan). slice_get l n) alike.plans ∙ (slice_get-map plan_written (details b) n ∙ ap (option_map plan_written) is)))

abbrev writes_name : List ℕ → WrittenPlan → Bool
writes_name name w = is_same_name (name_written w.root) name

first_written : (name : List ℕ) (plans : List PlanValue) → position_or_len (has_name name) plans ≡ position_or_len (writes_name name) (map plan_written plans)
first_written name [] = refl
first_written name (p ∷ plans) =
    ap (λ (b : Bool). cond (not b) (1 + position_or_len (has_name name) plans) 0) (ap (λ (own : List ℕ). is_same_name own name) (sym (name_told p)))
    ∙ ap (λ (n : ℕ). cond (not (writes_name name (plan_written p))) (1 + n) 0) (first_written name plans)

abbrev found_within : ℕ → ℕ → Option ℕ
found_within n len = cond (nat_lt n len) (Some n) None

named_written : (name : List ℕ) (plans : List PlanValue) → number_among plans name ≡ position (writes_name name) (map plan_written plans)
named_written name plans =
    ap (λ (n : ℕ). found_within n (length plans)) (first_written name plans)
    ∙ ap (λ (len : ℕ). found_within (position_or_len (writes_name name) (map plan_written plans)) len) (sym (length-map plans plan_written))

pub named_alike : (a b : List Element) (name : List ℕ) → AreAlike a b → number_among (details a) name ≡ number_among (details b) name
named_alike a b name alike =
    named_written name (details a) ∙ (ap (λ (l : List WrittenPlan). position (writes_name name) l) alike.plans ∙ sym (named_written name (details b)))

-- ---- one book

-- a number of a legal entry has 16 bits
short_number : (book : List Element) (n : ℕ) (e : Entry) → IsLegalBook book → MayFollow book n e → n < 2 ^ 16
short_number book n e legal may = omega (arith, number_below book n may.plan may.of_detail, few_details book legal)

head_apart : (n : ℕ) → head.Detail ≡ head.Entry n → ⊥
head_apart n is = cc

same_number : (n m : ℕ) → head.Entry n ≡ head.Entry m → n ≡ m
same_number n m is = cc

one_alike : (x y : Element) (a b : List Element) → MayStand a x → MayStand b y → IsLegalBook a → IsLegalBook b → AreAlike a b → element_bytes x ≡ element_bytes y
    → AreAlike (x ∷ a) (y ∷ b)
one_alike (detail p) (detail q) a b may might legal_a legal_b alike is =
    let form = (head_one head.Detail head.Detail (plan_bytes p) (plan_bytes q) tt tt is).1 in
    record {
      plans = map-append plan_written (details a) (p ∷ [])
          ∙ (ap (λ (l : List WrittenPlan). l ++ plan_written p ∷ []) alike.plans
          ∙ (ap (λ (w : WrittenPlan). map plan_written (details b) ++ w ∷ []) (same_written p q may.accepted may.limits might.accepted might.limits form)
          ∙ sym (map-append plan_written (details b) (q ∷ []))));
      histories = alike.histories;
    }
one_alike (detail p) (entry m f) a b may might legal_a legal_b alike is =
    absurd (head_apart m (head_one head.Detail (head.Entry m) (plan_bytes p) (entry_bytes f) tt (short_number b m f legal_b might) is).0)
one_alike (entry n e) (detail q) a b may might legal_a legal_b alike is =
    absurd (head_apart n (sym (head_one (head.Entry n) head.Detail (entry_bytes e) (plan_bytes q) (short_number a n e legal_a may) tt is).0))
one_alike (entry n e) (entry m f) a b may might legal_a legal_b alike is =
    let both = head_one (head.Entry n) (head.Entry m) (entry_bytes e) (entry_bytes f) (short_number a n e legal_a may) (short_number b m f legal_b might) is in
    record {
      plans = alike.plans;
      histories = λ k. ap (λ (i : ℕ). if nat_eq i k then e ∷ history k a else history k a) (same_number n m both.0)
          ∙ (ap (λ (x : Entry). if nat_eq m k then x ∷ history k a else history k a) (form_one e f may.form might.form both.1)
          ∙ ap (λ (l : List Entry). if nat_eq m k then f ∷ l else l) (alike.histories k));
    }

pub read_once : (a b : List Element) → IsLegalBook a → IsLegalBook b → bodies_of a ≡ bodies_of b → AreAlike a b
read_once [] [] legal_a legal_b is = record { plans = refl; histories = λ n. refl }
read_once [] (y ∷ b) legal_a legal_b is = absurd (not_empty (bodies_of b) [] (element_bytes y) (sym is))
read_once (x ∷ a) [] legal_a legal_b is = absurd (not_empty (bodies_of a) [] (element_bytes x) is)
read_once (x ∷ a) (y ∷ b) legal_a legal_b is =
    let both = last_same (bodies_of a) (bodies_of b) (element_bytes x) (element_bytes y) is in
    one_alike x y a b legal_a.0 legal_b.0 legal_a.1 legal_b.1 (read_once a b legal_a.1 legal_b.1 both.0) both.1

-- ---- no body of a legal book is refused

-- a detail that may begin
detail_kept : (other book : List Element) (p : PlanValue) (form : List ℕ) → AreAlike other book → MayBegin book p → plan_bytes p ≡ form → IsNoDetail other form → ⊥
detail_kept other book p form alike may is (no_plan (no_form none)) = none p may.accepted (keeps_limits p may.limits) is
detail_kept other book p form alike may is (no_plan (no_run q accepted limits at cannot)) =
    cannot (same_run q p (same_written q p accepted limits may.accepted may.limits (at ∙ sym is)) may.runs)
detail_kept other book p form alike may is (too_many many) = omega (arith, many, may.few, as_many other book alike)
detail_kept other book p form alike may is (name_taken q accepted limits at taken) =
    let name = same_name q p (same_written q p accepted limits may.accepted may.limits (at ∙ sym is)) in
    taken (named_alike other book (detail_name q) alike ∙ (ap (number_among (details book)) name ∙ may.unnamed))

-- an entry that may follow
entry_kept : (other book : List Element) (n : ℕ) (e : Entry) (form : List ℕ) → IsLegalBook other → AreAlike other book → MayFollow book n e → entry_bytes e ≡ form → IsNoEntry other n form → ⊥
entry_kept other book n e form legal alike may is (no_detail none) =
    let some = plan_alike other book n may.plan alike may.of_detail in
    let clash : ◌≡◌ {A = Option PlanValue} None (Some some.0) = sym none ∙ some.1 in cc
entry_kept other book n e form legal alike may is (no_step q at none) =
    let some = plan_alike other book n may.plan alike may.of_detail in
    let both : Some some.0 ≡ Some q = sym some.1 ∙ at in
    let own : some.0 ≡ q = cc in
    let outline : outline_of q ≡ outline_of may.plan = ap outline_of (sym own) ∙ same_outline some.0 may.plan some.2 in
    let step : Step (outline_of q) (snapshot (outline_of q) (history n other)) e =
    subst (λ (o : Outline). Step o (snapshot o (history n other)) e) (sym outline)
    (subst (λ (l : List Entry). Step (outline_of may.plan) (snapshot (outline_of may.plan) l) e) (sym (alike.histories n)) may.step) in
    let h = history_legal other n q legal at in
    let longer : IsHistoryOf q (e ∷ history n other) = record { accepted = h.accepted; limits = h.limits; runs = h.runs; legal = (step, h.legal); forms = (may.form, h.forms) } in
    none e (entries_of longer).0 step is

element_kept : (element : Element) (other book : List Element) (body : List ℕ) → MayStand book element → IsLegalBook book → IsLegalBook other → AreAlike other book → body ≡ element_bytes element
    → IsNoElement other body → ⊥
element_kept (detail p) other book body may legal legal_o alike is (no_head none) = none head.Detail (record { is_head = tt; rest = plan_bytes p; prefix = is })
element_kept (detail p) other book body may legal legal_o alike is (bad_detail form at bad) =
    detail_kept other book p form alike may (head_one head.Detail head.Detail (plan_bytes p) form tt tt (sym is ∙ at)).1 bad
element_kept (detail p) other book body may legal legal_o alike is (bad_entry n form short at bad) =
    head_apart n (head_one head.Detail (head.Entry n) (plan_bytes p) form tt short (sym is ∙ at)).0
element_kept (entry n e) other book body may legal legal_o alike is (no_head none) = none (head.Entry n) (record { is_head = short_number book n e legal may; rest = entry_bytes e; prefix = is })
element_kept (entry n e) other book body may legal legal_o alike is (bad_detail form at bad) =
    head_apart n (sym (head_one (head.Entry n) head.Detail (entry_bytes e) form (short_number book n e legal may) tt (sym is ∙ at)).0)
element_kept (entry n e) other book body may legal legal_o alike is (bad_entry m form short at bad) =
    let both = head_one (head.Entry n) (head.Entry m) (entry_bytes e) form (short_number book n e legal may) short (sym is ∙ at) in
    entry_kept other book n e form legal_o alike may both.1 (subst (λ (k : ℕ). IsNoEntry other k form) (sym (same_number n m both.0)) bad)

pub never_refused : (book : List Element) (before after : List (List ℕ)) (body : List ℕ) → IsLegalBook book → bodies_of book ≡ before ++ body ∷ after → ¬ (CannotFollow before body)
never_refused [] before after body legal is = λ cannot. not_empty before after body (sym is)
never_refused (element ∷ book) before after body legal is = λ cannot.
    elim (splits (bodies_of book) before after (element_bytes element) body is) [
      | inl same ↦ element_kept element cannot.book book body legal.0 legal.1 cannot.legal (read_once cannot.book book cannot.legal legal.1 (sym cannot.bodies_are ∙ sym same.0)) (sym same.1) cannot.cannot
      | inr some ↦ never_refused book before some.0 body legal.1 some.1 cannot
    ]
