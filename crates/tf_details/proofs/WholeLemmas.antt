-- A book is legal element by element exactly where it is as a whole.
use Rattle.std.proofs.Common.{◌≡◌, ◌≤◌, ◌<◌, inl, inr, ℕ, zero, suc, ◌+◌, List, [], ◌∷◌, length, get_or, Bool, true, false, cond, Option, Some, None, refl, sym, ap, ◌∙◌, subst, arith, length-append, slice_get, position}
use Rattle.std.specs.Prelude.{nat_eq, not, if◌then◌else◌}
use Rattle.std.specs.Cmp.Lexicographic.{same_text}
use Rattle.std.specs.List.{position_or_len}
use Rattle.std.proofs.lemmas.Bool.{eq-eqb, lt-ltb}
use Rattle.std.proofs.lemmas.Cmp.{nat_list_eq_equiv}
use Rattle.std.proofs.lemmas.List.Quantifiers.{position-Some}
use Rattle.std.proofs.lemmas.Option.{slice_get_within, slice_get-get_or}
use Rattle.tf_flow.specs.Plan.{PlanValue}
use Rattle.tf_states.specs.declared.record.Entry.{Entry}
use Rattle.tf_details.specs.Elements.{Element, detail, entry, details, plan_of, history, detail_name, has_name, number_among, IsHistoryOf, MayBegin, MayFollow, IsLegalBook}
use Rattle.tf_details.specs.Whole.{AreNumbered, IsLegalAsAWhole}
use Rattle.tf_details.proofs.ElementLemmas.{number_below, few_details}
use Rattle.tf_details.proofs.BookLemmas.{at_push, at_older, at_last, history_legal}

-- ---- the first that passes a test

-- where the test is true of the first one or else stands further on
not_later : (b : Bool) (n i : ℕ) → n ≤ i → cond (not b) (1 + n) 0 ≤ suc i
not_later true n i le = omega arith
not_later false n i le = omega (arith, le)

passed : {A : Type 0} (test : A → Bool) (xs : List A) (i : ℕ) (x : A) → slice_get xs i ≡ Some x → test x ≡ true → position_or_len test xs ≤ i
passed test [] i x is true_of = absurd (cc)
passed {A} test (a ∷ xs) zero x is true_of =
    let same : a ≡ x = cc in
    let here : position_or_len test (a ∷ xs) ≡ 0 = ap (λ (b : Bool). cond (not b) (1 + position_or_len test xs) 0) (ap test same ∙ true_of) in omega (arith, here)
passed test (a ∷ xs) (suc i) x is true_of = not_later (test a) (position_or_len test xs) i (passed test xs i x is true_of)

-- none passes it
none_passes : {A : Type 0} (test : A → Bool) (xs : List A) (i : ℕ) (x : A) → position test xs ≡ None → slice_get xs i ≡ Some x → test x ≡ true → ⊥
none_passes test xs i x none is true_of =
    let early : position_or_len test xs < length xs = omega (arith, passed test xs i x is true_of, slice_get_within xs i x is) in
    let found : position test xs ≡ Some (position_or_len test xs) = ap (λ (b : Bool). cond b (Some (position_or_len test xs)) None) (lt-ltb (position_or_len test xs) (length xs) early) in
    let clash : ◌≡◌ {A = Option ℕ} None (Some (position_or_len test xs)) = sym none ∙ found in cc

-- no detail has the name of a new one
pub apart : (before : List Element) (plan : PlanValue) (i : ℕ) (p : PlanValue) → MayBegin before plan → plan_of before i ≡ Some p → detail_name p ≡ detail_name plan → ⊥
apart before plan i p may is same =
    none_passes (has_name (detail_name plan)) (details before) i p may.unnamed is (ap (λ (own : List ℕ). has_name own p) (sym same) ∙ nat_list_eq_equiv.refl (detail_name p))

-- ---- a legal book is one as a whole

names_once : (book : List Element) (i j : ℕ) (p q : PlanValue) → IsLegalBook book → plan_of book i ≡ Some p → plan_of book j ≡ Some q → detail_name p ≡ detail_name q → i ≡ j
names_once [] i j p q legal is js same = absurd (cc)
names_once (detail r ∷ book) i j p q legal is js same = elim (at_push (details book) r i p is) [
  | inl first ↦ elim (at_push (details book) r j q js) [
    | inl second ↦ names_once book i j p q legal.1 first second same
    | inr last ↦ absurd (apart book r i p legal.0 first (same ∙ sym (ap detail_name last.1)))
  ]
  | inr new ↦ elim (at_push (details book) r j q js) [
    | inl second ↦ absurd (apart book r j q legal.0 second (sym same ∙ sym (ap detail_name new.1)))
    | inr last ↦ new.0 ∙ sym last.0
  ]
]
names_once (entry number e ∷ book) i j p q legal is js same = names_once book i j p q legal.1 is js same

all_numbered : (book : List Element) → IsLegalBook book → AreNumbered book
all_numbered [] legal = tt
all_numbered (detail plan ∷ book) legal = all_numbered book legal.1
all_numbered (entry number e ∷ book) legal = (number_below book number legal.0.plan legal.0.of_detail, all_numbered book legal.1)

pub legal_whole : (book : List Element) → IsLegalBook book → IsLegalAsAWhole book
legal_whole book legal = record {
  histories = λ n p is. history_legal book n p legal is;
  few = few_details book legal;
  names = λ i j p q is js same. names_once book i j p q legal is js same;
  numbered = all_numbered book legal;
}

-- ---- a book that is legal as a whole is so element by element

-- something stands at each place
some_at : {A : Type 0} (xs : List A) (n : ℕ) → n < length xs → (x : A) × (slice_get xs n ≡ Some x)
some_at [] n below = absurd (omega (arith, below))
some_at (a ∷ xs) zero below = (a, refl)
some_at (a ∷ xs) (suc n) below = some_at xs n (omega (arith, below))

-- the others are before a new detail as with it
before_detail : (plan : PlanValue) (book : List Element) → IsLegalAsAWhole (detail plan ∷ book) → IsLegalAsAWhole book
before_detail plan book w = record {
  histories = λ n p is. w.histories n p (at_older (details book) plan n p is);
  few = omega (arith, w.few, length-append (details book) (plan ∷ []));
  names = λ i j p q is js same. w.names i j p q (at_older (details book) plan i p is) (at_older (details book) plan j q js) same;
  numbered = w.numbered;
}

-- no detail before has the name of a new one
unnamed_before : (plan : PlanValue) (book : List Element) → IsLegalAsAWhole (detail plan ∷ book) → (o : Option ℕ) → number_among (details book) (detail_name plan) ≡ o → o ≡ None
unnamed_before plan book w None is = refl
unnamed_before plan book w (Some i) is =
    let found = position-Some (has_name (detail_name plan)) (details book) i plan is in
    let own = get_or (details book) i plan in
    let at : plan_of book i ≡ Some own = slice_get-get_or (details book) i plan found.0 in
    let same : i ≡ length (details book) = w.names i (length (details book)) own plan (at_older (details book) plan i own at) (at_last (details book) plan) (same_text (detail_name own) (detail_name plan) (sym found.1)) in
    absurd (omega (arith, same, found.0))

may_begin : (plan : PlanValue) (book : List Element) → IsLegalAsAWhole (detail plan ∷ book) → MayBegin book plan
may_begin plan book w =
    let h = w.histories (length (details book)) plan (at_last (details book) plan) in
    record {
      accepted = h.accepted;
      limits = h.limits;
      runs = h.runs;
      few = omega (arith, w.few, length-append (details book) (plan ∷ []));
      unnamed = unnamed_before plan book w (number_among (details book) (detail_name plan)) refl;
    }

-- a history before its last entry
shorter : (plan : PlanValue) (e : Entry) (past : List Entry) (b : Bool) → IsHistoryOf plan (if b then e ∷ past else past) → IsHistoryOf plan past
shorter plan e past true h = record { accepted = h.accepted; limits = h.limits; runs = h.runs; legal = h.legal.1; forms = h.forms.1 }
shorter plan e past false h = h

before_entry : (number : ℕ) (e : Entry) (book : List Element) → IsLegalAsAWhole (entry number e ∷ book) → IsLegalAsAWhole book
before_entry number e book w = record {
  histories = λ n p is. shorter p e (history n book) (nat_eq number n) (w.histories n p is);
  few = w.few;
  names = w.names;
  numbered = w.numbered.1;
}

may_follow : (number : ℕ) (e : Entry) (book : List Element) → IsLegalAsAWhole (entry number e ∷ book) → MayFollow book number e
may_follow number e book w =
    let some = some_at (details book) number w.numbered.0 in
    let h : IsHistoryOf some.0 (e ∷ history number book) =
    subst (λ (b : Bool). IsHistoryOf some.0 (if b then e ∷ history number book else history number book)) (eq-eqb number number refl) (w.histories number some.0 some.1) in
    record { plan = some.0; of_detail = some.1; step = h.legal.0; form = h.forms.0 }

pub whole_legal : (book : List Element) → IsLegalAsAWhole book → IsLegalBook book
whole_legal [] w = tt
whole_legal (detail plan ∷ book) w = (may_begin plan book w, whole_legal book (before_detail plan book w))
whole_legal (entry number e ∷ book) w = (may_follow number e book w, whole_legal book (before_entry number e book w))
