-- The bodies of a book of one flow with heads before them are those of a book of several, so that the laws of these hold of it too.
use Rattle.std.proofs.Common.{◌≡◌, ◌∷◌, [], ◌++◌, ℕ, List, map, slice_get, Option, Some, inl, inr, refl, sym, ap, ◌∙◌, subst, arith}
use Rattle.std.proofs.lemmas.List.{map-append}
use Rattle.tf_flow.specs.Plan.{PlanValue, WrittenPlan}
use Rattle.tf_states.specs.declared.record.Entry.{Entry}
use Rattle.tf_entries.specs.Entries.{entry_bytes}
use Rattle.tf_entries.specs.Heads.{head_bytes}
use Rattle.tf_entries.specs.declared.heads.Head.TheVariants as head
use Rattle.tf_details.specs.Elements.{Element, bodies_of, history, IsHistoryOf, IsLegalBook, IsNoStep, no_plan, no_step, bad_detail, bad_entry}
use Rattle.tf_details.specs.Elements as details
use Rattle.tf_details.specs.Whole.{plan_written, AreAlike}
use Rattle.tf_journal.specs.Format.{Recovered, bodies}
use Rattle.tf_records.specs.Refusing.{no_journal, bad_body}
use Rattle.tf_migration.specs.Migrates.{IsBookOfFlow, old_bodies, carried, new_bodies, HoldsFlow, HoldsNoFlow, CannotFollow, first, later, IsNoBook}
use Rattle.tf_migration.proofs.FlowLemmas.{carried_plan, carried_past, carried_legal}

-- the head of a detail before a form, or that of an entry of detail 0
abbrev of_detail : List ℕ → List ℕ
of_detail form = head_bytes head.Detail ++ form

abbrev of_entry : List ℕ → List ℕ
of_entry form = head_bytes (head.Entry 0) ++ form

-- the one before the first body, and the other before each other
abbrev pub headed : List (List ℕ) → List (List ℕ)
headed [] = []
headed (body ∷ others) = of_detail body ∷ map of_entry others

-- bodies behind some
headed_on : (body : List ℕ) (others more : List (List ℕ)) → headed ((body ∷ others) ++ more) ≡ headed (body ∷ others) ++ map of_entry more
headed_on body others more = ap (λ (l : List (List ℕ)). of_detail body ∷ l) (map-append of_entry others more)

-- there is a first body
begins : (plan : PlanValue) (past : List Entry) → (body : List ℕ) × (others : List (List ℕ)) × (old_bodies plan past ≡ body ∷ others)
begins plan [] = (_, [], refl)
begins plan (e ∷ past) =
    let b = begins plan past in
    (b.0, b.1 ++ entry_bytes e ∷ [], ap (λ (l : List (List ℕ)). l ++ entry_bytes e ∷ []) b.2)

headed_more : (plan : PlanValue) (past : List Entry) (more : List (List ℕ)) → headed (old_bodies plan past ++ more) ≡ headed (old_bodies plan past) ++ map of_entry more
headed_more plan past more =
    let b = begins plan past in
    subst (λ (l : List (List ℕ)). headed (l ++ more) ≡ headed l ++ map of_entry more) (sym b.2) (headed_on b.0 b.1 more)

-- the bodies of the one book and of the other
pub headed_same : (plan : PlanValue) (past : List Entry) → headed (old_bodies plan past) ≡ new_bodies plan past
headed_same plan [] = refl
headed_same plan (e ∷ past) = headed_more plan past (entry_bytes e ∷ []) ∙ ap (λ (l : List (List ℕ)). l ++ of_entry (entry_bytes e) ∷ []) (headed_same plan past)

-- what can't follow in the one can't in the other, and so neither can in a legal book
pub never_refused : ((book : List Element) (before after : List (List ℕ)) (body : List ℕ) → IsLegalBook book → bodies_of book ≡ before ++ body ∷ after → ¬ (details.CannotFollow before body))
    → (plan : PlanValue) (past : List Entry) (before after : List (List ℕ)) (body : List ℕ) → IsHistoryOf plan past → old_bodies plan past ≡ before ++ body ∷ after
    → ¬ (CannotFollow before body)
never_refused never plan past before after body h splits (first none refused) =
    never (carried plan past) [] (map of_entry after) (of_detail body) (carried_legal plan past h)
    (sym (headed_same plan past) ∙ ap headed splits ∙ ap (λ (b : List (List ℕ)). headed (b ++ body ∷ after)) none)
    (record { book = []; legal = tt; bodies_are = refl; cannot = bad_detail body refl (no_plan refused) })
never_refused never plan past before after body h splits (later its earlier its_h is refused) =
    never (carried plan past) (new_bodies its earlier) (map of_entry after) (of_entry body) (carried_legal plan past h)
    (sym (headed_same plan past) ∙ ap headed splits ∙ ap (λ (b : List (List ℕ)). headed (b ++ body ∷ after)) is ∙ headed_more its earlier (body ∷ after)
    ∙ ap (λ (b : List (List ℕ)). b ++ of_entry body ∷ map of_entry after) (headed_same its earlier))
    (record {
      book = carried its earlier;
      legal = carried_legal its earlier its_h;
      bodies_are = refl;
      cannot = bad_entry 0 body (omega arith) refl (no_step its (carried_plan its earlier) (subst (λ (l : List Entry). IsNoStep its l body) (sym (carried_past its earlier)) refused));
    })

-- books of several flows that tell the same hold plans that are written alike, and the same histories
pub alike_flows : (p q : PlanValue) (past other : List Entry) → AreAlike (carried p past) (carried q other) → (plan_written p ≡ plan_written q) × (past ≡ other)
alike_flows p q past other alike =
    let plans : map plan_written (details.details (carried p past)) ≡ map plan_written (details.details (carried q other)) = alike.plans in (
      (let same : Some (plan_written p) ≡ Some (plan_written q) =
          sym (written_at p past) ∙ ap (λ (l : List WrittenPlan). slice_get l 0) plans ∙ written_at q other in cc),
      sym (carried_past p past) ∙ alike.histories 0 ∙ carried_past q other,
    )
  where
    written_at : (plan : PlanValue) (entries : List Entry) → slice_get (map plan_written (details.details (carried plan entries))) 0 ≡ Some (plan_written plan)
    written_at plan [] = refl
    written_at plan (e ∷ entries) = written_at plan entries

-- a file that holds a flow is neither malformed nor without one
pub book_of_flow : ((before after : List (List ℕ)) (body : List ℕ) (plan : PlanValue) (past : List Entry) → IsHistoryOf plan past → old_bodies plan past ≡ before ++ body ∷ after
    → ¬ (CannotFollow before body)) → (plan : PlanValue) (past : List Entry) (found : Recovered) → HoldsFlow plan past found → IsBookOfFlow found
book_of_flow never plan past found h = record { book = is_book; flow = has_flow }
  where
    is_book : (offset : ℕ) (byte : Option ℕ) → ¬ (IsNoBook found offset byte)
    is_book offset byte (no_journal bad) = let no = sym h.is ∙ bad in absurd (cc)
    is_book offset byte (bad_body held is refused) =
        let same : bodies held ≡ bodies (old_bodies plan past) = sym is ∙ h.is in
        never refused.before refused.after refused.body plan past h.history (sym (let held_is : held ≡ old_bodies plan past = cc in held_is) ∙ refused.splits) refused.cannot

    has_flow : ¬ (HoldsNoFlow found)
    has_flow (inl still) = let no = sym h.is ∙ still in cc
    has_flow (inr none) =
        let b = begins plan past in
        let no : bodies (b.0 ∷ b.1) ≡ bodies [] = ap bodies (sym b.2) ∙ (sym h.is ∙ none) in cc
