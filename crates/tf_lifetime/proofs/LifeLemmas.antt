-- A life: what holds of one call holds of all of them.
use Rattle.std.proofs.Common.{◌≡◌, ◌≤◌, ℕ, zero, suc, List, [], ◌∷◌, ◌++◌, length, Option, Some, None, inl, inr, ⊎_elim, refl, sym, ◌∙◌, subst, append_assoc, arith, slice_get}
use Rattle.tf_desk.specs.State.{DeskState}
use Rattle.tf_flow.specs.Plan.{PlanValue}
use Rattle.tf_states.specs.declared.record.Entry.{Entry}
use Rattle.tf_ports.specs.declared.crews.Want.{Want}
use Rattle.tf_actions.specs.declared.orders.Order.{Order}
use Rattle.tf_actions.specs.declared.outcomes.Outcome.{Outcome}
use Rattle.tf_journal.specs.Start.{file_of}
use Rattle.tf_board.specs.Board.{board_in, Holds}
use Rattle.tf_board.specs.declared.commands.Command.{Command}
use Rattle.tf_details.specs.Elements.{Element, detail, entry, details, plan_of, history, IsLegalBook}
use Rattle.tf_details.proofs.BookLemmas.{at_older}
use Rattle.tf_details.proofs.ElementLemmas.{none_past}
use Rattle.tf_commands.specs.Books.{book_in, HoldsElements}
use Rattle.tf_lifetime.specs.Life.{Call, Leaves, Life, unlived, lived, IsHired, HiredIn, AreRecorded, AreAllRecorded}
use Rattle.tf_model.specs.Plan.{Outline, outline_of}
use Rattle.tf_lifetime.proofs.EntryLemmas.{history_both}
use Rattle.tf_lifetime.proofs.GivenLemmas.{given_append}
use Rattle.tf_lifetime.proofs.GrowthLemmas.{Grown}
use Rattle.tf_lifetime.proofs.StepLemmas.{call_grows, call_adds}

-- entries that some hands recorded, more may have recorded
more_hands : (gives : Want → Order → Outcome → Type 0) (some all : ℕ → Want → Type 0) → ((n : ℕ) (hands : Want) → some n hands → all n hands) → (plan : Outline) (past entries : List Entry) → AreRecorded gives some plan past entries
    → AreRecorded gives all plan past entries
more_hands gives some all allow plan past [] are = tt
more_hands gives some all allow plan past (e ∷ entries) are = (
  ⊎_elim (λ by. inl (record { hands = by.hands; hires = allow e.hand by.hands by.hires; given = by.given })) (λ back. inr back) are.0,
  more_hands gives some all allow plan past entries are.1,
)

-- a detail stays where it is, whatever comes behind it
stands_beneath : (newer : List Element) (elements : List Element) (number : ℕ) (plan : PlanValue) → plan_of elements number ≡ Some plan → plan_of (newer ++ elements) number ≡ Some plan
stands_beneath [] elements number plan is = is
stands_beneath (detail p ∷ newer) elements number plan is = at_older (details (newer ++ elements)) p number plan (stands_beneath newer elements number plan is)
stands_beneath (entry its e ∷ newer) elements number plan is = stands_beneath newer elements number plan is

-- nothing stands past the end
beyond : {A : Type 0} (xs : List A) (n : ℕ) → slice_get xs n ≡ None → length xs ≤ n
beyond [] n none = omega arith
beyond (x ∷ xs) zero none = absurd (cc)
beyond (x ∷ xs) (suc n) none = (let rest = beyond xs n none in omega (arith, rest))

-- entries that are none at the end are none
none_front : (xs ys : List Entry) → xs ++ ys ≡ [] → xs ≡ []
none_front [] ys is = refl
none_front (x ∷ xs) ys is = absurd (cc)

-- what one call recorded behind what came before it, over both
join_recorded : (gives : Want → Order → Outcome → Type 0) (able : ℕ → Want → Type 0) (elements older newer : List Element) → IsLegalBook (older ++ elements) → AreAllRecorded gives able elements older
    → AreAllRecorded gives able (older ++ elements) newer → AreAllRecorded gives able elements (newer ++ older)
join_recorded gives able elements older newer legal before after number plan is =
    subst (λ (l : List Entry). AreRecorded gives able (outline_of plan) (history number elements) l) (sym (history_both number newer older))
    (given_append gives able (outline_of plan) (history number elements) (history number newer) (history number older)
    (subst (λ (l : List Entry). AreRecorded gives able (outline_of plan) l (history number newer)) (history_both number older elements) (after number plan there))
    (by (plan_of (older ++ elements) number) refl))
  where
    there : plan_of (newer ++ (older ++ elements)) number ≡ Some plan
    there = subst (λ (l : List Element). plan_of l number ≡ Some plan) (append_assoc newer older elements) is

    by : (o : Option PlanValue) → plan_of (older ++ elements) number ≡ o → AreRecorded gives able (outline_of plan) (history number elements) (history number older)
    by (Some p) here =
        let both : Some p ≡ Some plan = sym (stands_beneath newer (older ++ elements) number p here) ∙ there in
        let same : p ≡ plan = cc in
        before number plan (subst (λ (q : PlanValue). plan_of (older ++ elements) number ≡ Some q) same here)
    by None none =
        let empty = sym (history_both number older elements) ∙ none_past (older ++ elements) number legal (beyond (details (older ++ elements)) number none) in
        subst (λ (l : List Entry). AreRecorded gives able (outline_of plan) (history number elements) l) (sym (none_front (history number older) (history number elements) empty)) tt

-- more hands may have recorded what stands behind a book
all_more_hands : (gives : Want → Order → Outcome → Type 0) (some all : ℕ → Want → Type 0) → ((n : ℕ) (hands : Want) → some n hands → all n hands) → (elements newer : List Element)
    → AreAllRecorded gives some elements newer → AreAllRecorded gives all elements newer
all_more_hands gives some all allow elements newer are number plan is =
    more_hands gives some all allow (outline_of plan) (history number elements) (history number newer) (are number plan is)

-- what is held begins with what was held, and what came since was recorded by hands that calls of the life hired
pub life_grows : {K : Type 0} (state : K → DeskState) (gives : Want → Order → Outcome → Type 0) (name first last : List ℕ) (life : Life state gives name first last)
    → (elements : List Element) → HoldsElements elements (book_in first) → Grown gives (HiredIn state gives life) elements (book_in last)
life_grows state gives name first _ unlived elements holds = ([], holds, λ number plan is. tt)
life_grows state gives name first last (lived before call same leaves) elements holds =
    let so_far = life_grows state gives name first _ before elements holds in
    let here = subst (λ (f : List ℕ). HoldsElements (so_far.0 ++ elements) (book_in f)) (sym same) so_far.1 in
    let all : ℕ → Want → Type 0 = HiredIn state gives (lived before call same leaves) in
    let on = call_grows state gives name call here last leaves in (
      on.0 ++ so_far.0,
      subst (λ (l : List Element). HoldsElements l (book_in last)) (sym (append_assoc on.0 so_far.0 elements)) on.1,
      join_recorded gives all elements so_far.0 on.0 so_far.1.legal
          (all_more_hands gives (HiredIn state gives before) all (λ n hands is. inl is) elements so_far.0 so_far.2)
          (all_more_hands gives (IsHired state gives call) all (λ n hands is. inr is) (so_far.0 ++ elements) on.0 on.2),
    )

-- and of a board: a list that stands under others isn't empty, where it has a command
life_adds_on : {K : Type 0} (state : K → DeskState) (gives : Want → Order → Outcome → Type 0) (name : List ℕ) (call : Call state gives) (added rest : List Command) (first : Command)
    → Holds (added ++ (first ∷ rest)) (board_in (file_of (state call.entry) name)) → (last : List ℕ) → Leaves state gives name call last
    → (more : List Command) × Holds (more ++ (added ++ (first ∷ rest))) (board_in last)
life_adds_on state gives name call [] rest first holds last leaves = call_adds state gives name call holds last leaves
life_adds_on state gives name call (c ∷ added) rest first holds last leaves = call_adds state gives name call holds last leaves

pub life_adds : {K : Type 0} (state : K → DeskState) (gives : Want → Order → Outcome → Type 0) (name first last : List ℕ) → Life state gives name first last
    → (one : Command) (past : List Command) → Holds (one ∷ past) (board_in first) → (added : List Command) × Holds (added ++ (one ∷ past)) (board_in last)
life_adds state gives name first _ unlived one past holds = ([], holds)
life_adds state gives name first last (lived before call same leaves) one past holds =
    let so_far = life_adds state gives name first _ before one past holds in
    let here = subst (λ (f : List ℕ). Holds (so_far.0 ++ (one ∷ past)) (board_in f)) (sym same) so_far.1 in
    let on = life_adds_on state gives name call so_far.0 past one here last leaves in
    (on.0 ++ so_far.0, subst (λ (p : List Command). Holds p (board_in last)) (sym (append_assoc on.0 so_far.0 (one ∷ past))) on.1)
