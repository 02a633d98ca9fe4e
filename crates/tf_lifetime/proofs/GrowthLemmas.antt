-- What a file holds after a call recorded entries of a detail: what it held, with these entries, and perhaps the detail, behind it.
use Rattle.std.proofs.Common.{◌≡◌, ℕ, List, [], ◌∷◌, ◌++◌, map, length, Bool, true, false, Some, inl, inr, refl, sym, ap, ◌∙◌, subst, append-nil, append_assoc, arith}
use Rattle.std.specs.Prelude.{nat_eq, slice_get}
use Rattle.std.proofs.lemmas.Bool.{eqb-true}
use Rattle.tf_flow.specs.Plan.{PlanValue}
use Rattle.tf_states.specs.declared.record.Entry.{Entry}
use Rattle.tf_ports.specs.declared.crews.Want.{Want}
use Rattle.tf_actions.specs.declared.orders.Order.{Order}
use Rattle.tf_actions.specs.declared.outcomes.Outcome.{Outcome}
use Rattle.tf_journal.specs.Format.{Recovered}
use Rattle.tf_model.specs.Plan.{Outline, outline_of}
use Rattle.tf_details.specs.Elements.{Element, detail, entry, details, plan_of, history, Contents}
use Rattle.tf_details.specs.Whole.{AreAlike}
use Rattle.tf_details.proofs.BookLemmas.{at_last}
use Rattle.tf_details.proofs.ElementLemmas.{none_past}
use Rattle.tf_details.proofs.FormLemmas.{same_outline}
use Rattle.tf_details.proofs.GrowLemmas.{grow_alike}
use Rattle.tf_details.proofs.OnceLemmas.{plan_alike}
use Rattle.tf_book.specs.Book.{begun_contents}
use Rattle.tf_commands.specs.Books.{HoldsElements, HoldsHistory, HoldsWith, IsBookOf, FindsSince}
use Rattle.tf_lifetime.specs.Life.{AreRecorded, AreAllRecorded}
use Rattle.tf_lifetime.proofs.EntryLemmas.{details_stay, history_on, history_aside}
use Rattle.tf_lifetime.proofs.OnceLemmas.{once, grows_so}

-- what a file holds has these elements, and perhaps more behind them, which such hands recorded
abbrev pub Grown : (Want → Order → Outcome → Type 0) → (ℕ → Want → Type 0) → List Element → Recovered → Type 0
Grown gives able elements found = (newer : List Element) × HoldsElements (newer ++ elements) found × AreAllRecorded gives able elements newer

-- what a command begins with: the contents are these elements with some behind them, none of which is an entry; the detail that is meant has the plan, and its
-- history is that of the elements
pub record Behind (below : List Element) (contents : Contents) (plan : PlanValue) (before : List Entry) : Type 0 where
  pub opened : List Element
  pub splits : contents.elements ≡ opened ++ below
  pub without : (number : ℕ) → history number opened ≡ []
  pub of_detail : plan_of contents.elements contents.number ≡ Some plan
  pub past : history contents.number below ≡ before

-- a detail that the file holds
pub behind_held : {contents : Contents} {plan : PlanValue} {before : List Entry} {found : Recovered} → HoldsHistory contents plan before found → Behind contents.elements contents plan before
behind_held h = record { opened = []; splits = refl; without = λ number. refl; of_detail = h.held.of_detail; past = h.past_is }

-- a new one
pub behind_begun : (elements : List Element) (plan : PlanValue) {found : Recovered} → HoldsElements elements found → Behind elements (begun_contents elements plan) plan []
behind_begun elements plan h = record {
  opened = detail plan ∷ [];
  splits = refl;
  without = λ number. refl;
  of_detail = at_last (details elements) plan;
  past = none_past elements (length (details elements)) h.legal (omega arith);
}

-- the elements of a file that holds some
pub held_elements : {contents : Contents} {plan : PlanValue} {past : List Entry} {found : Recovered} → HoldsHistory contents plan past found → HoldsElements contents.elements found
held_elements h = record { is = h.is; legal = h.held.legal }

pub book_elements : {elements other : List Element} {found : Recovered} → HoldsElements elements found → IsBookOf other found → HoldsElements other found
book_elements holds (inl same) = same
book_elements holds (inr none) = (let clash = sym holds.is ∙ none.1 in absurd (cc))

module _ (gives : Want → Order → Outcome → Type 0) (able : ℕ → Want → Type 0) {elements below : List Element} {first : Recovered} (holds : HoldsElements elements first) (held : HoldsElements below first)
    {contents : Contents} {plan : PlanValue} {before : List Entry} (behind : Behind below contents plan before) where
  abbrev newer : List Entry → List Element
  newer kept = map (entry contents.number) kept ++ behind.opened

  -- with entries of the detail
  whole : (kept : List Entry) → map (entry contents.number) kept ++ contents.elements ≡ newer kept ++ below
  whole kept = ap (λ (l : List Element). map (entry contents.number) kept ++ l) behind.splits ∙ sym (append_assoc (map (entry contents.number) kept) behind.opened below)

  on : (kept : List Entry) {found : Recovered} → HoldsWith contents kept found → HoldsElements (newer kept ++ below) found
  on kept {found} with_them = subst (λ (l : List Element). HoldsElements l found) (whole kept) with_them

  -- the plan of the detail, as the file has it
  alike : (kept : List Entry) {found : Recovered} → HoldsWith contents kept found → AreAlike (newer kept ++ elements) (newer kept ++ below)
  alike kept with_them = (grow_alike (newer kept) elements below (once holds held) holds.legal (on kept with_them).legal).1

  plan_there : (kept : List Entry) → plan_of (newer kept ++ below) contents.number ≡ Some plan
  plan_there kept =
      ap (λ (l : List Element). plan_of l contents.number) (sym (whole kept))
      ∙ ap (λ (l : List PlanValue). slice_get l contents.number) (details_stay contents.number kept contents.elements) ∙ behind.of_detail

  outline_there : (kept : List Entry) {found : Recovered} → HoldsWith contents kept found → (other : PlanValue) → plan_of (newer kept ++ elements) contents.number ≡ Some other
      → outline_of other ≡ outline_of plan
  outline_there kept with_them other is =
      let own = plan_alike (newer kept ++ elements) (newer kept ++ below) contents.number plan (alike kept with_them) (plan_there kept) in
      let same : own.0 ≡ other = (let both : Some own.0 ≡ Some other = sym own.1 ∙ is in cc) in
      ap outline_of (sym same) ∙ same_outline own.0 plan own.2

  -- the history of the detail
  own_history : (kept : List Entry) → history contents.number (newer kept) ≡ kept
  own_history kept = history_on contents.number kept behind.opened ∙ (ap (λ (l : List Entry). kept ++ l) (behind.without contents.number) ∙ append-nil kept)

  own_past : history contents.number elements ≡ before
  own_past = (once holds held).histories contents.number ∙ behind.past

  -- each entry behind what the file held was recorded
  all_recorded : (kept : List Entry) {found : Recovered} → HoldsWith contents kept found → AreRecorded gives able (outline_of plan) before kept → AreAllRecorded gives able elements (newer kept)
  all_recorded kept with_them given number other is = by (nat_eq contents.number number) refl
    where
      here : contents.number ≡ number → AreRecorded gives able (outline_of other) (history number elements) (history number (newer kept))
      here same =
          subst (λ (n : ℕ). plan_of (newer kept ++ elements) n ≡ Some other → AreRecorded gives able (outline_of other) (history n elements) (history n (newer kept))) same
          (λ at. subst (λ (l : List Entry). AreRecorded gives able (outline_of other) (history contents.number elements) l) (sym (own_history kept))
          (subst (λ (l : List Entry). AreRecorded gives able (outline_of other) l kept) (sym own_past)
          (subst (λ (o : Outline). AreRecorded gives able o before kept) (sym (outline_there kept with_them other at)) given)))
          is

      by : (b : Bool) → nat_eq contents.number number ≡ b → AreRecorded gives able (outline_of other) (history number elements) (history number (newer kept))
      by true same = here (eqb-true contents.number number same)
      by false apart =
          subst (λ (l : List Entry). AreRecorded gives able (outline_of other) (history number elements) l)
          (sym (history_aside contents.number number apart kept behind.opened ∙ behind.without number)) tt

  -- what is held then
  pub grown_by : (kept : List Entry) {found : Recovered} → HoldsWith contents kept found → AreRecorded gives able (outline_of plan) before kept → Grown gives able elements found
  grown_by kept with_them given = (newer kept, grows_so (newer kept) holds held (on kept with_them), all_recorded kept with_them given)

  -- or the detail didn't begin
  pub grown_since : (kept : List Entry) {found : Recovered} → FindsSince first contents kept found → AreRecorded gives able (outline_of plan) before kept → Grown gives able elements found
  grown_since kept (inl with_them) given = grown_by kept with_them given
  grown_since kept {found} (inr (none, inl same)) given = ([], subst (HoldsElements elements) (sym same) holds, λ number other is. tt)
  grown_since kept (inr (none, inr young)) given = (let clash = sym holds.is ∙ young.0 in absurd (cc))
