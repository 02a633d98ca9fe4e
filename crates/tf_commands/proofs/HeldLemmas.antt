-- What a book's file holds on the way through a run: a legal book, in which other details stay.
use Rattle.std.proofs.Common.{◌≡◌, List, [], ◌∷◌, ◌++◌, sym, ap, ◌∙◌, subst}
use Rattle.tf_flow.specs.Plan.{PlanValue}
use Rattle.tf_states.specs.declared.record.Entry.{Entry}
use Rattle.tf_model.specs.History.{snapshot}
use Rattle.tf_model.specs.Plan.{outline_of}
use Rattle.tf_model.specs.Steps.{Step}
use Rattle.tf_details.specs.Elements.{IsLegalBook, Contents, with_entries, past_of, IsContents}
use Rattle.tf_details.proofs.ContentsLemmas.{contents_on}
use Rattle.tf_book.specs.Book.{BookValue}
use Rattle.tf_book.specs.SessionInvariant.{MayFollow, nothing_more, one_more}
use Rattle.tf_commands.specs.Runs.{IsHeld}

-- a legal book is one before its newest entries
pub legal_before : (contents : Contents) (lost kept : List Entry) → IsLegalBook (with_entries contents (lost ++ kept)).elements → IsLegalBook (with_entries contents kept).elements
legal_before contents [] kept legal = legal
legal_before contents (e ∷ lost) kept legal = legal_before contents lost kept legal.1

-- and with the entry that is pending
pub legal_on : {is_so : Entry → Type 0} {plan : PlanValue} {pending : List Entry} (contents : Contents) (entries before : List Entry) → IsContents plan (with_entries contents entries)
    → past_of (with_entries contents entries) ≡ entries ++ before → MayFollow is_so plan (entries ++ before) pending
    → IsLegalBook (with_entries contents (pending ++ entries)).elements
legal_on contents entries before held told nothing_more = held.legal
legal_on {plan = plan} contents entries before held told (one_more e step form so) =
    (contents_on plan (with_entries contents entries) e held (subst (λ (past : List Entry). Step (outline_of plan) (snapshot (outline_of plan) past) e) (sym told) step) form).legal

-- the contents of a book, by what was recorded since a start
pub held_with : {K : Type 0} (plan : PlanValue) (start now : BookValue K) (entries : List Entry) → now.contents ≡ with_entries start.contents entries → IsHeld plan now
    → IsContents plan (with_entries start.contents entries)
held_with plan start now entries held h = subst (IsContents plan) held h.held

pub told_with : {K : Type 0} (plan : PlanValue) (start now : BookValue K) (entries : List Entry) → now.contents ≡ with_entries start.contents entries → now.past ≡ entries ++ start.past → IsHeld plan now
    → past_of (with_entries start.contents entries) ≡ entries ++ start.past
told_with plan start now entries held recorded h = ap past_of (sym held) ∙ h.told ∙ recorded

-- the same of a book that is equal in this
pub held_same : {K : Type 0} {plan : PlanValue} {book new : BookValue K} → new.contents ≡ book.contents → new.past ≡ book.past → IsHeld plan book → IsHeld plan new
held_same {plan = plan} contents past h = record { held = subst (IsContents plan) (sym contents) h.held; told = ap past_of contents ∙ h.told ∙ sym past }
