-- Where nothing failed, a flow that may be carried over is.
use Rattle.std.proofs.Common.{◌≡◌, ◌≢◌, ◌⊎◌, ℕ, List, inl, inr, refl, ◌∙◌}
use Rattle.std.specs.Prelude.{IsTrue}
use Rattle.tf_desk.specs.State.{DeskState}
use Rattle.tf_flow.specs.Plan.{PlanValue}
use Rattle.tf_states.specs.declared.record.Entry.{Entry}
use Rattle.tf_journal.specs.Format.{unborn}
use Rattle.tf_report.specs.Closing.{ClosesWithOrStops}
use Rattle.tf_report.specs.declared.statuses.TheConstants.{DISK_FAILED, UNSAID}
use Rattle.tf_report.proofs.ClosingLemmas.{ends_status}
use Rattle.tf_migration.specs.Migrates.{Migrates, unread, unbegun, begun, IsUnreadFor, unread_no_memory, unread_failed, no_book, no_flow, IsUnbegunFor, unbegun_no_memory, unbegun_failed, exists, IsBegunFor, migrated, filled, write_failed, IsBookOfFlow, IsComplete, old_at, new_at, Left}

module _ (old new : List ℕ) (first now : DeskState) (status : ℕ) (told : IsTrue first.tells) (book : IsBookOfFlow (old_at first old)) (still_unborn : new_at first new ≡ unborn)
    (sound : status ≢ DISK_FAILED) (said : status ≢ UNSAID) where
  -- the status is the wanted one, or that of want of memory
  ends : (message : List ℕ) (wanted : ℕ) → ClosesWithOrStops first.shown message wanted now.shown status → (wanted ≡ DISK_FAILED) ⊎ IsComplete wanted → IsComplete status
  ends message wanted closes done =
      elim (ends_status first.shown now.shown message wanted status closes) [
        | inl out ↦ inr (inl out)
        | inr (inl same) ↦ elim done [
          | inl failed ↦ absurd (sound (same ∙ failed))
          | inr (inl well) ↦ inl (same ∙ well)
          | inr (inr (inl out)) ↦ inr (inl (same ∙ out))
          | inr (inr (inr full)) ↦ inr (inr (same ∙ full))
        ]
        | inr (inr unsaid) ↦ absurd (said unsaid)
      ]

  of_unread : (message : List ℕ) (wanted : ℕ) → IsUnreadFor (IsTrue first.tells) (old_at first old) message wanted → (wanted ≡ DISK_FAILED) ⊎ IsComplete wanted
  of_unread message wanted unread_no_memory = inr (inr (inl refl))
  of_unread message wanted unread_failed = inl refl
  of_unread message wanted (no_book offset byte is) = absurd (book.book offset byte (is told))
  of_unread message wanted (no_flow is) = absurd (book.flow (is told))

  of_unbegun : (message : List ℕ) (wanted : ℕ) → IsUnbegunFor (IsTrue first.tells) (new_at first new) message wanted → (wanted ≡ DISK_FAILED) ⊎ IsComplete wanted
  of_unbegun message wanted unbegun_no_memory = inr (inr (inl refl))
  of_unbegun message wanted unbegun_failed = inl refl
  of_unbegun message wanted (exists born) = absurd (born told still_unborn)

  of_begun : (plan : PlanValue) (past : List Entry) (left : Left) (message : List ℕ) (wanted : ℕ) → IsBegunFor plan past left message wanted → (wanted ≡ DISK_FAILED) ⊎ IsComplete wanted
  of_begun plan past left message wanted migrated = inr (inl refl)
  of_begun plan past left message wanted (filled size need full) = inr (inr (inr refl))
  of_begun plan past left message wanted write_failed = inl refl

  pub complete_so : Migrates old new first now status → IsComplete status
  complete_so (unread message wanted is closes stays) = ends message wanted closes (of_unread message wanted is)
  complete_so (unbegun plan past message wanted holds is closes stays) = ends message wanted closes (of_unbegun message wanted is)
  complete_so (begun plan past left message wanted holds was is out closes lasts) = ends message wanted closes (of_begun plan past left message wanted is)
