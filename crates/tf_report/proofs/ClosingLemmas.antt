-- With which status a command ends that was closed by a message, and what that shows.
use Rattle.std.proofs.Common.{◌≡◌, ◌⊎◌, ℕ, List, Option, refl, subst, inl, inr}
use Rattle.tf_report.specs.Closing.{ClosesWith, ClosesWithOrStops, said, cut}
use Rattle.tf_report.specs.declared.statuses.TheConstants.{UNSAID, OUT_OF_MEMORY}

-- a message closes a command with its status or that of a failed output
pub closes_status : (before after : Option (List ℕ)) (message : List ℕ) (wanted status : ℕ) → ClosesWith before message wanted after status
    → (status ≡ wanted) ⊎ (status ≡ UNSAID)
closes_status before after message wanted status (said text) = inl refl
closes_status before after message wanted status (cut prefix) = inr refl

-- and where memory may run out for it, perhaps with that status
pub ends_status : (before after : Option (List ℕ)) (message : List ℕ) (wanted status : ℕ) → ClosesWithOrStops before message wanted after status
    → (status ≡ OUT_OF_MEMORY) ⊎ (status ≡ wanted) ⊎ (status ≡ UNSAID)
ends_status before after message wanted status (inl stopped) = inl stopped.0
ends_status before after message wanted status (inr closes) = inr (closes_status before after message wanted status closes)

-- what closes after calls that show nothing closes after them all
pub closes_from : {before mid after : Option (List ℕ)} {message : List ℕ} {wanted status : ℕ} → mid ≡ before → ClosesWith mid message wanted after status
    → ClosesWith before message wanted after status
closes_from {after = after} {message = message} {wanted = wanted} {status = status} quiet closes =
    subst (λ (s : Option (List ℕ)). ClosesWith s message wanted after status) quiet closes
