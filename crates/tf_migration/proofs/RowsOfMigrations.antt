-- Worked migrations.
use Rattle.std.proofs.Common.{◌≡◌, ◌+◌, ◌*◌, ◌∷◌, [], ◌++◌, ℕ, List, Some, inr, refl}
use Rattle.tf_flow.specs.Plan.{PlanValue}
use Rattle.tf_states.specs.declared.record.Entry.{Entry}
use Rattle.tf_entries.specs.Entries.{entry_bytes}
use Rattle.tf_entries.specs.Plans.{plan_bytes}
use Rattle.tf_journal.specs.Format.{title_of, journal_bytes, unborn, bodies, not_a_book}
use Rattle.tf_journal.specs.declared.title.Title.TheVariants.{Book as old_title, Book2 as new_title}
use Rattle.tf_migration.specs.Migrates.{new_bodies, old_in, new_in, HoldsNoFlow}

-- a flow with two entries: 1 stands before its plan, and 2 and the number 0 before each entry
two_entries : (plan : PlanValue) (e f : Entry) → new_bodies plan (f ∷ e ∷ []) ≡ (1 ∷ plan_bytes plan) ∷ (2 ∷ 0 ∷ 0 ∷ entry_bytes e) ∷ (2 ∷ 0 ∷ 0 ∷ entry_bytes f) ∷ []
two_entries plan e f = refl

-- a book of 125 bytes with four entries becomes one of 138
sizes : 125 + 1 + 3 * 4 ≡ 138
sizes = refl

-- a book of several flows is none of one: its title differs at offset 15, where it has the byte 50
newer_refused : old_in (journal_bytes new_title []) ≡ not_a_book 15 (Some 50)
newer_refused = refl

-- a book of one flow without a body holds none
no_flow : HoldsNoFlow (old_in (journal_bytes old_title []))
no_flow = inr refl

-- a title with a body behind it, whose gate isn't open yet: it is unborn; and all of it is there once the gate is open
abbrev one_body : List ℕ
one_body = title_of new_title ++ 165 ∷ 0 ∷ 0 ∷ 0 ∷ 1 ∷ 7 ∷ 0 ∷ []

draft_unborn : new_in (0 ∷ one_body) ≡ unborn
draft_unborn = refl

published_whole : new_in (165 ∷ one_body) ≡ bodies ((7 ∷ []) ∷ [])
published_whole = refl
