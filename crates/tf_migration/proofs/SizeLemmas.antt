-- How much longer the new book is than the old one.
use Rattle.std.proofs.Common.{◌≡◌, ◌+◌, ◌*◌, ◌∷◌, [], ℕ, List, length, refl, ap, arith, length-append}
use Rattle.std.specs.List.{flat_map}
use Rattle.tf_flow.specs.Plan.{PlanValue}
use Rattle.tf_states.specs.declared.record.Entry.{Entry}
use Rattle.tf_entries.specs.Entries.{entry_bytes}
use Rattle.tf_entries.specs.Plans.{plan_bytes}
use Rattle.tf_journal.specs.Format.{OPEN, title_of, record_of, prefix_of, journal_bytes}
use Rattle.tf_journal.specs.declared.title.Title.{Title}
use Rattle.tf_journal.specs.declared.title.Title.TheVariants.{Book, Book2}
use Rattle.tf_journal.proofs.ReachLemmas.{flat_map-push, length-record_of}
use Rattle.tf_details.specs.Elements.{detail, entry, element_bytes}
use Rattle.tf_migration.specs.Migrates.{old_bodies, new_bodies}

records_longer : (plan : PlanValue) (past : List Entry)
    → length (flat_map record_of (new_bodies plan past)) ≡ length (flat_map record_of (old_bodies plan past)) + 1 + 3 * length past
records_longer plan [] =
    omega (
      arith,
      length-append (record_of (element_bytes (detail plan))) [],
      length-append (record_of (plan_bytes plan)) [],
      length-record_of (element_bytes (detail plan)),
      length-record_of (plan_bytes plan),
    )
records_longer plan (e ∷ past) =
    omega (
      arith,
      records_longer plan past,
      ap length (flat_map-push (new_bodies plan past) (element_bytes (entry 0 e))),
      ap length (flat_map-push (old_bodies plan past) (entry_bytes e)),
      length-append (flat_map record_of (new_bodies plan past)) (record_of (element_bytes (entry 0 e))),
      length-append (flat_map record_of (old_bodies plan past)) (record_of (entry_bytes e)),
      length-record_of (element_bytes (entry 0 e)),
      length-record_of (entry_bytes e),
    )

size_of : (title : Title) (held : List (List ℕ)) → length (title_of title) ≡ 16 → length (journal_bytes title held) ≡ length (flat_map record_of held) + 18
size_of title held long = omega (arith, long, length-append (prefix_of title held) (0 ∷ []), length-append (OPEN ∷ title_of title) (flat_map record_of held))

pub longer : (plan : PlanValue) (past : List Entry) → length (journal_bytes Book2 (new_bodies plan past)) ≡ length (journal_bytes Book (old_bodies plan past)) + 1 + 3 * length past
longer plan past = omega (arith, size_of Book2 (new_bodies plan past) refl, size_of Book (old_bodies plan past) refl, records_longer plan past)
