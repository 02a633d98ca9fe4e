-- What a migration carried over stands.
use Rattle.std.proofs.Common.{◌≡◌, ℕ, List, arith}
use Rattle.tf_desk.specs.State.{DeskState}
use Rattle.tf_ports.specs.declared.crews.Want.{Want}
use Rattle.tf_actions.specs.declared.orders.Order.{Order}
use Rattle.tf_actions.specs.declared.outcomes.Outcome.{Outcome}
use Rattle.tf_journal.specs.Start.{file_of}
use Rattle.tf_migration.specs.Migrates as migrate
use Rattle.tf_migration.specs.Migrates.{Migrates, old_at, carried}
use Rattle.tf_migration.proofs.FlowLemmas.{carried_legal}
use Rattle.tf_commands.specs.Books.{book_at, HoldsElements}
use Rattle.tf_lifetime.specs.Life.{Call, Life, IsCarriedOver}
use Rattle.tf_lifetime.proofs.ClosingLemmas.{never_closes}
use Rattle.tf_lifetime.proofs.LifeLemmas.{life_grows}

module _ {K : Type 0} (state : K → DeskState) (gives : Want → Order → Outcome → Type 0) where
  pub carried_stands : (old new last : List ℕ) (call : Call state gives) → call.status ≡ 0 → Migrates old new (state call.entry) (state call.now) call.status
      → Life state gives new (file_of (state call.now) new) last → IsCarriedOver (old_at (state call.entry) old) last
  carried_stands old new last call is (migrate.unread message _ migrate.unread_no_memory ends stays) life = absurd (never_closes is (λ n. omega arith) ends)
  carried_stands old new last call is (migrate.unread message _ migrate.unread_failed ends stays) life = absurd (never_closes is (λ n. omega arith) ends)
  carried_stands old new last call is (migrate.unread message _ (migrate.no_book offset byte none) ends stays) life = absurd (never_closes is (λ n. omega arith) ends)
  carried_stands old new last call is (migrate.unread message _ (migrate.no_flow none) ends stays) life = absurd (never_closes is (λ n. omega arith) ends)
  carried_stands old new last call is (migrate.unbegun plan past message _ held migrate.unbegun_no_memory ends stays) life = absurd (never_closes is (λ n. omega arith) ends)
  carried_stands old new last call is (migrate.unbegun plan past message _ held migrate.unbegun_failed ends stays) life = absurd (never_closes is (λ n. omega arith) ends)
  carried_stands old new last call is (migrate.unbegun plan past message _ held (migrate.exists there) ends stays) life = absurd (never_closes is (λ n. omega arith) ends)
  carried_stands old new last call is (migrate.begun plan past _ message _ held young (migrate.filled size need full) out ends lasts) life = absurd (never_closes is (λ n. omega arith) ends)
  carried_stands old new last call is (migrate.begun plan past _ message _ held young migrate.write_failed out ends lasts) life = absurd (never_closes is (λ n. omega arith) ends)
  carried_stands old new last call is (migrate.begun plan past _ message _ held young migrate.migrated out ends lasts) life =
      let h = held call.told in
      let now : HoldsElements (carried plan past) (book_at (state call.now) new) = record { is = (lasts call.told).file; legal = carried_legal plan past h.history } in
      let grown = life_grows state gives new (file_of (state call.now) new) last life (carried plan past) now in
      record { plan = plan; past = past; had = h; stands = (grown.0, grown.1) }
