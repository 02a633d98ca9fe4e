use Rattle.std.proofs.Common.{◌≡◌, ◌-◌, ◌≤◌, ◌<◌, ℕ, List, length, IsTrue}
use Rattle.tf_desk.specs.State.{bytes_now, Trusts, Rests}
use Rattle.tf_journal.specs.Format.{SIZE_LIMIT}
use Rattle.tf_journal.specs.Reach.{Reaches, IsWindow}
use Rattle.tf_journal.proofs.scanning.scan_records.Given as goal

abbrev pub decreases-loop-length : goal.decreases-loop-length
decreases-loop-length g l = SIZE_LIMIT - l.place

abbrev pub invariant-loop-length : goal.invariant-loop-length
invariant-loop-length g l = record {
  place : (17 ≤ l.place) × (l.place < SIZE_LIMIT);
  few : l.count ≤ l.place;
  window : IsTrue (g.K.Desk.state l.desk).tells → IsWindow (bytes_now (g.K.Desk.state l.fn.desk)) l.window;
  rests : Trusts Rests (g.K.Desk.state l.fn.desk) (g.K.Desk.state l.desk);
  reaches : IsTrue (g.K.Desk.state l.desk).tells
      → 18 ≤ length (bytes_now (g.K.Desk.state l.fn.desk))
      → (held : List (List ℕ)) × (l.count ≡ length held) × Reaches l.title (bytes_now (g.K.Desk.state l.fn.desk)) held l.place;
}
