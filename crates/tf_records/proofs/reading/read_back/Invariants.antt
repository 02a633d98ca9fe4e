use Rattle.std.proofs.Common.{◌≡◌, ◌≤◌, ◌-◌}
use Rattle.tf_journal.specs.Reading.{IsWindowOf, OnlyReads}
use Rattle.tf_records.specs.Replaying.{HasReadTo}
use Rattle.tf_records.proofs.reading.read_back.Given as goal

abbrev pub invariant-reading : goal.invariant-reading
invariant-reading g l = record {
  low : 17 ≤ l.place;
  read : HasReadTo g.K.Desk.state g.R.Replay.replayed l.fn.journal l.journal.desk l.into l.place;
  fixed : g.R.Replay.fixed l.into ≡ g.R.Replay.fixed l.fn.into;
  window : IsWindowOf (g.K.Desk.state l.journal.desk) l.window;
  reads : OnlyReads g.K.Desk.state l.fn.journal l.journal;
}

abbrev pub decreases-reading : goal.decreases-reading
decreases-reading g l = 67108864 - l.place
