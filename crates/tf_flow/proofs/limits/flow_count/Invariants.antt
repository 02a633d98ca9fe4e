use Rattle.std.proofs.Common.{◌≡◌, ◌≤◌, take, length, filter}
use Rattle.tf_flow.specs.Tree.{is_flow}
use Rattle.tf_flow.specs.Shown.{shown_places}
use Rattle.tf_flow.proofs.limits.flow_count.Given as goal

abbrev pub invariant-loop-place : goal.invariant-loop-place
invariant-loop-place l = record {
  bound : l.count ≤ l.place-index;
  counted : l.count ≡ length (filter is_flow (shown_places (take l.place-index l.order)));
}
