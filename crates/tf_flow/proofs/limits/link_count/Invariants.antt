use Rattle.std.proofs.Common.{◌≡◌, take, sum_by}
use Rattle.tf_flow.specs.Limits.{capped, link_count}
use Rattle.tf_flow.specs.Shown.{shown_places}
use Rattle.tf_flow.proofs.limits.link_count.Given as goal

abbrev pub invariant-loop-place : goal.invariant-loop-place
invariant-loop-place l = l.count ≡ capped (sum_by link_count (shown_places (take l.place-index l.order)))
