use Rattle.std.proofs.Common.{◌≡◌, take, sum_by}
use Rattle.tf_flow.specs.Limits.{place_len, capped}
use Rattle.tf_flow.specs.Shown.{shown_places}
use Rattle.tf_flow.proofs.byte_length.plan_len.Given as goal

abbrev pub invariant-loop-place : goal.invariant-loop-place
invariant-loop-place l = l.len ≡ capped (sum_by place_len (shown_places (take l.place-index l.order)))
