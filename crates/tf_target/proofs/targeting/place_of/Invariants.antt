use Rattle.std.proofs.Common.{◌≡◌, None}
use Rattle.tf_flow.specs.Rules.{member_names}
use Rattle.tf_flow.specs.Shown.{members}
use Rattle.tf_numbers.specs.Numbers.{first_below}
use Rattle.tf_target.specs.Target.{is_name_at}
use Rattle.tf_target.proofs.targeting.place_of.Given as goal

abbrev pub invariant-loop-place : goal.invariant-loop-place
invariant-loop-place l = first_below l.place (is_name_at (member_names (members l.items)) l.name) ≡ None
