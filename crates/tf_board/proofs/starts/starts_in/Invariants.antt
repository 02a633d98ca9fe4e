use Rattle.std.proofs.Common.{◌≡◌, take}
use Rattle.std.specs.List.{position_or_len}
use Rattle.tf_states.specs.declared.priorities.Priority.TheVariants as order
use Rattle.tf_board.specs.Seeking.{is_free_under, firsts}
use Rattle.tf_board.proofs.starts.starts_in.Given as goal

abbrev pub invariant-loop-place : goal.invariant-loop-place
invariant-loop-place l = (l.found ≡ firsts (take l.place l.free)) × (position_or_len (is_free_under order.VeryHigh) (take l.place l.free) ≡ l.place)
