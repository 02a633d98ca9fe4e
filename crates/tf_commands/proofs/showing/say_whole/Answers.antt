use Rattle.std.proofs.Common.{refl, inl}
use Rattle.tf_commands.proofs.AloneLemmas.{stops_untouched}
use Rattle.tf_commands.proofs.showing.say_whole.Goals as goal

pub returns-in-Err-clause-shows : goal.returns-in-Err-clause-shows
returns-in-Err-clause-shows g c = λ name entry seen untouched. rw c.in-Err.ensures.back (inl (stops_untouched _ untouched refl))
