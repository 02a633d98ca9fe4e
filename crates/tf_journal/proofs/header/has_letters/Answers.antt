use Rattle.std.proofs.Common.{length, drop, ap, arith, length-take, length-drop}
use Rattle.tf_journal.proofs.header.has_letters.Goals as goal

pub returns-then-head-lt17 : goal.returns-then-head-lt17
returns-then-head-lt17 c = (
  λ is. absurd (cc),
  λ same. absurd (omega (arith, ap length same, length-take 16 (drop 1 c.args.head.now), length-drop 1 c.args.head.now, length-take 16 c.args.letters.now, c.fits-letters)),
)
