use Rattle.tf_sessions.proofs.FrameLemmas.{feeds_on}
use Rattle.tf_sessions.proofs.incoming.Incoming.feed.Goals as goal

pub returns-in-Ok-clause-fed : goal.returns-in-Ok-clause-fed
returns-in-Ok-clause-fed c = feeds_on c.args.self.now.frames c.feed.new.self c.args.piece.now c.args.self.now.refused c.requires c.in-Ok.ensures.ok
