use Rattle.std.proofs.Common.{slice_index_or}
use Rattle.tf_links.proofs.StandingLemmas.{listed_within}
use Rattle.tf_scopes.proofs.found.first_given.Goals as goal

pub given_by-requires : goal.given_by-requires
given_by-requires c =
    c.requires (slice_index_or c.args.atoms.now c.loop-atom.atom-index 0) (listed_within c.args.atoms.now c.loop-atom.atom-index c.loop-atom-test.true)
