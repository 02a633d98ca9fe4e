use Rattle.std.proofs.Common.{◌≡◌}
use Rattle.tf_machine.specs.Changes.{first_views, first_places}
use Rattle.tf_machine.proofs.tables.Tables.make.Given as goal

abbrev pub invariant-loop-atom : goal.invariant-loop-atom
invariant-loop-atom l = record {
  views : l.views.items ≡ first_views l._atom;
  places : l.places.items ≡ first_places l._atom;
}
