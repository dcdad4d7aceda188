use Rattle.std.proofs.Common.{◌≡◌}
use Rattle.far_table.specs.MixedGroups.{AreReadBelow}
use Rattle.far_table.proofs.contents.contents_away.Given as goal

abbrev pub invariant-loop-column : goal.invariant-loop-column
invariant-loop-column g l = record {
  contents : AreReadBelow g.S.FarTickets.content record { rows = l.rows; group = l.group } l.column l.spec l.contents.items;
  meter : l.meter ≡ l.initial.meter;
}
