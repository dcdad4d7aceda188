use Rattle.std.proofs.Common.{◌≡◌, take}
use Rattle.far_table.specs.FarGroups.{contents_under}
use Rattle.far_table.proofs.contents.contents_of.Given as goal

abbrev pub invariant-loop-column : goal.invariant-loop-column
invariant-loop-column g l = record {
  contents : l.contents.items ≡ contents_under g.S.FarTickets.content (take l.column-index l.tickets);
  meter : l.meter ≡ l.initial.meter;
}
