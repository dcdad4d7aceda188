use Rattle.std.proofs.Common.{◌≡◌, take}
use Rattle.far_offload.specs.Jobs.{columns_under}
use Rattle.far_offload.proofs.content.contents_under.Given as goal

abbrev pub invariant-loop-number : goal.invariant-loop-number
invariant-loop-number g l = record {
  contents : l.contents.items ≡ columns_under g.S.FarTickets.content (take l.number-index l.tickets);
  meter : l.meter ≡ l.initial.meter;
}
