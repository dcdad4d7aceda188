use Rattle.std.proofs.Common.{ap}
use Rattle.far_extrema.specs.Live.{ExtremaState}
use Rattle.far_aggregates.proofs.KnownLaws.{known-reserved}
use Rattle.far_aggregates.proofs.known.KnownExtrema.reserve.Goals as goal

pub invariant_of-self : goal.invariant_of-self
invariant_of-self c = known-reserved c.self.inside.plain.items c.self.inside.live.groups c.make_room.new.self.groups c.args.group (ap (λ (live : ExtremaState). live.groups) c.make_room.ensures) c.self.invariant
