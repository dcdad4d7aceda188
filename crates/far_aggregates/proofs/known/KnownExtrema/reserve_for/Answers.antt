use Rattle.std.proofs.Common.{sym, subst}
use Rattle.far_extrema.proofs.HoldersReserve.{either}
use Rattle.far_aggregates.specs.Known.{AreKnown}
use Rattle.far_aggregates.proofs.KnownLaws.{known-reserved, known-same}
use Rattle.far_aggregates.proofs.known.KnownExtrema.reserve_for.Goals as goal

pub invariant_of-self : goal.invariant_of-self
invariant_of-self c =
    let plain = c.make_place.new.plain.items in
    let groups = c.self.inside.live.groups in
    let new = c.reserve_for.new.self.groups in
    let known = subst (λ plain. AreKnown plain groups) (sym c.make_place.ensures) c.self.invariant in
    either c.reserve_for.result {Q = AreKnown plain new}
    (λ is. known-reserved plain groups new c.args.group is known)
    (λ is. known-same plain groups new is known) c.reserve_for.ensures.groups c.reserve_for.ensures.err
