use Rattle.std.proofs.Common.{◌≡◌, ◌<◌, true, length, sym, ap, subst}
use Rattle.std.specs.Prelude.{is_some}
use Rattle.std.proofs.lemmas.Int.{to_z-of_z}
use Rattle.far_types.specs.Effects.{with_observed}
use Rattle.far_extrema.specs.Live.{ExtremaState, group_at}
use Rattle.far_extrema.proofs.HoldersReserve.{either}
use Rattle.far_aggregates.specs.Known.{AreKnown}
use Rattle.far_aggregates.proofs.KnownLaws.{known-elsewhere, known-same, observed-elsewhere}
use Rattle.far_aggregates.proofs.known.KnownExtrema.observe_under.Goals as goal

pub invariant_of-self : goal.invariant_of-self
invariant_of-self c =
    let fits = c.ranges.value in
    let plain = c.self.inside.plain.items in
    let groups = c.self.inside.live.groups in
    let new = c.observe_under.new.self.groups in
    let m = group_at groups c.args.group in
    let key = c.args.key.now in
    let value = c.args.value in
    let reserved : c.args.group < length groups = subst (λ (live : ExtremaState). c.args.group < length live.groups) (sym c.self.view_is) c.requires in
    let keyed : is_some key ≡ true = ap is_some c.in-Some.is in
    either c.observe_under.result {Q = AreKnown plain new}
    (λ is. subst (AreKnown plain) (sym (ap (λ (live : ExtremaState). live.groups) is)) (known-elsewhere plain groups c.args.group (with_observed m (key, value)) reserved (observed-elsewhere m key value keyed) c.self.invariant))
    (λ is. known-same plain groups new (ap (λ (live : ExtremaState). live.groups) is) c.self.invariant) (simp to_z-of_z at c.observe_under.ensures.ok) c.observe_under.ensures.err
