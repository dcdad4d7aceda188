use Rattle.std.proofs.Common.{◌≡◌, ◌<◌, true, length, sym, ap, subst}
use Rattle.std.specs.Prelude.{is_some}
use Rattle.far_extrema.specs.Live.{ExtremaState, group_at}
use Rattle.far_extrema.specs.MinMaxes.{put_min_max}
use Rattle.far_aggregates.specs.Known.{AreKnown}
use Rattle.far_aggregates.proofs.KnownLaws.{known-elsewhere, put-elsewhere}
use Rattle.far_aggregates.proofs.known.KnownExtrema.shrink.Goals as goal

pub invariant_of-self : goal.invariant_of-self
invariant_of-self g c =
    let plain = c.self.inside.plain.items in
    let groups = c.self.inside.live.groups in
    let m = group_at groups c.args.group in
    let key = c.args.key.now in
    let o = g.R.RowsLeft.extremes c.args.rows.now in
    let reserved : c.args.group < length groups = subst (λ (live : ExtremaState). c.args.group < length live.groups) (sym c.self.view_is) c.requires.reserved in
    let keyed : is_some key ≡ true = ap is_some c.in-Some.is in
    let is = ap (λ (live : ExtremaState). live.groups) c.shrink.ensures.shrunk in
    subst (AreKnown plain) (sym is) (known-elsewhere plain groups c.args.group (put_min_max m key o) reserved (put-elsewhere m key o keyed) c.self.invariant)
