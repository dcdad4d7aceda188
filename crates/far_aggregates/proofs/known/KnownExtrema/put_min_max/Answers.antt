use Rattle.std.proofs.Common.{◌<◌, length, sym, ap, subst}
use Rattle.far_extrema.specs.Live.{ExtremaState, group_at}
use Rattle.far_extrema.specs.MinMaxes.{put_min_max}
use Rattle.far_aggregates.specs.Known.{AreKnown}
use Rattle.far_aggregates.proofs.KnownLaws.{known-elsewhere, known-noted, put-plain, put-elsewhere}
use Rattle.far_aggregates.proofs.known.KnownExtrema.put_min_max.Goals as goal

pub invariant_of-self : goal.invariant_of-self
invariant_of-self c =
    let plain = c.self.inside.plain.items in
    let groups = c.self.inside.live.groups in
    let m = group_at groups c.args.group in
    let key = c.args.key.now in
    let reserved : c.args.group < length groups = subst (λ (live : ExtremaState). c.args.group < length live.groups) (sym c.self.view_is) c.requires.reserved in
    let is = ap (λ (live : ExtremaState). live.groups) c.put_min_max.ensures in
    subst (AreKnown c.note.new.plain.items) (sym is) (known-noted plain c.note.new.plain.items groups c.args.group (put_min_max m key c.args.min_max.now) c.args.min_max.now reserved (put-plain m key c.args.min_max.now c.if-is_none.ensures) c.self.invariant c.note.ensures)

pub invariant_of-self-else-is_none : goal.invariant_of-self-else-is_none
invariant_of-self-else-is_none c =
    let plain = c.self.inside.plain.items in
    let groups = c.self.inside.live.groups in
    let m = group_at groups c.args.group in
    let key = c.args.key.now in
    let reserved : c.args.group < length groups = subst (λ (live : ExtremaState). c.args.group < length live.groups) (sym c.self.view_is) c.requires.reserved in
    let is = ap (λ (live : ExtremaState). live.groups) c.put_min_max.ensures in
    subst (AreKnown plain) (sym is) (known-elsewhere plain groups c.args.group (put_min_max m key c.args.min_max.now) reserved (put-elsewhere m key c.args.min_max.now c.if-is_none.ensures) c.self.invariant)
