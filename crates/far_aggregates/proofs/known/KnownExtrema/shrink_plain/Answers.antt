use Rattle.std.proofs.Common.{◌<◌, List, Option, length, None, refl, sym, ap, ◌∙◌, subst, slice_get}
use Rattle.std.specs.Prelude.{ℤ, ◌<ℤ◌}
use Rattle.std.proofs.lemmas.Int.{to_z-of_z}
use Rattle.std.specs.FinMap as fin
use Rattle.far_types.specs.Answers.{Extrema}
use Rattle.far_extrema.specs.Live.{ExtremaState, group_at}
use Rattle.far_extrema.specs.MinMaxes.{put_min_max}
use Rattle.far_aggregates.specs.Known.{AreKnown}
use Rattle.far_aggregates.proofs.AccumulatorsExtrema.{left-within}
use Rattle.far_aggregates.proofs.KnownLaws.{known-noted, put-plain}
use Rattle.far_aggregates.proofs.known.KnownExtrema.shrink_plain.Goals as goal

pub returns-then-is_strictly_within : goal.returns-then-is_strictly_within
returns-then-is_strictly_within g c =
    let fits = c.ranges.value in
    let groups = c.args.self.now.groups in
    let inside : (c.in-Some.min_max.0 <ℤ c.args.value) × (c.args.value <ℤ c.in-Some.min_max.1) = simp to_z-of_z at c.if-is_strictly_within.ensures.0 refl in
    let found = ap (λ (live : ExtremaState). fin.get (group_at live.groups c.args.group) None) (sym c.self.view_is) ∙ c.self.invariant c.args.group c.in-Some.min_max (sym (ap (λ (plain : List (Option (ℤ × ℤ))). slice_get plain c.args.group) c.as_slice.ensures.value) ∙ c.in-Some.ensures) in
    ap (λ (gs : List Extrema). record c.args.self.now { groups = gs })
    (left-within c.args.group groups None c.args.value (g.R.RowsLeft.extremes c.args.rows.now) c.in-Some.min_max c.requires.previous found inside.0 inside.1)

pub invariant_of-self : goal.invariant_of-self
invariant_of-self g c =
    let plain = c.self.inside.plain.items in
    let groups = c.self.inside.live.groups in
    let m = group_at groups c.args.group in
    let o = g.R.RowsLeft.extremes c.args.rows.now in
    let reserved : c.args.group < length groups = subst (λ (live : ExtremaState). c.args.group < length live.groups) (sym c.self.view_is) c.requires.reserved in
    let is = ap (λ (live : ExtremaState). live.groups) c.shrink-left.ensures.shrunk in
    let left = c.shrink-left.ensures.left ∙ put-plain m None o refl in
    subst (AreKnown c.note.new.plain.items) (sym is) (known-noted plain c.note.new.plain.items groups c.args.group (put_min_max m None o) c.shrink-left.result reserved left c.self.invariant c.note.ensures)
