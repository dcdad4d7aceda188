use Rattle.std.proofs.Common.{sym, ap, ◌∙◌, subst, Some, set}
use Rattle.far_extrema.specs.Spreads.{at, IsSet}
use Rattle.far_extrema.specs.Runs.{paired, AreInOrder, IsAt, IsGap}
use Rattle.far_extrema.specs.Runs.{RunState}
use Rattle.far_extrema.proofs.RunsLaws.{written, stands, gap_absent}
use Rattle.far_extrema.proofs.run.Run.put.Goals as goal

pub unreachable-requires : goal.unreachable-requires
unreachable-requires c =
    let gap = subst (λ gs. IsGap gs c.args.group c.in-Err.field-0) c.deref.ensures.value c.in-Err.ensures.absent in
    c.requires (sym (ap (λ (h : RunState). at h.min_maxes c.args.group) c.self.view_is) ∙ gap_absent c.self.inside.groups.items c.self.inside.values.items c.args.group c.in-Err.field-0 gap)

edit : (c : goal.After-self-in-Ok-1) → AreInOrder c.self.inside.groups.items (set c.self.inside.values.items c.in-Ok.place c.args.min_max) × IsSet (paired c.self.inside.groups.items c.self.inside.values.items) c.args.group (Some c.args.min_max) (paired c.self.inside.groups.items (set c.self.inside.values.items c.in-Ok.place c.args.min_max))
edit c =
    let place = subst (λ gs. IsAt gs c.args.group c.in-Ok.place) c.deref.ensures.value c.in-Ok.ensures.found in
    written c.self.inside.groups.items c.self.inside.values.items c.args.group c.in-Ok.place c.args.min_max c.self.invariant.0 place

pub invariant_of-self : goal.invariant_of-self
invariant_of-self c =
    let gs = c.self.inside.groups.items in
    let xs = c.self.inside.values.items in
    let place = subst (λ gs. IsAt gs c.args.group c.in-Ok.place) c.deref.ensures.value c.in-Ok.ensures.found in
    let there = stands gs xs c.args.group c.in-Ok.place c.index-previous.result.now c.self.invariant.0 place c.index-previous.ensures in
    let top = rw (c.deref-in-Ok.ensures.value, c.deref-in-Ok-2.ensures.value) at c.top_after-self-inside.ensures in
    ((edit c).0, top (paired gs xs) c.args.group there (edit c).1 c.self.invariant.1)

pub returns : goal.returns
returns c = subst (λ (h : RunState). IsSet h.min_maxes c.args.group (Some c.args.min_max) (paired c.self.inside.groups.items (set c.self.inside.values.items c.in-Ok.place c.args.min_max))) c.self.view_is (edit c).1
