use Rattle.std.proofs.Common.{sym, ap, ◌∙◌, subst, None}
use Rattle.far_extrema.specs.Spreads.{at, IsSet}
use Rattle.far_extrema.specs.Runs.{paired, IsAt, IsGap}
use Rattle.far_extrema.specs.Runs.{RunState}
use Rattle.far_extrema.proofs.RunsLaws.{removed_as, stands, gap_absent}
use Rattle.far_extrema.proofs.run.Run.leave.Goals as goal

pub unreachable-requires : goal.unreachable-requires
unreachable-requires c =
    let gap = subst (λ gs. IsGap gs c.args.group c.in-Err.field-0) c.deref.ensures.value c.in-Err.ensures.absent in
    c.requires (sym (ap (λ (h : RunState). at h.min_maxes c.args.group) c.self.view_is) ∙ gap_absent c.self.inside.groups.items c.self.inside.values.items c.args.group c.in-Err.field-0 gap)

pub top_after-self-inside-requires : goal.top_after-self-inside-requires
top_after-self-inside-requires c =
    let place = subst (λ gs. IsAt gs c.args.group c.in-Ok.place) c.deref.ensures.value c.in-Ok.ensures.found in
    rw (c.deref-in-Ok.ensures.value, c.deref-in-Ok-2.ensures.value) (removed_as _ _ _ _ c.args.group c.in-Ok.place c.self.invariant.0 place c.remove.ensures.items c.remove-previous.ensures.items).0

pub invariant_of-self : goal.invariant_of-self
invariant_of-self c =
    let place = subst (λ gs. IsAt gs c.args.group c.in-Ok.place) c.deref.ensures.value c.in-Ok.ensures.found in
    let there = stands c.self.inside.groups.items c.self.inside.values.items c.args.group c.in-Ok.place c.remove-previous.result c.self.invariant.0 place c.remove-previous.ensures.value in
    let edit = removed_as c.self.inside.groups.items c.remove.new.self.items c.self.inside.values.items c.remove-previous.new.self.items c.args.group c.in-Ok.place c.self.invariant.0 place c.remove.ensures.items c.remove-previous.ensures.items in
    let top = rw (c.deref-in-Ok.ensures.value, c.deref-in-Ok-2.ensures.value) at c.top_after-self-inside.ensures in
    (edit.0, top (paired c.self.inside.groups.items c.self.inside.values.items) c.args.group there edit.1 c.self.invariant.1)

pub returns : goal.returns
returns c =
    let place = subst (λ gs. IsAt gs c.args.group c.in-Ok.place) c.deref.ensures.value c.in-Ok.ensures.found in
    subst (λ (h : RunState). IsSet h.min_maxes c.args.group None (paired c.remove.new.self.items c.remove-previous.new.self.items)) c.self.view_is
    (removed_as c.self.inside.groups.items c.remove.new.self.items c.self.inside.values.items c.remove-previous.new.self.items c.args.group c.in-Ok.place c.self.invariant.0 place c.remove.ensures.items c.remove-previous.ensures.items).1
