use Rattle.std.proofs.Common.{◌≡◌, Option, Some, None, IsSome, length, refl, ap, subst, arith}
use Rattle.std.specs.Prelude.{IsSomeAnd}
use Rattle.far_log.specs.RegionState.{list_at}
use Rattle.far_log.specs.Storage.{extents_of}
use Rattle.far_log.proofs.RegionStateLaws.{part-there}
use Rattle.far_log.proofs.StorageSegments.{segment-is, long-in, count-states, count-tables}
use Rattle.far_log.proofs.segments.Segments.part_long.Goals as goal

some-long : {A : Type 0} (P : A → Type 0) (o : Option A) → IsSomeAnd o P → IsSome o
some-long P (Some x) h = refl
some-long P None h = absurd h

pub slice-requires-clause-there : goal.slice-requires-clause-there
slice-requires-clause-there g c =
    let lt = part-there c.args.self.now c.args.at (some-long _ _ c.requires) in
    omega (arith, lt, ap length c.self.view_is, count-states _ _ _ c.self.invariant, count-tables _ _ _ c.self.invariant)

pub slice-requires-clause-some : goal.slice-requires-clause-some
slice-requires-clause-some g c =
    let lt = part-there c.args.self.now c.args.at (some-long _ _ c.requires) in
    let h = segment-is c.self.inside.stacks.size c.self.inside.stacks.stacks c.self.inside.tables.items c.args.self.now c.args.at.segment c.self.invariant c.self.view_is lt in
    let l = long-in _ (extents_of _) c.args.at.offset c.args.len h.kept.stored.adjacent h.kept.stored.end (subst (λ r. IsSomeAnd (list_at r.parts c.args.at.offset) (λ list. length list ≡ c.args.len)) h.shows c.requires) in
    l.some

pub slice-requires-clause-within : goal.slice-requires-clause-within
slice-requires-clause-within g c =
    let lt = part-there c.args.self.now c.args.at (some-long _ _ c.requires) in
    let h = segment-is c.self.inside.stacks.size c.self.inside.stacks.stacks c.self.inside.tables.items c.args.self.now c.args.at.segment c.self.invariant c.self.view_is lt in
    let l = long-in _ (extents_of _) c.args.at.offset c.args.len h.kept.stored.adjacent h.kept.stored.end (subst (λ r. IsSomeAnd (list_at r.parts c.args.at.offset) (λ list. length list ≡ c.args.len)) h.shows c.requires) in
    l.within

pub returns : goal.returns
returns g c =
    let lt = part-there c.args.self.now c.args.at (some-long _ _ c.requires) in
    let h = segment-is c.self.inside.stacks.size c.self.inside.stacks.stacks c.self.inside.tables.items c.args.self.now c.args.at.segment c.self.invariant c.self.view_is lt in
    let l = long-in _ (extents_of _) c.args.at.offset c.args.len h.kept.stored.adjacent h.kept.stored.end (subst (λ r. IsSomeAnd (list_at r.parts c.args.at.offset) (λ list. length list ≡ c.args.len)) h.shows c.requires) in
    rw (h.shows, c.slice.ensures) l.shows
