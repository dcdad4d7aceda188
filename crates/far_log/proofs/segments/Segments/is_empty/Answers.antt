use Rattle.std.proofs.Common.{ap, ◌∙◌, sym, arith, length, eq-eqb}
use Rattle.std.proofs.lemmas.Bool.{eqb-true}
use Rattle.far_log.specs.RegionState.{fill_from}
use Rattle.far_log.specs.Storage.{extents_of}
use Rattle.far_log.proofs.StorageSegments.{segment-is, none-left, count-states, count-tables}
use Rattle.far_log.proofs.segments.Segments.is_empty.Goals as goal

pub len-requires : goal.len-requires
len-requires g c = omega (arith, c.requires, ap length c.self.view_is, count-states _ _ _ c.self.invariant, count-tables _ _ _ c.self.invariant)

pub returns : goal.returns
returns g c =
    let h = segment-is c.self.inside.stacks.size c.self.inside.stacks.stacks c.self.inside.tables.items c.args.self.now c.args.number c.self.invariant c.self.view_is c.requires in (
      λ yes. ap (λ s. s.parts) h.shows ∙ none-left _ (extents_of _) h.kept.stored.adjacent h.kept.stored.end (sym c.len.ensures.len ∙ eqb-true _ _ yes),
      λ no. eq-eqb _ _ (c.len.ensures.len ∙ sym h.fill ∙ ap (fill_from 0) no),
    )
