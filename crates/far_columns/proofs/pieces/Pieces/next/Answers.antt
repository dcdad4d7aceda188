use Rattle.std.proofs.Common.{◌≡◌, ◌<◌, min, List, ◌∷◌, None, sym, ap, subst, ◌∙◌, arith}
use Rattle.std.specs.Prelude.{slice_range}
use Rattle.far_scopes.specs.Movement.{list_of}
use Rattle.far_columns.specs.Vector.{elements}
use Rattle.far_columns.specs.Pieces.{pieces_of}
use Rattle.far_columns.specs.Refusing.{part_refusal, pieces_refusal}
use Rattle.far_columns.proofs.RefusingParts.{range-free, part-free, next-free}
use Rattle.far_columns.proofs.PiecesLaws.{pieces-step}
use Rattle.far_columns.proofs.pieces.Pieces.next.Goals as goal

pub unreachable-requires : goal.unreachable-requires
unreachable-requires g c =
    let there = range-free c.self.inside.objects.now c.self.inside.vector.now c.self.inside.from c.self.inside.to c.self.invariant.free in
    let more : c.self.inside.from < c.self.inside.to = omega (arith, there.0, c.if-self.false) in
    let end = c.min-end.ensures ∙ ap (min c.self.inside.to) c.group_end.ensures.end in
    let free = part-free c.self.inside.objects.now c.self.inside.vector.now c.self.inside.from c.self.inside.to c.self.invariant.free c.group_end.ensures.shaped more in
    let due = c.in_default.ensures.refused ∙ subst (λ e. part_refusal c.self.inside.objects.now c.self.inside.vector.now c.self.inside.from e ≡ None) (sym end) free in
    cc due

pub invariant_of-self : goal.invariant_of-self
invariant_of-self g c =
    let there = range-free c.self.inside.objects.now c.self.inside.vector.now c.self.inside.from c.self.inside.to c.self.invariant.free in
    let more : c.self.inside.from < c.self.inside.to = omega (arith, there.0, c.if-self.false) in
    let end = c.min-end.ensures ∙ ap (min c.self.inside.to) c.group_end.ensures.end in
    record {
      is = c.self.invariant.is;
      free = subst (λ e. pieces_refusal c.self.inside.objects.now c.self.inside.vector.now e c.self.inside.to ≡ None) (sym end) (next-free c.self.inside.objects.now c.self.inside.vector.now c.self.inside.from c.self.inside.to c.self.invariant.free c.group_end.ensures.shaped more);
    }

pub returns-clause-first : goal.returns-clause-first
returns-clause-first g c =
    let there = range-free c.self.inside.objects.now c.self.inside.vector.now c.self.inside.from c.self.inside.to c.self.invariant.free in
    let more : c.self.inside.from < c.self.inside.to = omega (arith, there.0, c.if-self.false) in
    let end = c.min-end.ensures ∙ ap (min c.self.inside.to) c.group_end.ensures.end in
    let all : List g.row.T.Denot = elements (list_of g.T.Elem.meaning g.S.FarTickets.content c.self.inside.objects.now) c.self.inside.vector.now in
    sym c.self.view_is
    ∙ subst (λ e. pieces_of all c.self.inside.vector.now.size c.self.inside.from c.self.inside.to ≡ slice_range all c.self.inside.from e ∷ pieces_of all c.self.inside.vector.now.size e c.self.inside.to) (sym end) (pieces-step all c.self.inside.vector.now.size c.group_end.ensures.shaped.some c.self.inside.from c.self.inside.to more)
    ∙ ap (λ p. p ∷ pieces_of all c.self.inside.vector.now.size c.min-end.result c.self.inside.to) (sym c.in-Ok.ensures.part)
