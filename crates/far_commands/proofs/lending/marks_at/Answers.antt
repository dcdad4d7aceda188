use Rattle.std.proofs.Common.{◌++◌, ◌∙◌, ap, sym}
use Rattle.std.proofs.lemmas.Option.{slice_get-map}
use Rattle.far_types.specs.Table.{Place}
use Rattle.far_frame.specs.Lending.{flags_of}
use Rattle.far_commands.proofs.PiecesLending.{marks-end, marks-more}
use Rattle.far_commands.proofs.lending.marks_at.Goals as goal

pub returns-in_default : goal.returns-in_default
returns-in_default g c = record {
  ok =
      let places = c.args.view.now.table.places in
      let none = slice_get-map (λ (p : Place). p.alive) places c.loop-place.place ∙ sym c.is_alive.ensures ∙ c.in_default.is in
      marks-end (flags_of places) c.loop-place.place c.args.to c.loop-place.page _ c.loop-place.invariant none;
}

pub loop-place-preserved : goal.loop-place-preserved
loop-place-preserved g c =
    let places = c.args.view.now.table.places in
    let there = slice_get-map (λ (p : Place). p.alive) places c.loop-place.place ∙ sym c.is_alive.ensures ∙ c.in-Some.is in
    marks-more (flags_of places) c.loop-place.place c.args.to c.loop-place.page _ c.loop-place.invariant c.in-Some.alive c.byte.new.self there c.loop-place-test.true
    (c.in_ok-byte.ensures.ok ∙ ap (λ text. c.loop-place.page ++ text) c.mark.ensures)
