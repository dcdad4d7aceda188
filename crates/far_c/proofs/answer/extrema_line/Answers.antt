use Rattle.std.proofs.Common.{◌≡◌, ℤ, List, Option, Some, refl, subst}
use Rattle.std.proofs.lemmas.Option.{slice_get_read}
use Rattle.std.specs.Prelude.{slice_get}
use Rattle.far_types.specs.declared.key.Key.{Key}
use Rattle.far_c.proofs.answer.extrema_line.Goals as goal

pub returns : goal.returns
returns c =
    let lookup = c.in_ok-line.ensures.lookup in
    let found = slice_get_read c.as_slice.result.now _ c.args.index c.in_ok-line.line.now refl lookup.3.0 lookup.1 in
    let here = subst (λ (lines : List (Option Key × ℤ × ℤ)). slice_get lines c.args.index ≡ Some c.in_ok-line.line.now) c.as_slice.ensures found in
    rw here c.of_extrema.ensures
