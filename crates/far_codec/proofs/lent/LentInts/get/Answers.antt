use Rattle.std.proofs.Common.{ℤ, List, Option, Some, None, cond, get_or, [], sym, ap, ◌∙◌, arith}
use Rattle.std.specs.Prelude.{slice_get}
use Rattle.std.specs.Option.{option_and_then}
use Rattle.far_codec.specs.Reading.{number_of}
use Rattle.far_codec.proofs.LentForms.{number_there, number_past}
use Rattle.far_codec.proofs.lent.LentInts.get.Goals as goal

pub returns-then-i-self-clause-number : goal.returns-then-i-self-clause-number
returns-then-i-self-clause-number c =
    let lent = c.self.inside in
    sym (number_past lent.mask.now lent.words.now c.args.i (omega arith))
    ∙ ap (λ (l : List (Option ℤ)). option_and_then (λ number. number) (slice_get l c.args.i)) c.self.view_is

pub returns-clause-number : goal.returns-clause-number
returns-clause-number c =
    let lent = c.self.inside in
    c.option_in.ensures
    ∙ ap (λ b. cond b None (Some (number_of (get_or lent.words.now c.args.i [])))) c.is_set.ensures
    ∙ sym (number_there lent.mask.now lent.words.now c.args.i (omega arith))
    ∙ ap (λ (l : List (Option ℤ)). option_and_then (λ number. number) (slice_get l c.args.i)) c.self.view_is
