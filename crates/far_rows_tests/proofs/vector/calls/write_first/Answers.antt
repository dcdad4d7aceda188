use Rattle.std.proofs.Common.{◌≡◌, ℕ, ◌-◌, ◌<◌, List, length, Option, None, ap, ◌∙◌, arith}
use Rattle.std.specs.Prelude.{slice_range}
use Rattle.std.proofs.lemmas.List.{length-set}
use Rattle.std.proofs.lemmas.List.Edits.{length-between}
use Rattle.far_scopes.specs.Movement.{Movement}
use Rattle.far_columns.specs.Vector.{Vector, IsShaped, IsVector, elements}
use Rattle.far_columns.specs.Refusing.{write_part_refusal}
use Rattle.far_columns.proofs.RefusingLaws.{within-written}
use Rattle.far_columns.proofs.VectorLaws.{length-elements}
use Rattle.far_rows_tests.proofs.vector.calls.write_first.Goals as goal

-- the part that may be written has the length of its range
part-long : {X K : Type 0} (lists : ℕ → Option (List X)) (v : Vector X) (from to : ℕ) (m : Movement X K) → write_part_refusal m v from to ≡ None → from < to → IsShaped v → IsVector lists v → (part : List X) → part ≡ slice_range (elements lists v) from to → length part ≡ to - from
part-long lists v from to m free some shaped is part lent =
    let within = within-written v from to m free some in
    let all = length-elements lists v shaped is in
    ap length lent ∙ length-between (elements lists v) from to (omega (arith, within, all))

pub bounds-part-0 : goal.bounds-part-0
bounds-part-0 g c =
    let long = part-long _ c.args.vector.now c.args.from c.args.to c.args.objects.now c.requires.free c.requires.some c.len.ensures.shaped c.requires.is c.part_mut-part.result.now c.part_mut-part.ensures.lent in
    omega (arith, long, c.requires.some)

pub returns : goal.returns
returns g c =
    let long = part-long _ c.args.vector.now c.args.from c.args.to c.args.objects.now c.requires.free c.requires.some c.len.ensures.shaped c.requires.is c.part_mut-part.result.now c.part_mut-part.ensures.lent in
    (c.part_mut-part.ensures.written _ (length-set c.part_mut-part.result.now 0 c.args.x ∙ long)).vector.is
