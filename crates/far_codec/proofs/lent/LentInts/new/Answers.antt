use Rattle.std.proofs.Common.{length, map, ap, ◌∙◌, arith}
use Rattle.std.specs.Prelude.{is_none}
use Rattle.std.specs.List.{flat_map}
use Rattle.std.proofs.lemmas.List.{length-append}
use Rattle.far_codec.specs.FarForm.{mask_of, number_bytes}
use Rattle.far_codec.specs.Reading.{ints_meaning}
use Rattle.far_codec.proofs.LentForms.{ints_lie_so, size_is, lent_numbers}
use Rattle.far_codec.proofs.lent.LentInts.new.Goals as goal

pub bounds-form-2 : goal.bounds-form-2
bounds-form-2 c = let long = (ints_lie_so c.args.form.now c.requires).cells.long in omega (arith, long)

pub bounds-form-3 : goal.bounds-form-3
bounds-form-3 c = let long = (ints_lie_so c.args.form.now c.requires).cells.long in omega (arith, long)

pub bounds-form-4 : goal.bounds-form-4
bounds-form-4 c = let long = (ints_lie_so c.args.form.now c.requires).cells.long in omega (arith, long)

pub bounds-form-5 : goal.bounds-form-5
bounds-form-5 c = let long = (ints_lie_so c.args.form.now c.requires).cells.long in omega (arith, long)

pub split_at-requires : goal.split_at-requires
split_at-requires c = (ints_lie_so c.args.form.now c.requires).cells.long

pub split_at-requires-2 : goal.split_at-requires-2
split_at-requires-2 c =
    let form = c.args.form.now in
    let numbers = ints_meaning form in
    let size = size_is form c.from_le_bytes-count.result c.mask_size.result c.requires c.from_le_bytes-count.ensures c.mask_size.ensures in
    let whole = c.split_at.ensures.back ∙ (ints_lie_so form c.requires).cells.back in
    omega (arith, size, ap length whole, length-append (mask_of (map is_none numbers)) (flat_map number_bytes numbers))

pub returns : goal.returns
returns c =
    let form = c.args.form.now in
    let size = size_is form c.from_le_bytes-count.result c.mask_size.result c.requires c.from_le_bytes-count.ensures c.mask_size.ensures in
    lent_numbers form c.split_at.result.1.now c.split_at-2.result.0.now c.split_at-2.result.1.now c.as_chunks.result.0.now c.mask_size.result c.requires c.split_at.ensures.back c.split_at-2.ensures.front c.split_at-2.ensures.back c.as_chunks.ensures.front size
