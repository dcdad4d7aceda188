use Rattle.std.proofs.Common.{length, ap, sym, ◌∙◌, arith}
use Rattle.far_codec.proofs.TextFormNextLengths.{form_head, form_small, some_none, next_length}
use Rattle.far_codec.proofs.lengths.length_with_next.Goals as goal

pub bounds-form-0 : goal.bounds-form-0
bounds-form-0 c = let long = form_head c.args.form.now c.requires in omega (arith, long)

pub overflow_add-result : goal.overflow_add-result
overflow_add-result c = omega (arith, form_small c.args.form.now c.requires)

pub overflow_add-result-then-is_some : goal.overflow_add-result-then-is_some
overflow_add-result-then-is_some c = let size = c.bytes_in.type_inv in omega (arith, form_small c.args.form.now c.requires, size.1)

pub returns-then-is_some : goal.returns-then-is_some
returns-then-is_some c =
    let there = some_none c.args.text.now (sym c.is_some.ensures ∙ c.if-is_some.true) in
    omega (arith, next_length c.args.form.now c.args.text.now c.requires c.if-form-eq1.true there, ap length c.bytes_in.ensures.bytes)
