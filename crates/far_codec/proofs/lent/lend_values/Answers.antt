use Rattle.std.proofs.Common.{arith}
use Rattle.far_codec.proofs.LentForms.{form_is_long, is_of_ints, is_of_texts}
use Rattle.far_codec.proofs.lent.lend_values.Goals as goal

pub bounds-form-1 : goal.bounds-form-1
bounds-form-1 c = let long = form_is_long c.args.form.now c.requires in omega (arith, long)

pub new-requires : goal.new-requires
new-requires c = is_of_texts c.args.form.now c.requires c.if-form-eq1.true

pub new-requires-else-form-eq1 : goal.new-requires-else-form-eq1
new-requires-else-form-eq1 c = is_of_ints c.args.form.now c.requires c.if-form-eq1.false
