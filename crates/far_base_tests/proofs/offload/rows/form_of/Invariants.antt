use Rattle.far_codec.specs.TextForm.{IsTextsForm}
use Rattle.far_base_tests.proofs.offload.rows.form_of.Given as goal

abbrev pub invariant-loop-word : goal.invariant-loop-word
invariant-loop-word l = IsTextsForm l.form.items
