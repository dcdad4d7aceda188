use Rattle.std.proofs.Common.{sym, ◌∙◌}
use Rattle.far_codec.proofs.PlainNumbersLaws.{form_tells}
use Rattle.far_codec.proofs.ints.OptionI64Elem.spells.Goals as goal

pub returns-then-tells_missing-clause-exact : goal.returns-then-tells_missing-clause-exact
returns-then-tells_missing-clause-exact c = (
  λ h. (c.spells_masked.ensures.found h).0,
  λ e. c.spells_masked.ensures.only e (sym (form_tells c.args.bytes.now c.args.view.now e) ∙ sym c.tells_missing.ensures ∙ c.if-tells_missing.true),
)

pub returns-else-tells_missing-clause-exact : goal.returns-else-tells_missing-clause-exact
returns-else-tells_missing-clause-exact c = (
  λ h. (c.spells_present.ensures.found h).0,
  λ e. c.spells_present.ensures.only e (sym (form_tells c.args.bytes.now c.args.view.now e) ∙ sym c.tells_missing.ensures ∙ c.if-tells_missing.false),
)
