use Rattle.std.proofs.Common.{Some, sym, ap, ◌∙◌}
use Rattle.std.specs.Option.{option_copied}
use Rattle.far_shared.proofs.four.are_like.Goals as goal

pub returns-then-is_same : goal.returns-then-is_same
returns-then-is_same g c = (
  λ alike. (
    c.in-Some.spec.now,
    sym c.spec.ensures ∙ ap option_copied c.in-Some.is,
    sym c.spec-2.ensures ∙ ap option_copied c.in-Some-spec.is ∙ ap Some (sym (c.is_same.ensures.0 c.if-is_same.true)),
    sym c.schema.ensures ∙ c.have_same_kinds.ensures.0 alike ∙ c.schema-then-is_same.ensures,
  ),
  λ all. c.have_same_kinds.ensures.1 (c.schema.ensures ∙ all.3 ∙ sym c.schema-then-is_same.ensures),
)
