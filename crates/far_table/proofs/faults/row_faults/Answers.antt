use Rattle.std.proofs.Common.{◌==◌, [], ◌∷◌, sym, ap, ◌∙◌}
use Rattle.far_types.specs.declared.refusal.Refusal.TheVariants as refusal
use Rattle.far_types.specs.FirstOf.{first_of}
use Rattle.far_table.proofs.EditsAcceptance.{full-alone}
use Rattle.far_table.proofs.faults.row_faults.Goals as goal

pub returns-then-is_faultless : goal.returns-then-is_faultless
returns-then-is_faultless c = λ places count.
    c.one_more.ensures
    ∙ ap (λ n. first_of ((n == c.args.limits.now.places, refusal.TableFull) ∷ [])) (sym count)
    ∙ sym (full-alone c.args.schema.now c.args.row.now (sym c.is_faultless.ensures ∙ c.if-is_faultless.true) c.args.limits.now places)
