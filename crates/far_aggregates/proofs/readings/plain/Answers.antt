use Rattle.std.proofs.Common.{refl, ◌≡◌, Some, true, sym, ap, ◌∙◌, Option, None, ℕ}
use Rattle.std.specs.Prelude.{Bool, is_none, is_some, not}
use Rattle.far_aggregates.proofs.ReadingsLaws.{plain-now}
use Rattle.far_aggregates.proofs.readings.plain.Goals as goal

none_of : (o : Option ℕ) (b : Bool) → is_some o ≡ not b → b ≡ true → is_none o ≡ true
none_of None b h k = refl
none_of (Some x) b h k = cc

pub returns-then-left-eq0 : goal.returns-then-left-eq0
returns-then-left-eq0 c size places h =
    ap Some c.plain.ensures ∙ plain-now size places c.args.aggregate.now c.in-Totals.live c.in-Totals.is h (none_of c.args.aggregate.now.spec.key c.is_none.result c.is_none.ensures c.if-is_none.true) (sym c.left.ensures ∙ c.if-left-eq0.true)
