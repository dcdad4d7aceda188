use Rattle.std.proofs.Common.{arith, rules, refl}
use Rattle.far_script.proofs.FieldsLaws.{cells-go-on}
use Rattle.far_script.proofs.field.cells_in.Goals as goal

pub loop-more-preserved : goal.loop-more-preserved
loop-more-preserved c = record {
  text = search rules;
  there = omega (arith, c.in_ok-len.ensures.there);
  cells = cells-go-on _ _ c.loop-more.count c.loop-more.rest.now _ _ _ _ _ _
      c.in_ok-len.ensures.cell (search rules) refl c.behind-rest.ensures (search rules) (rw c.loop-more-test.true at c.loop-more.invariant.cells);
}
