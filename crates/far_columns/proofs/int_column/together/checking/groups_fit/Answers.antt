use Rattle.std.proofs.Common.{◌∙◌, arith}
use Rattle.std.proofs.lemmas.List.{length-set}
use Rattle.far_columns.proofs.NumbersTogetherBeginning.{sizes-more, sizes-some}
use Rattle.far_columns.proofs.int_column.together.checking.groups_fit.Goals as goal

pub loop-k-preserved : goal.loop-k-preserved
loop-k-preserved g c = record {
  long = length-set c.loop-k.sizes c.loop-k.k c.size.result ∙ c.loop-k.invariant.long;
  so = rw c.size.ensures (sizes-more c.args.columns.now c.loop-k.sizes c.loop-k.k c.index-columns-k.result c.loop-k-test.true (omega (arith, c.loop-k-test.true, c.requires.few, c.loop-k.invariant.long)) c.index-columns-k.is c.loop-k.invariant.so);
}

pub fits_in_order-requires-clause-some : goal.fits_in_order-requires-clause-some
fits_in_order-requires-clause-some g c κs within =
    sizes-some c.args.columns.now c.loop-k.sizes c.loop-k.k c.loop-k-test.false c.loop-k.auto.k-end c.requires.shaped c.loop-k.invariant.so
