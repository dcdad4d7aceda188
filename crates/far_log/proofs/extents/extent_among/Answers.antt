use Rattle.std.proofs.Common.{arith}
use Rattle.far_log.proofs.StorageEntries.{entry-behind, entry-before}
use Rattle.far_log.proofs.extents.extent_among.Goals as goal
use Rattle.far_log.proofs.extents.extent_among.Goals.{then-entries-middle, else-entries-middle}

pub loop-size-preserved : goal.loop-size-preserved
loop-size-preserved c = elim c.if-entries-middle.branch [
  | then-entries-middle w ↦ record {
    some = omega (arith, c.loop-size.invariant.some);
    within = omega (arith, w.low-is, c.loop-size.invariant.within);
    between = λ k s e f.
        let was = c.loop-size.invariant.between k s e f in
        let behind = entry-behind c.args.entries.now _ k c.args.offset s _ c.requires.sorted (omega (arith, c.loop-size.invariant.within)) w.if-entries-middle.true e f in
        (omega (arith, w.low-is, behind), omega (arith, w.low-is, was.1));
  }
  | else-entries-middle w ↦ record {
    some = omega (arith, c.loop-size.invariant.some);
    within = omega (arith, w.low-is, c.loop-size.invariant.within);
    between = λ k s e f.
        let was = c.loop-size.invariant.between k s e f in
        let under = entry-before c.args.entries.now _ k c.args.offset s _ c.requires.sorted (omega (arith, c.loop-size.invariant.within)) w.if-entries-middle.false e f in
        (omega (arith, w.low-is, was.0), omega (arith, w.low-is, under));
  }
]
