use Rattle.std.proofs.Common.{◌≡◌, ◌++◌, length, map}
use Rattle.far_types.specs.Lent.{text_cell}
use Rattle.far_frame.proofs.world.lending.copy_texts.Given as goal

abbrev pub invariant-loop-cell : goal.invariant-loop-cell
invariant-loop-cell g l = record {
  cells : map text_cell l.values.items ++ map (λ cell. text_cell cell.0) l.lent ≡ map (λ cell. text_cell cell.0) l.fn.lent;
  flags : l.flags.items ++ map (λ cell. cell.1) l.lent ≡ map (λ cell. cell.1) l.fn.lent;
}

abbrev pub decreases-loop-cell : goal.decreases-loop-cell
decreases-loop-cell g l = length l.lent
