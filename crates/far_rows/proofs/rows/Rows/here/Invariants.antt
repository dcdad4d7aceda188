use Rattle.std.proofs.Common.{◌≡◌}
use Rattle.std.specs.Prelude.{drop, map}
use Rattle.far_types.specs.FirstOf.{first_of}
use Rattle.far_rows.specs.Refusing.{away_at}
use Rattle.far_rows.proofs.rows.Rows.here.Given as goal

abbrev pub invariant-loop-column_index : goal.invariant-loop-column_index
invariant-loop-column_index g l = first_of (map (away_at l.self l.group) l.column_index-items) ≡ first_of (map (away_at l.self l.group) (drop l.column_index-index l.column_index-items))
