-- A handle after its table was lent for writing.
-- Internal: no public contract cites it.
use Rattle.std.specs.Prelude.{Option, Some}
use Rattle.std.specs.Borrow.{LendsIf, MutBor, Fml}
use Rattle.far_c.specs.TableState.{TableState}
use Rattle.far_c.specs.contracts.table.Table as Table
use Rattle.far_c.specs.declared.handle.Handle.{Handle}
use Rattle.far_c.specs.contracts.handle.Handle.{the_row}

-- the handle with the table w
abbrev pub with_table : Handle → TableState → Handle
with_table h w = record h { table = Some w }

-- h ends with the table that the borrow r ends with, and is unchanged if there is no borrow
abbrev pub LendsTable : MutBor Handle → Option (MutBor TableState) → Fml
LendsTable h r = LendsIf the_row Table.the_row h r (with_table h.now) h.now
