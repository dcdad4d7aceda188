-- A handle on a table owns exactly what a box of the table owns.
use mathlib.Core.List.{[]}
use mir.Syntax.{impl, tnil, dnil}
use denote.Signature.{Slot, plain}
use Rattle.std.proofs.BoxSteps.Form.{Bx}
use Rattle.std.specs.contracts.alloc.Global as Heap
use Rattle.std.proofs.alloc.Global.TheLaws as heap
use Rattle.std.specs.contracts.impls.GlobalAllocator.TheImpl.{ghosts, dict}
use Rattle.far_c.specs.contracts.table.Table as Table
use Rattle.far_c.proofs.table.Table.TheLaws as table
use Rattle.far_c.specs.contracts.loose.Loose as Loose
use Rattle.far_c.specs.contracts.handle.Handle as Handle

abbrev pub E : Bx
E = record { row = Table.the_row; laws = table.the_row_laws; al = record { row = Heap.the_row; laws = heap.the_row_laws; g = ghosts; d = dict; drops = impl [] tnil dnil } }

abbrev pub FromLoose : Slot 0
FromLoose = plain (λ _. Loose.the_row Table.the_row Heap.the_row ghosts)

abbrev pub FromHandle : Slot 0
FromHandle = plain (λ _. Handle.the_row)
