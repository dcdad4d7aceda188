-- What a handle owns: nothing if its pointer is null, else the table and the right to free it.
-- Internal: no public contract cites it.
use base.Fml.{Fml, ftrue, fex}
use base.Stored.{Coded}
use denote.RawPtr.{Ptr, null_ptr}
use Rattle.std.specs.Prelude.{◌≡◌, Option, Some, None}
use Rattle.std.specs.Coded.{coded_option}
use Rattle.std.specs.Box.Ownership.{box_owns}
use Rattle.std.specs.Global.{Global}
use Rattle.std.specs.contracts.impls.GlobalAllocator.TheImpl.{ghosts}
use Rattle.far_c.specs.contracts.table.Table.{the_row}

abbrev pub held : Global → Ptr → Option the_row.Denot → Fml
held alloc p None = fex (p ≡ null_ptr) (λ _. ftrue)
held alloc p (Some x) = box_owns (ghosts.dealloc_token alloc) the_row p x

abbrev pub table_coded : Coded (Option the_row.Denot)
table_coded = coded_option the_row.coded
