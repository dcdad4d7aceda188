-- A handle may be sent to another thread: its table may, and any thread may free the block.
use mathlib.Core.List.{[]}
use base.Shift.{Keyless}
use denote.Exit.{Exit, unchanged, leaves, hidden, under}
use denote.RawPtr.{Ptr}
use denote.Struct.Struct.{exits_of}
use denote.Struct.Owning.{shape, fields, to}
use denote.Param.Send.{IsSend, Quiet, AllSend, owning_send, struct_send, sendable}
use Rattle.std.proofs.Crossing as crossing
use Rattle.std.proofs.alloc.Global.TheSendSync as heap
use Rattle.std.specs.Prelude.{Option, Some, None}
use Rattle.std.specs.Global.{Global}
use Rattle.far_c.specs.Held.{held}
use Rattle.far_c.specs.contracts.table.Table as Table
use Rattle.far_c.proofs.table.Table.TheSendSync.{the_send as table}
use Rattle.far_c.specs.contracts.handle.Handle.{the_row, the_type}

-- a handle owns what a box of its table owns
keyless : (alloc : Global) (p : Ptr) (o : Option Table.the_row.Denot) → Keyless (held alloc p o)
keyless alloc p None = λ _. tt
keyless alloc p (Some x) = ((crossing.Box-send Table.the_row table).owned (record { ptr = p; alloc = alloc; value = x }) []).1

quiet : {D X : Type 0} (into : D → X) (e : Exit X) → Quiet e → Quiet (hidden (under into e))
quiet into unchanged q = λ x w. tt
quiet into (leaves L l S s r₀) q = λ d. q (into d)

pub send : IsSend the_row
send =
    let all : AllSend (fields the_type) = (search sendable, (heap.the_field_send, tt)) in
    owning_send the_type all (λ h. keyless h.alloc h.at h.table) (λ k. quiet (to the_type) (exits_of k (fields the_type)) ((struct_send (shape the_type) all).leaving k))
