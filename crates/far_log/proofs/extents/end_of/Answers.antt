use Rattle.std.proofs.Common.{◌≡◌, length, suc, arith}
use Rattle.std.proofs.lemmas.List.{length-map}
use Rattle.far_log.specs.declared.part_entry.PartEntry.{PartEntry}
use Rattle.far_log.specs.Storage.{extents_of}
use Rattle.far_log.proofs.StorageExtents.{last-ends}
use Rattle.far_log.proofs.StorageEntries.{extent-is}
use Rattle.far_log.proofs.extents.end_of.Goals as goal

pub returns : goal.returns
returns c =
    let last = c.in-Some.ensures in
    let long : length (extents_of c.args.table.now) ≡ suc c.in-Some.last = omega (arith, length-map c.args.table.now (λ (u : PartEntry). u.extent), last.0, last.1, c.len.ensures.len) in
    last-ends 0 (extents_of c.args.table.now) c.in-Some.last c.get.result.extent c.requires.adjacent long (extent-is c.args.table.now c.in-Some.last c.get.result c.get.ensures)
