use Rattle.std.proofs.Common.{◌-◌, arith}
use Rattle.far_log.specs.Storage.{extents_of}
use Rattle.far_log.proofs.StorageParts.{adjacent-sorted, at-or-behind}
use Rattle.far_log.proofs.StorageEntries.{extent-is}
use Rattle.far_log.proofs.extents.number_at.Goals as goal

pub returns-then-get-offset : goal.returns-then-get-offset
returns-then-get-offset c = λ k s e at.
    let table = c.args.table.now in
    let extents = extents_of table in
    let number = c.saturating_sub-number.result in
    let extent = c.get.result.extent in
    let sorted = adjacent-sorted 0 extents c.requires.adjacent in
    let here = extent-is table number c.get.result c.get.ensures in
    let under = at-or-behind extents number k c.args.offset s extent sorted here (omega (arith, c.if-get-offset.true)) e at in
    let over = at-or-behind extents k number c.args.offset extent s sorted e (omega (arith, at)) here (omega (arith, c.if-get-offset.true)) in
    omega (arith, under, over)

pub returns-then-get-offset-2 : goal.returns-then-get-offset-2
returns-then-get-offset-2 c = λ k s e at.
    let table = c.args.table.now in
    let extents = extents_of table in
    let last = c.len-last.result - 1 in
    let extent = c.get-2.result.extent in
    let sorted = adjacent-sorted 0 extents c.requires.adjacent in
    let here = extent-is table last c.get-2.result c.get-2.ensures in
    let under = at-or-behind extents last k c.args.offset s extent sorted here (omega (arith, c.if-get-offset-2.true)) e at in
    let over = at-or-behind extents k last c.args.offset extent s sorted e (omega (arith, at)) here (omega (arith, c.if-get-offset-2.true)) in
    omega (arith, under, over)
