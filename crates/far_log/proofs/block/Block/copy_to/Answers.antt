use Rattle.std.proofs.Common.{◌≡◌, ◌+◌, ◌-◌, length, replicate, ap, arith, length-append}
use Rattle.std.proofs.lemmas.List.{length-replicate}
use Rattle.far_log.proofs.StackingPuts.{put-copied_behind}
use Rattle.far_log.proofs.block.Block.copy_to.Goals as goal

pub copy_within-requires-clause-in_bounds : goal.copy_within-requires-clause-in_bounds
copy_within-requires-clause-in_bounds g c =
    let more = replicate (c.args.to + c.args.len - c.args.self.now.items.len) c.index-filler.result.now in
    omega (arith, c.requires.within, ap length c.lengthen.ensures.grown, length-append c.args.self.now.items.items more, c.lengthen.new.self.items.ok.0)

pub copy_within-requires-clause-dest_in_bounds : goal.copy_within-requires-clause-dest_in_bounds
copy_within-requires-clause-dest_in_bounds g c =
    let more = replicate (c.args.to + c.args.len - c.args.self.now.items.len) c.index-filler.result.now in
    omega (arith, ap length c.lengthen.ensures.grown, length-append c.args.self.now.items.items more, length-replicate (c.args.to + c.args.len - c.args.self.now.items.len) c.index-filler.result.now, c.lengthen.new.self.items.ok.0, c.args.self.now.items.ok.0)

pub returns-clause-put : goal.returns-clause-put
returns-clause-put g c =
    let more = replicate (c.args.to + c.args.len - c.args.self.now.items.len) c.index-filler.result.now in
    let count : c.args.from + c.args.len - c.args.from ≡ c.args.len = omega arith in
    rw (c.copy_within.ensures.items, c.lengthen.ensures.grown, count) (put-copied_behind c.args.self.now.items.items more c.args.from c.args.len c.args.to c.requires.within
    (omega (arith, length-append c.args.self.now.items.items more, length-replicate (c.args.to + c.args.len - c.args.self.now.items.len) c.index-filler.result.now, c.args.self.now.items.ok.0)))
