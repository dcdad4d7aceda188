use Rattle.std.proofs.Common.{refl, arith}
use Rattle.far_extrema.proofs.PartsLaws.{gone_in, parts_length}
use Rattle.far_extrema.proofs.runs.drop_if_empty.Goals as goal

pub remove-requires : goal.remove-requires
remove-requires c = (let same = parts_length c.args.firsts.now.items c.args.runs.now.items c.requires.parts in omega (arith, same, c.requires.in_range))

pub returns-clause-rise : goal.returns-clause-rise
returns-clause-rise c =
    (gone_in c.args.firsts.now.items c.remove.new.self.items c.args.runs.now.items c.remove-2.new.self.items c.args.place c.index.result.now c.requires.rise c.requires.parts c.requires.in_range c.index.ensures (c.if-not-is_empty.ensures refl) c.remove.ensures.items c.remove-2.ensures.items).0.0

pub returns-clause-parts : goal.returns-clause-parts
returns-clause-parts c =
    (gone_in c.args.firsts.now.items c.remove.new.self.items c.args.runs.now.items c.remove-2.new.self.items c.args.place c.index.result.now c.requires.rise c.requires.parts c.requires.in_range c.index.ensures (c.if-not-is_empty.ensures refl) c.remove.ensures.items c.remove-2.ensures.items).0.1

pub returns-clause-same : goal.returns-clause-same
returns-clause-same c =
    (gone_in c.args.firsts.now.items c.remove.new.self.items c.args.runs.now.items c.remove-2.new.self.items c.args.place c.index.result.now c.requires.rise c.requires.parts c.requires.in_range c.index.ensures (c.if-not-is_empty.ensures refl) c.remove.ensures.items c.remove-2.ensures.items).1
