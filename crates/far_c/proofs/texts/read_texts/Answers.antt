use Rattle.std.proofs.Common.{arith}
use Rattle.far_c.proofs.TextsCopied.{few-texts}
use Rattle.far_c.proofs.texts.read_texts.Goals as goal

pub copy_texts-requires-clause-texts : goal.copy_texts-requires-clause-texts
copy_texts-requires-clause-texts c =
    let few = few-texts c.args.table.now.world.state.table.places c.args.column c.args.from c.args.to c.in_ok-texts.texts c.in_ok-texts.ensures.cells in
    omega (arith, few, c.requires)
