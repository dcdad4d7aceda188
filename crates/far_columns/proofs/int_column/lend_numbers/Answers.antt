use Rattle.std.proofs.Common.{◌∙◌}
use Rattle.std.specs.List.{flat_map}
use Rattle.far_columns.proofs.NumbersFlags.{values-with_flags, joined-values, joined-flags, same_length-flags, flags-same_length}
use Rattle.far_columns.proofs.int_column.lend_numbers.Goals as goal

pub new-requires-after_bounds : goal.new-requires-after_bounds
new-requires-after_bounds g c κs within = flags-same_length g.S.FarTickets.content c.args.objects.now c.args.column.now c.len-len.ensures.shaped c.requires.is c.args.alive.now c.args.from c.args.to c.requires.flags c.in_ok-pieces.ensures.refused c.flags.result.now (flat_map (λ piece. piece) c.in_ok-pieces.pieces) c.flags.ensures c.in_ok-pieces.ensures.joined

pub returns-clause-values : goal.returns-clause-values
returns-clause-values g c = rw c.new.ensures (values-with_flags c.in_ok-pieces.pieces c.flags.result.now ∙ c.in_ok-pieces.ensures.pieces)

pub returns-clause-joined : goal.returns-clause-joined
returns-clause-joined g c = rw c.new.ensures (joined-values c.in_ok-pieces.pieces c.flags.result.now ∙ c.in_ok-pieces.ensures.joined)

pub returns-clause-alive : goal.returns-clause-alive
returns-clause-alive g c =
    let same_length = flags-same_length g.S.FarTickets.content c.args.objects.now c.args.column.now c.len-len.ensures.shaped c.requires.is c.args.alive.now c.args.from c.args.to c.requires.flags c.in_ok-pieces.ensures.refused c.flags.result.now (flat_map (λ piece. piece) c.in_ok-pieces.pieces) c.flags.ensures c.in_ok-pieces.ensures.joined in
    rw c.new.ensures (joined-flags c.in_ok-pieces.pieces c.flags.result.now same_length ∙ c.flags.ensures)

pub returns-clause-same_length : goal.returns-clause-same_length
returns-clause-same_length g c =
    let same_length = flags-same_length g.S.FarTickets.content c.args.objects.now c.args.column.now c.len-len.ensures.shaped c.requires.is c.args.alive.now c.args.from c.args.to c.requires.flags c.in_ok-pieces.ensures.refused c.flags.result.now (flat_map (λ piece. piece) c.in_ok-pieces.pieces) c.flags.ensures c.in_ok-pieces.ensures.joined in
    rw c.new.ensures (same_length-flags c.in_ok-pieces.pieces c.flags.result.now same_length)
