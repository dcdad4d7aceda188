use Rattle.std.proofs.Common.{◌≡◌, ◌∙◌, ◌≤◌, length, arith}
use Rattle.far_rows.specs.Refusing.{ints_refusal}
use Rattle.far_frame.specs.Lending.{lend_refusal}
use Rattle.far_c.specs.Parts.{alive_of, flags_in, numbers_in, valid_of, values_of}
use Rattle.far_c.proofs.Joined.{few-numbers, valid-are, values-are}
use Rattle.far_c.proofs.Lending.{flags-few, flags-long, on-ok, when-refused}
use Rattle.far_c.proofs.numbers.read_numbers.Goals as goal

pub copy_pieces-requires-clause-values : goal.copy_pieces-requires-clause-values
copy_pieces-requires-clause-values c =
    let few = few-numbers c.args.table.now.world.state.table.places c.args.column c.args.from c.args.to (numbers_in c.in_ok-lents.lents) c.in_ok-lents.ensures.cells in
    omega (arith, few, c.requires)

pub copy_pieces-requires-clause-valid : goal.copy_pieces-requires-clause-valid
copy_pieces-requires-clause-valid c =
    let few = few-numbers c.args.table.now.world.state.table.places c.args.column c.args.from c.args.to (numbers_in c.in_ok-lents.lents) c.in_ok-lents.ensures.cells in
    omega (arith, few, c.requires)

pub copy_pieces-requires-clause-alive : goal.copy_pieces-requires-clause-alive
copy_pieces-requires-clause-alive c =
    let few = flags-few c.args.table.now.world.state.table.places c.args.column c.args.from c.args.to (flags_in c.in_ok-lents.lents) c.in_ok-lents.ensures.flags in
    omega (arith, few, c.requires)

pub returns-clause-values : goal.returns-clause-values
returns-clause-values c =
    let places = c.args.table.now.world.state.table.places in
    on-ok c.record_lending.result (c.args.to ≤ length places) (c.copy_pieces.new.values ≡ values_of places c.args.column c.args.from c.args.to)
    (λ (within : c.args.to ≤ length places). values-are places c.args.column c.args.from c.args.to (numbers_in c.in_ok-lents.lents) c.in_ok-lents.ensures.cells within (length c.args.values.now) c.requires.0 c.copy_pieces.new.values c.copy_pieces.ensures.values)
    c.record_lending.ensures.within

pub returns-clause-valid : goal.returns-clause-valid
returns-clause-valid c =
    let places = c.args.table.now.world.state.table.places in
    on-ok c.record_lending.result (c.args.to ≤ length places) (c.copy_pieces.new.valid ≡ valid_of places c.args.column c.args.from c.args.to)
    (λ (within : c.args.to ≤ length places). valid-are places c.args.column c.args.from c.args.to (numbers_in c.in_ok-lents.lents) c.in_ok-lents.ensures.cells within (length c.args.valid.now) c.requires.1 c.copy_pieces.new.valid c.copy_pieces.ensures.valid)
    c.record_lending.ensures.within

pub returns-clause-alive : goal.returns-clause-alive
returns-clause-alive c =
    let places = c.args.table.now.world.state.table.places in
    let flags = flags_in c.in_ok-lents.lents in
    on-ok c.record_lending.result (c.args.to ≤ length places) (c.copy_pieces.new.alive ≡ alive_of places c.args.from c.args.to)
    (λ (within : c.args.to ≤ length places).
    let long = flags-long places c.args.column c.args.from c.args.to flags c.in_ok-lents.ensures.flags within in
    let same : length flags ≡ length c.args.alive.now = omega (arith, long, c.requires) in
    c.copy_pieces.ensures.alive same ∙ c.in_ok-lents.ensures.flags)
    c.record_lending.ensures.within

pub returns-clause-refused : goal.returns-clause-refused
returns-clause-refused c =
    let rows = c.args.table.now.world.state.rows in
    when-refused c.record_lending.result (lend_refusal rows c.args.column c.args.from c.args.to) (ints_refusal rows c.args.column c.args.from c.args.to) c.in_ok-lents.ensures.free c.record_lending.ensures.refused
