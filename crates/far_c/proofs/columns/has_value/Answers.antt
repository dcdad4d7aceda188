use Rattle.std.proofs.Common.{ℕ, ◌/◌, ◌%◌, Option, refl, sym, ap}
use Rattle.std.proofs.lemmas.Option.{slice_get_past, slice_get_read}
use Rattle.far_c.specs.Columns.{is_set}
use Rattle.far_c.proofs.columns.has_value.Goals as goal

pub returns-in-Some : goal.returns-in-Some
returns-in-Some c =
    let lookup = c.in-Some.ensures.lookup in
    ap (λ (byte : Option ℕ). is_set byte (c.args.row % 8)) (sym (slice_get_read c.args.valid.now _ (c.args.row / 8) c.in-Some.byte.now refl lookup.3.0 lookup.1))

pub returns-in-None : goal.returns-in-None
returns-in-None c = ap (λ (byte : Option ℕ). is_set byte (c.args.row % 8)) (sym (slice_get_past c.args.valid.now (c.args.row / 8) c.in-None.ensures.lookup.3))
