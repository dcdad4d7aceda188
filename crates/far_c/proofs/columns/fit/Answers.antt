use Rattle.std.proofs.Common.{◌≡◌, ◌<◌, ◌≤◌, false, true, length, refl, arith}
use Rattle.std.proofs.lemmas.Option.{slice_get-get_or}
use Rattle.far_c.proofs.ColumnsFit.{all-fit, fits-more, one-does-not}
use Rattle.far_c.proofs.columns.fit.Goals as goal

pub returns-then-not-fits : goal.returns-then-not-fits
returns-then-not-fits c =
    let n = c.loop-column.column in
    let test = c.loop-column-test.true in
    let same = c.if-columns-kinds.false in
    let below : n < length c.args.columns.now = omega (arith, test) in
    let there : n < length c.args.kinds.now = omega (arith, test, same) in (
      λ on. absurd cc,
      λ whole. absurd (one-does-not c.args.kinds.now c.args.rows c.args.columns.now n _ _ (slice_get-get_or c.args.kinds.now n _ there) (slice_get-get_or c.args.columns.now n _ below) (λ fits. absurd (let on : false ≡ true = c.if-not-fits.ensures.1 fits in cc)) whole),
    )

pub loop-column-preserved : goal.loop-column-preserved
loop-column-preserved c =
    let n = c.loop-column.column in
    let test = c.loop-column-test.true in
    let same = c.if-columns-kinds.false in
    let below : n < length c.args.columns.now = omega (arith, test) in
    let there : n < length c.args.kinds.now = omega (arith, test, same) in
    fits-more c.args.kinds.now c.args.rows c.args.columns.now n _ _ (slice_get-get_or c.args.kinds.now n _ there) (slice_get-get_or c.args.columns.now n _ below) (c.if-not-fits.ensures.0 refl) c.loop-column.invariant

pub returns : goal.returns
returns c =
    let test = c.loop-column-test.false in
    let all : length c.args.columns.now ≤ c.loop-column.column = omega (arith, test) in (
      λ on. all-fit c.args.kinds.now c.args.rows c.args.columns.now c.loop-column.column c.if-columns-kinds.false all c.loop-column.invariant,
      λ whole. refl,
    )
