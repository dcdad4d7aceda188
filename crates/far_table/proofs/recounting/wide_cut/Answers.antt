use Rattle.std.proofs.Common.{◌*◌, ◌<◌, ◌≤◌, length, sym, ap, subst, ◌∙◌, arith}
use Rattle.far_types.specs.Table.{groups}
use Rattle.far_table.proofs.PiecesRuns.{positive, all-held, all-begun, narrow, few-wide}
use Rattle.far_table.proofs.recounting.wide_cut.Goals as goal

pub overflow_mul-wide : goal.overflow_mul-wide
overflow_mul-wide g c =
    let rows = c.len-places.ensures.rows in
    let small : c.args.size ≤ 65536 = omega (arith, c.requires.size, rows.small) in
    let few : c.len-places.result ≤ 16777216 = omega (arith, c.len-places.ensures.len, rows.places) in
    omega (arith, narrow c.len-places.result c.args.size c.group_count-count.result c.long_for-long.result small few c.group_count-count.ensures.value c.long_for-long.ensures.short)

pub group_count-requires-clause-size : goal.group_count-requires-clause-size
group_count-requires-clause-size g c = positive c.long_for-long.result c.args.size c.long_for-long.ensures.some (omega (arith, c.requires.size, c.len-places.ensures.rows.some))

pub returns-clause-cut : goal.returns-clause-cut
returns-clause-cut g c =
    let r = c.args.rows.now in
    let long = c.long_for-long.result in
    let size = c.args.size in
    let len = c.len-places.ensures.len in
    record {
      all = all-begun (length r.alive) r.size c.group_count-count.result c.len-places.ensures.rows.some (c.group_count-count.ensures.value ∙ ap (λ n. groups n c.len-places.result) c.requires.size ∙ ap (groups r.size) len);
      size = ap (λ n. long * n) c.requires.size;
      some = positive long size c.long_for-long.ensures.some (omega (arith, c.requires.size, c.len-places.ensures.rows.some));
      pieces = c.group_count.ensures.value ∙ ap (groups (long * size)) len;
    }

pub returns-clause-few : goal.returns-clause-few
returns-clause-few g c =
    let long = c.long_for-long.result in
    let size = c.args.size in
    let places = c.len-places.result in
    let count = c.group_count-count.result in
    let some : 0 < size = omega (arith, c.requires.size, c.len-places.ensures.rows.some) in
    let held = all-held places size count some c.group_count-count.ensures.value in
    let few = few-wide places size count long c.args.workers (positive long size c.long_for-long.ensures.some some) held c.long_for-long.ensures.all in
    subst (λ n. n ≤ c.args.workers) (sym c.group_count.ensures.value) few
