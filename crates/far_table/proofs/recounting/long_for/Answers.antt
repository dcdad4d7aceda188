use Rattle.std.proofs.Common.{sym, subst, arith, ◌<◌, ◌≤◌, ◌*◌, ◌+◌}
use Rattle.std.proofs.Math.Nat.{mul_comm, mul-le-mul_right}
use Rattle.std.proofs.lemmas.Grind.{div_ceil_times}
use Rattle.far_table.proofs.PiecesRuns.{ceil-short}
use Rattle.far_table.proofs.recounting.long_for.Goals as goal

pub returns-clause-all : goal.returns-clause-all
returns-clause-all c =
    let count = c.args.count in
    let workers = c.args.workers in
    let ceil = c.div_ceil.result in
    let enough : count ≤ ceil * workers = subst (λ n. count ≤ n * workers) (sym c.div_ceil.ensures) (div_ceil_times count workers c.requires.some).0 in
    let more : ceil * workers ≤ c.max.result * workers = mul-le-mul_right workers (omega (arith, c.max.ensures)) in
    omega (arith, enough, more, mul_comm c.max.result workers)

pub returns-clause-short : goal.returns-clause-short
returns-clause-short c =
    let count = c.args.count in
    let last : c.div_ceil.result * c.args.workers < count + c.args.workers = subst (λ n. n * c.args.workers < count + c.args.workers) (sym c.div_ceil.ensures) (div_ceil_times count c.args.workers c.requires.some).1 in
    omega (arith, c.max.ensures, ceil-short count c.args.workers c.div_ceil.result c.requires.some last)
