use Rattle.std.proofs.Common.{ℤ, Option, sym, ◌∙◌}
use Rattle.std.proofs.lemmas.Result.{err_from_is_err_and}
use Rattle.far_scopes.specs.Refusing.{absent}
use Rattle.far_columns.specs.Vector.{Vector, object_at}
use Rattle.far_scopes.proofs.FirstOfCases.{next-free, next-due}
use Rattle.far_columns.proofs.int_column.together.checking.all_here.Goals as goal

pub returns-in_err-next_is_here : goal.returns-in_err-next_is_here
returns-in_err-next_is_here g c =
    let p = err_from_is_err_and c.from_residual.result c.from_residual.ensures.1 in
    rw (p.1, p.2) (sym (c.loop-column.invariant ∙ next-due (λ (v : Vector (Option ℤ)). absent c.args.objects.now (object_at v v.len)) c.args.columns.now c.loop-column.column-index c.column-item.result c.in_err-next_is_here.field-0.0 c.loop-column-test.true c.column-item.is c.in_err-next_is_here.ensures))

pub loop-column-preserved : goal.loop-column-preserved
loop-column-preserved g c =
    c.loop-column.invariant ∙ next-free (λ (v : Vector (Option ℤ)). absent c.args.objects.now (object_at v v.len)) c.args.columns.now c.loop-column.column-index c.column-item.result c.loop-column-test.true c.column-item.is c.in_ok-next_is_here.ensures
