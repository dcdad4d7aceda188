use Rattle.std.proofs.Common.{sym, ap, ◌∙◌}
use Rattle.std.specs.Prelude.{slice_range}
use Rattle.std.proofs.lemmas.Result.{err_from_is_err_and}
use Rattle.far_scopes.specs.Refusing.{first_absent}
use Rattle.far_columns.specs.Vector.{Vector}
use Rattle.far_columns.proofs.RefusingObjects.{listed-free, listed-due}
use Rattle.far_columns.proofs.vector.FarVector.all_here.Goals as goal

pub returns-in_err-here : goal.returns-in_err-here
returns-in_err-here g c =
    let p = err_from_is_err_and c.from_residual.result c.from_residual.ensures.1 in
    rw (p.1, p.2) (sym (sym c.loop-o.invariant ∙ listed-due c.args.objects.now _ c.loop-o.o-index c.loop-o-test.true c.in_err-here.field-0.0 c.in_err-here.ensures)
    ∙ ap (λ l. first_absent c.args.objects.now (slice_range l c.args.first c.args.end)) (c.deref.ensures.value ∙ ap (λ (v : Vector g.row.T.Denot). v.objects) c.self.view_is))

pub loop-o-preserved : goal.loop-o-preserved
loop-o-preserved g c = sym (listed-free c.args.objects.now _ c.loop-o.o-index c.loop-o-test.true c.in_ok-here.ensures) ∙ c.loop-o.invariant
