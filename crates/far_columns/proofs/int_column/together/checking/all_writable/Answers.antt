use Rattle.std.proofs.Common.{◌≡◌, ℤ, Bool, false, cond, Option, None, Some, sym, ap, subst, ◌∙◌}
use Rattle.std.specs.Prelude.{All}
use Rattle.std.specs.List.{list_any}
use Rattle.std.proofs.lemmas.Result.{err_from_is_err_and}
use Rattle.std.proofs.lemmas.List.{take_all, drop_all}
use Rattle.std.proofs.lemmas.List.Elements.{All-more}
use Rattle.far_types.specs.declared.refusal.Refusal.TheVariants as refusal
use Rattle.far_scopes.specs.Refusing.{absent, written_out, lend_refusal}
use Rattle.far_columns.specs.Vector.{Vector, object_at}
use Rattle.far_columns.specs.Effects.{is_full}
use Rattle.far_columns.specs.Refusing.{push_refusal}
use Rattle.far_scopes.proofs.FirstOfCases.{none-due, any-later, any-here, written-free, written-due}
use Rattle.far_columns.proofs.NumbersTogether.{push-free}
use Rattle.far_columns.proofs.int_column.together.checking.all_writable.Goals as goal

pub returns-in_err-next_is_writable-clause-refused : goal.returns-in_err-next_is_writable-clause-refused
returns-in_err-next_is_writable-clause-refused g c =
    let p = err_from_is_err_and c.from_residual.result c.from_residual.ensures.1 in
    let m = c.args.objects.now in
    let at = c.column-item.result in
    let k = c.loop-column.column-index in
    let here = subst (λ (v : Vector (Option ℤ)). None ≡ lend_refusal m (object_at v v.len)) (sym c.column-item.is) (none-due (λ (v : Vector (Option ℤ)). absent m (object_at v v.len)) c.args.columns.now (sym c.requires.here) k at c.loop-column-test.true) in
    let due = written-due (absent m (object_at at at.len)) (written_out m (object_at at at.len)) c.in_err-next_is_writable.field-0.0 here c.in_err-next_is_writable.ensures in
    let some = c.loop-column.invariant.rest ∙ any-here (λ (v : Vector (Option ℤ)). written_out m (object_at v v.len)) c.args.columns.now k at c.loop-column-test.true c.column-item.is due.0 in
    rw (p.1, p.2) (ap Some (sym due.1) ∙ sym (ap (λ (b : Bool). cond b (Some refusal.EditsUsedUp) None) some))

pub loop-column-preserved : goal.loop-column-preserved
loop-column-preserved g c =
    let m = c.args.objects.now in
    let at = c.column-item.result in
    record {
      rest = c.loop-column.invariant.rest ∙ any-later (λ (v : Vector (Option ℤ)). written_out m (object_at v v.len)) c.args.columns.now c.loop-column.column-index at c.loop-column-test.true c.column-item.is (written-free (absent m (object_at at at.len)) (written_out m (object_at at at.len)) c.in_ok-next_is_writable.ensures);
      free = All-more (λ v. push_refusal m v ≡ None) c.args.columns.now c.loop-column.column-index at c.loop-column-test.true c.loop-column.invariant.free
          (subst (λ (v : Vector (Option ℤ)). push_refusal m v ≡ None) c.column-item.is (push-free m at (subst (λ (v : Vector (Option ℤ)). is_full v ≡ false) (sym c.column-item.is) (c.requires.begun c.loop-column.column-index at c.loop-column-test.true)) c.in_ok-next_is_writable.ensures));
    }

pub returns : goal.returns
returns g c = record {
  refused = ap (λ (b : Bool). cond b (Some refusal.EditsUsedUp) None) (sym (c.loop-column.invariant.rest ∙ ap (list_any (λ (v : Vector (Option ℤ)). (written_out c.args.objects.now (object_at v v.len)).0)) (drop_all c.loop-column.column-index c.args.columns.now c.loop-column-test.false)));
  free = subst (All (λ v. push_refusal c.args.objects.now v ≡ None)) (take_all c.loop-column.column-index c.args.columns.now c.loop-column-test.false) c.loop-column.invariant.free;
}
