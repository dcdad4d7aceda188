use Rattle.std.proofs.Common.{sym, ◌∙◌, Ok, Err, OnOk}
use Rattle.std.specs.Prelude.{Result}
use Rattle.far_types.specs.Effects.{join_min_maxes}
use Rattle.far_types.proofs.AnswersByKeyMaps.{joined-one}
use Rattle.far_shared.proofs.merging.observe.Goals as goal

on_ok : {T E : Type 0} (r : Result T E) {P Q : Type 0} → (P → Q) → OnOk r P → OnOk r Q
on_ok (Ok x) f h = f h
on_ok (Err e) f h = tt

pub returns : goal.returns
returns c = record { ok = on_ok c.observe_rows.result (λ seen. seen ∙ sym (joined-one join_min_maxes c.args.min_maxes.now c.args.key c.args.min_max)) c.observe_rows.ensures.ok }
