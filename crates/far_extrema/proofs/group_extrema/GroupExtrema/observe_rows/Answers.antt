use Rattle.std.proofs.Common.{ap, ◌∙◌, Ok, Err, OnOk}
use Rattle.std.specs.Prelude.{Result}
use Rattle.std.specs.FinMap as fin
use Rattle.far_types.specs.Effects.{join_min_maxes, joined_extrema}
use Rattle.far_types.proofs.AnswersByKeyMaps.{joined-one}
use Rattle.far_extrema.specs.MinMaxes.{extrema_of}
use Rattle.far_extrema.proofs.group_extrema.GroupExtrema.observe_rows.Goals as goal

on_ok : {T E : Type 0} (r : Result T E) {P Q : Type 0} → (P → Q) → OnOk r P → OnOk r Q
on_ok (Ok x) f h = f h
on_ok (Err e) f h = tt

pub returns-clause-ok : goal.returns-clause-ok
returns-clause-ok c =
    on_ok c.observe.result (λ observed.
    observed ∙ joined-one join_min_maxes (extrema_of c.self.inside.min_maxes.entries) c.args.key c.args.min_max
    ∙ ap (λ m. joined_extrema m (fin.insert fin.empty c.args.key c.args.min_max)) c.self.view_is) c.observe.ensures.ok
