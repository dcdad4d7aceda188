use Rattle.std.proofs.Common.{◌≡◌, sym, ap, ◌∙◌, Some}
use Rattle.std.specs.Box.{with_value}
use Rattle.far_extrema.specs.Runs.{RunState}
use Rattle.far_extrema.proofs.HoldersReserve.{on_err}
use Rattle.far_extrema.proofs.holder.add_to.Goals as goal

pub returns-in-Some-clause-err : goal.returns-in-Some-clause-err
returns-in-Some-clause-err c = on_err c.add.result (λ (same : c.add.new.self ≡ c.deref_mut.result.now). ap (λ (runs : RunState). Some (with_value c.in-Some.runs runs)) (same ∙ c.deref_mut.ensures.value) ∙ sym c.in-Some.is) c.add.ensures.err
