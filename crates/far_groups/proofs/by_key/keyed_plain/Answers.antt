use Rattle.std.proofs.Common.{None, ap, ◌∙◌}
use Rattle.std.specs.FinMap as fin
use Rattle.far_types.proofs.AnswersByKeyMaps.{set_inserts}
use Rattle.far_groups.specs.CountSums.{totals_of}
use Rattle.far_groups.proofs.by_key.keyed_plain.Goals as goal

pub returns : goal.returns
returns c = record {
  ok =
      set_inserts c.new-keys.result.entries c.insert.new.self.entries None c.args.count_sum c.in_ok-insert.ensures.updates.0
      ∙ ap (λ es. fin.insert (totals_of es) None c.args.count_sum) c.new-keys.ensures.empty;
}
