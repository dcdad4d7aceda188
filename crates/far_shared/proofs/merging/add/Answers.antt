use Rattle.std.proofs.Common.{sym, ap, ◌∙◌}
use Rattle.std.specs.FinMap as fin
use Rattle.far_types.specs.Effects.{add_count_sums}
use Rattle.far_types.proofs.AnswersByKeyMaps.{with_more, get_at, set_inserts}
use Rattle.far_groups.specs.CountSums.{totals_of}
use Rattle.far_shared.proofs.merging.add.Goals as goal

pub returns : goal.returns
returns c = record {
  ok = set_inserts c.args.count_sums.now.entries c.insert.new.self.entries c.args.key c.in_ok-count_sum.count_sum c.in_ok-insert.ensures.updates.0
      ∙ ap (fin.insert (totals_of c.args.count_sums.now.entries) c.args.key) (c.in_ok-count_sum.ensures.ok ∙ ap (with_more add_count_sums c.args.more) (c.copied.ensures ∙ c.get.ensures.value ∙ sym (get_at c.args.count_sums.now.entries c.args.key)));
}
