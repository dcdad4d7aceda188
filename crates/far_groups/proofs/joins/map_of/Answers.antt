use Rattle.std.proofs.Common.{rules, ◌≡◌, length}
use Rattle.std.specs.BTreeMap.{IsFromIterResult}
use Rattle.std.specs.Vec.Iter.{into_iter_items, into_iter_len}
use Rattle.std.proofs.lemmas.Iterator.Adapters.{fact_from_collect, YieldsList-from_vec}
use Rattle.far_types.specs.Keys.{line_cmp}
use Rattle.far_groups.proofs.joins.map_of.Goals as goal

pub returns : goal.returns
returns c = record {
  ok =
      let items : into_iter_items c.into_iter-all.result ≡ c.args.lines.items = search rules in
      let count : into_iter_len c.into_iter-all.result ≡ length c.args.lines.items = search rules in
      let made = fact_from_collect (IsFromIterResult line_cmp) c.collect.result c.collect.ensures.ran (YieldsList-from_vec c.args.lines.items items count) in
      search rules;
}
