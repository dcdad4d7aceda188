use Rattle.std.proofs.Common.{rules, length}
use Rattle.std.proofs.lemmas.List.Sorted.{IsNonDecreasingBy-from_sort_by_key}
use Rattle.far_scopes.specs.declared.memory.compaction.SegmentObject.{SegmentObject}
use Rattle.far_scopes.proofs.SegmentObjectsLists.{objects-moved, sorted-mapped}
use Rattle.far_scopes.proofs.memory.compaction.sorted.Goals as goal

pub returns-clause-found : goal.returns-clause-found
returns-clause-found c = record {
  all = objects-moved c.args.words.now c.args.segment c.args.hot (length c.args.words.now) c.in_ok-found.found.items c.sort_unstable_by_key.new.self.items c.sort_unstable_by_key.ensures.permutation c.in_ok-found.ensures.found;
  sorted = sorted-mapped c.sort_unstable_by_key.new.self.items (IsNonDecreasingBy-from_sort_by_key (λ (f : SegmentObject). f.offset) _ c.sort_unstable_by_key.ensures.sorted (λ a r q k. search rules));
}
