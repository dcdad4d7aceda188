use Rattle.std.proofs.Common.{rules, of_calls}
use Rattle.std.proofs.lemmas.Fn.{always_returns_same}
use Rattle.far_types.specs.Keys.{line_cmp}
use Rattle.far_types.specs.Lent.{lent_cell}
use Rattle.far_c.specs.Keys.{key_of}
use Rattle.far_c.proofs.Sorted.{found-at}
use Rattle.far_c.proofs.sorted_answer.total_at.Goals as goal

pub returns : goal.returns
returns c =
    let facts = c.binary_search_by.ensures in
    let key = key_of (lent_cell c.args.key) in
    let by = facts.position (λ line. line_cmp line.0 key) (always_returns_same _ _ _ (λ a r f called. search (rules, of_calls))) in
    rw c.ok.ensures.value (found-at c.args.lines.now c.requires key _ facts.bound by)
