use Rattle.std.proofs.Common.{rules, subst, sym}
use Rattle.far_groups.proofs.WalksLaws.{Finds, finds_all}
use Rattle.far_groups.proofs.WalksAddition.{all_added}
use Rattle.far_groups.proofs.joins.add_all_existing.Goals as goal

pub returns : goal.returns
returns c =
    let es = c.args.count_sums.now.entries in
    let others = c.args.other.now.entries in
    all_added _ (λ f. f.0.now) (λ f k v b w g t. search rules) others (λ q. (c.requires.addends q).1) _ es _ c.retain.ensures.was_ordered (λ q. (c.requires.addends q).0)
    (subst (λ walk. Finds walk others es) (sym c.new-walk.ensures) (finds_all others es)) c.retain.ensures.filtered
