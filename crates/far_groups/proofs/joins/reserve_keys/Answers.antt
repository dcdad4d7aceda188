use Rattle.std.proofs.Common.{rules, sym, ap, ◌∙◌, subst}
use Rattle.std.specs.BTreeMap.{IsFromIterResult}
use Rattle.std.specs.Map.{update_all}
use Rattle.std.specs.Ordering.{eq_by_cmp}
use Rattle.std.proofs.lemmas.Map.Entries.{option_filter}
use Rattle.std.proofs.lemmas.Map.Made.{filter_same_pairs}
use Rattle.far_types.specs.Keys.{line_cmp}
use Rattle.far_types.proofs.AnswersGrouping.{same}
use Rattle.far_types.proofs.AnswersByKeyMaps.{get_at}
use Rattle.far_groups.specs.Walks.{count_sum_at, new_lines}
use Rattle.far_groups.proofs.WalksReserve.{AreAbsent, first_absent, is_used, keeps_all, keeps_reserved, used_filtered}
use Rattle.far_groups.proofs.WalksNewLines.{new_absent, new_ascend, made_of, new_joined}
use Rattle.far_groups.proofs.joins.reserve_keys.Goals as goal

pub returns-in-Ok-clause-ok : goal.returns-in-Ok-clause-ok
returns-in-Ok-clause-ok c =
    let es = c.args.count_sums.now.entries in
    let others = c.args.other.now.entries in
    let made = subst (λ lines. IsFromIterResult line_cmp lines c.in_ok-fresh.fresh) c.in_ok-lines.ensures.ok c.in_ok-fresh.ensures.ok in
    let fresh = made_of (new_lines es others) c.in_ok-fresh.fresh (new_ascend es others c.new_lines.ensures.ordered) made in
    new_joined es c.append.new.self.entries others c.new_lines.ensures.ordered
    (λ q. c.in-Ok.ensures.inserts_all.0 q ∙ ap (λ lines. update_all (eq_by_cmp line_cmp) (count_sum_at es) lines q) fresh)

pub returns-clause-err : goal.returns-clause-err
returns-clause-err c =
    let es = c.args.count_sums.now.entries in
    let others = c.args.other.now.entries in
    let made = subst (λ lines. IsFromIterResult line_cmp lines c.in_ok-fresh.fresh) c.in_ok-lines.ensures.ok c.in_ok-fresh.ensures.ok in
    let fresh = made_of (new_lines es others) c.in_ok-fresh.fresh (new_ascend es others c.new_lines.ensures.ordered) made in
    let moved = c.append.ensures.moves in
    let absent = first_absent es moved.0 _ (subst (AreAbsent es) (sym fresh ∙ moved.1) (new_absent es others)) in
    let filtered_pairs = filter_same_pairs _ (λ e. is_used e.1) _ (λ k v b w g t. search rules) c.append.new.self.entries c.retain.new.self.entries c.retain.ensures.filtered in
    same _ _ (λ q.
    get_at c.retain.new.self.entries q
    ∙ used_filtered c.append.new.self.entries c.retain.new.self.entries c.append.ensures.ordered filtered_pairs q
    ∙ ap (option_filter is_used) (moved.2.0 q)
    ∙ keeps_reserved es (count_sum_at es) moved.0 absent (keeps_all es c.requires.valid_sums) q
    ∙ sym (get_at es q))
