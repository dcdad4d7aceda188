use Rattle.std.proofs.Common.{rules, ◌≡◌, None, Option, ℕ, [], ◌∷◌, sym, ap, ◌++◌, ◌∙◌, subst}
use Rattle.std.specs.Prelude.{ℤ, pos}
use Rattle.far_types.specs.declared.key.Key.{Key}
use Rattle.far_groups.specs.Walks.{new_lines}
use Rattle.far_groups.proofs.WalksLaws.{Ascend, Finds, rest_ascend, finds_rest, new_here, known_here, one_more}
use Rattle.far_groups.proofs.joins.new_lines.Goals as goal

pub loop-key-preserved-in_ok-push : goal.loop-key-preserved-in_ok-push
loop-key-preserved-in_ok-push c =
    let es = c.args.count_sums.now.entries in
    let rest = c.next.new.self in
    let e : Option Key × (ℕ × ℤ) = (c.in-Some.key.now, c.in-Some.field-0-1.now) in
    let here = c.in-Some.ensures.steps in
    let up = subst Ascend here c.loop-key.invariant.ascending in
    let finds = subst (Finds c.loop-key.walk es) here c.loop-key.invariant.finds in
    let gone : c.find.result ≡ None = search rules in
    let none = sym finds.0 ∙ sym c.find.ensures.found ∙ gone in
    record {
      ascending = rest_ascend e rest up;
      finds = finds_rest c.loop-key.walk c.find.new.self es e rest up c.find.ensures.rest finds;
      rest =
          ap (λ xs. xs ++ new_lines es rest) (c.in_ok-push.ensures.items ∙ ap (λ k. c.loop-key.lines.items ++ (k, (0, pos 0)) ∷ []) c.in_ok-clone_key.ensures.equal)
          ∙ one_more c.loop-key.lines.items _ (new_lines es rest) _ _ (ap (new_lines es) here ∙ new_here es rest e none) c.loop-key.invariant.rest;
    }

pub loop-key-preserved : goal.loop-key-preserved
loop-key-preserved c =
    let es = c.args.count_sums.now.entries in
    let rest = c.next.new.self in
    let e : Option Key × (ℕ × ℤ) = (c.in-Some.key.now, c.in-Some.field-0-1.now) in
    let here = c.in-Some.ensures.steps in
    let up = subst Ascend here c.loop-key.invariant.ascending in
    let finds = subst (Finds c.loop-key.walk es) here c.loop-key.invariant.finds in
    let there : c.find.result ≡ None → ⊥ = search rules in
    record {
      ascending = rest_ascend e rest up;
      finds = finds_rest c.loop-key.walk c.find.new.self es e rest up c.find.ensures.rest finds;
      rest =
          ap (λ ys. c.loop-key.lines.items ++ ys) (sym (ap (new_lines es) here ∙ known_here es rest e (λ none. there (c.find.ensures.found ∙ finds.0 ∙ none))))
          ∙ c.loop-key.invariant.rest;
    }
