use Rattle.std.proofs.Common.{rules, ◌≡◌, Some, ◌++◌, to_z, of_z, ap, sym, subst, ◌∙◌}
use Rattle.std.specs.Int.{w64}
use Rattle.std.specs.List.{AllByRecursion}
use Rattle.far_types.specs.declared.key.Key.TheVariants.{Int}
use Rattle.far_extrema.specs.Spreads.{IsTopOf}
use Rattle.far_extrema.specs.Holders.{IsTopped}
use Rattle.far_extrema.specs.Entries.{numbered, lines_of}
use Rattle.far_extrema.proofs.HoldersLaws.{line-skipped, line-pushed, none_of}
use Rattle.far_extrema.proofs.number_tree.add_lines.Goals as goal

pub loop-number-preserved : goal.loop-number-preserved
loop-number-preserved c =
    let own = subst (IsTopOf c.in-Some.holder.now.min_maxes) c.top.ensures.is c.top.ensures.top in
    let steps = ap numbered c.in-Some.ensures.steps in
    record {
      made = line-skipped c.loop-number.lines.items (c.args.lines.now.items ++ lines_of (numbered c.args.tree.now.entries)) (Some (Int c.in-Some.number.now), c.in-Some.holder.now) (numbered c.next.new.self) (numbered c.loop-number.number-iterator)
          (sym c.top.ensures.is ∙ none_of c.top.result c.in_default.not-Some) steps c.loop-number.invariant.made;
      topped = λ rest. c.loop-number.invariant.topped (subst (AllByRecursion IsTopped) (sym steps) (own, rest));
    }

pub loop-number-preserved-in-Continue-1 : goal.loop-number-preserved-in-Continue-1
loop-number-preserved-in-Continue-1 c =
    let own = subst (IsTopOf c.in-Some.holder.now.min_maxes) c.top.ensures.is c.top.ensures.top in
    let steps = ap numbered c.in-Some.ensures.steps in
    let n = c.in-Some.number.now in
    let same : to_z w64 (of_z w64 n) ≡ n = search rules in
    record {
      made = line-pushed c.loop-number.lines.items c.add_line.new.lines.items (c.args.lines.now.items ++ lines_of (numbered c.args.tree.now.entries)) (Some (Int c.in-Some.number.now), c.in-Some.holder.now) (numbered c.next.new.self) (numbered c.loop-number.number-iterator)
          (Some (Int (to_z w64 (of_z w64 n)))) c.in-Some-top.top
          (sym c.top.ensures.is ∙ c.in-Some-top.is) steps (ap (λ m. Some (Int m)) same) c.in_ok-add_line.ensures.ok c.loop-number.invariant.made;
      topped = λ rest. c.loop-number.invariant.topped (subst (AllByRecursion IsTopped) (sym steps) (own, rest));
    }
