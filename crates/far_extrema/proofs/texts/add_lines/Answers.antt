use Rattle.std.proofs.Common.{Some, ◌++◌, ap, sym, subst, ◌∙◌}
use Rattle.std.specs.List.{AllByRecursion}
use Rattle.far_types.specs.declared.key.Key.TheVariants.{Text}
use Rattle.far_extrema.specs.Spreads.{IsTopOf}
use Rattle.far_extrema.specs.Holders.{IsTopped}
use Rattle.far_extrema.specs.Entries.{texted, lines_of}
use Rattle.far_extrema.proofs.HoldersLaws.{line-skipped, line-pushed, none_of}
use Rattle.far_extrema.proofs.texts.add_lines.Goals as goal

pub loop-text-preserved : goal.loop-text-preserved
loop-text-preserved c =
    let own = subst (IsTopOf c.in-Some.holder.now.min_maxes) c.top.ensures.is c.top.ensures.top in
    let steps = ap texted c.in-Some.ensures.steps in
    record {
      made = line-skipped c.loop-text.lines.items (c.args.lines.now.items ++ lines_of (texted c.args.texts.now.entries)) (Some (Text c.in-Some.text.now), c.in-Some.holder.now) (texted c.next.new.self) (texted c.loop-text.text-iterator)
          (sym c.top.ensures.is ∙ none_of c.top.result c.in_default.not-Some) steps c.loop-text.invariant.made;
      topped = λ rest. c.loop-text.invariant.topped (subst (AllByRecursion IsTopped) (sym steps) (own, rest));
    }

pub loop-text-preserved-in_ok-add_line : goal.loop-text-preserved-in_ok-add_line
loop-text-preserved-in_ok-add_line c =
    let own = subst (IsTopOf c.in-Some.holder.now.min_maxes) c.top.ensures.is c.top.ensures.top in
    let steps = ap texted c.in-Some.ensures.steps in
    record {
      made = line-pushed c.loop-text.lines.items c.add_line.new.lines.items (c.args.lines.now.items ++ lines_of (texted c.args.texts.now.entries)) (Some (Text c.in-Some.text.now), c.in-Some.holder.now) (texted c.next.new.self) (texted c.loop-text.text-iterator)
          (Some (Text c.in_ok-clone.field-0)) c.in-Some-top.top
          (sym c.top.ensures.is ∙ c.in-Some-top.is) steps (ap (λ t. Some (Text t)) c.in_ok-clone.ensures.equal) c.in_ok-add_line.ensures.ok c.loop-text.invariant.made;
      topped = λ rest. c.loop-text.invariant.topped (subst (AllByRecursion IsTopped) (sym steps) (own, rest));
    }
