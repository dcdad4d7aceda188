use Rattle.std.proofs.Common.{sym, ap, ◌∙◌, subst}
use Rattle.std.specs.FinMap as fin
use Rattle.std.specs.List.{AllByRecursion}
use Rattle.std.specs.List.Sorted.{IsStrictlySortedBy}
use Rattle.std.specs.Map.{keys_of}
use Rattle.far_types.specs.Keys.{line_cmp}
use Rattle.far_extrema.specs.Holders.{IsTopped}
use Rattle.far_extrema.specs.Entries.{Entries, lines_of}
use Rattle.far_extrema.proofs.EntriesLaws.{entries_are, ascending, topped_in, joined_lines}
use Rattle.far_extrema.proofs.holders.Holders.lines.Goals as goal

pub returns-clause-ok : goal.returns-clause-ok
returns-clause-ok c =
    let h = c.self.inside in
    let are = sym (entries_are h.plain h.numbers h.texts.entries c.in_ok-add_lines.ensures.ordered c.add_lines-2.ensures.ordered) ∙ ap fin.entries c.self.view_is in
    joined_lines c.in_ok-lines.lines.items c.add_plain_line.new.lines.items c.add_lines.new.lines.items c.add_lines-2.new.lines.items h.plain h.numbers h.texts.entries
    c.in_ok-lines.ensures.items c.in_ok-add_plain_line.ensures.ok c.in_ok-add_lines.ensures.ok c.in_ok-add_lines-2.ensures.ok
    ∙ ap lines_of are

pub returns-clause-ordered : goal.returns-clause-ordered
returns-clause-ordered c =
    let h = c.self.inside in
    let are = sym (entries_are h.plain h.numbers h.texts.entries c.in_ok-add_lines.ensures.ordered c.add_lines-2.ensures.ordered) ∙ ap fin.entries c.self.view_is in
    subst (λ (es : Entries). IsStrictlySortedBy line_cmp (keys_of es)) are (ascending h.plain h.numbers h.texts.entries c.in_ok-add_lines.ensures.ordered c.add_lines-2.ensures.ordered)

pub returns-clause-topped : goal.returns-clause-topped
returns-clause-topped c =
    let h = c.self.inside in
    let are = sym (entries_are h.plain h.numbers h.texts.entries c.in_ok-add_lines.ensures.ordered c.add_lines-2.ensures.ordered) ∙ ap fin.entries c.self.view_is in
    subst (AllByRecursion IsTopped) are (topped_in h.plain h.numbers h.texts.entries c.add_plain_line.ensures.topped c.in_ok-add_lines.ensures.topped c.in_ok-add_lines-2.ensures.topped)
