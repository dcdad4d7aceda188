use Rattle.std.proofs.Common.{◌++◌, ap, ◌∙◌, subst}
use Rattle.std.specs.List.{AllByRecursion}
use Rattle.std.specs.List.Sorted.{IsStrictlySortedBy}
use Rattle.std.specs.Map.{keys_of}
use Rattle.std.specs.Ordering.{int_cmp}
use Rattle.far_extrema.specs.Holders.{IsTopped}
use Rattle.far_extrema.specs.Entries.{numbered, lines_of, Adds}
use Rattle.far_extrema.specs.Numbers.{Numbers}
use Rattle.far_extrema.proofs.NumbersLines.{ascending_in, number_lines_in, numbers_topped}
use Rattle.far_extrema.proofs.HoldersReserve.{on_ok, ok_any}
use Rattle.far_extrema.proofs.numbers.Numbers.add_lines.Goals as goal

pub returns-clause-ok : goal.returns-clause-ok
returns-clause-ok c =
    let h = c.self.inside in
    on_ok c.add_lines-3.result (λ (third : Adds c.add_lines-2.new.lines.items (numbered h.above.entries) c.add_lines-3.new.lines.items).
    number_lines_in c.args.lines.now.items c.add_lines.new.lines.items c.add_lines-2.new.lines.items c.add_lines-3.new.lines.items h.below.entries h.small.items h.above.entries c.in_ok-add_lines.ensures.ok c.in_ok-add_lines-2.ensures.ok third
    ∙ ap (λ (ns : Numbers). c.args.lines.now.items ++ lines_of (numbered ns)) c.self.view_is) c.add_lines-3.ensures.ok

pub returns-clause-ordered : goal.returns-clause-ordered
returns-clause-ordered c =
    let h = c.self.inside in
    ok_any c.add_lines-3.result (subst (λ (ns : Numbers). IsStrictlySortedBy int_cmp (keys_of ns)) c.self.view_is (ascending_in h.below.entries h.small.items h.above.entries c.self.invariant c.add_lines.ensures.ordered c.add_lines-3.ensures.ordered))

pub returns-clause-topped : goal.returns-clause-topped
returns-clause-topped c =
    let h = c.self.inside in
    on_ok c.add_lines-3.result (λ (third : AllByRecursion IsTopped (numbered h.above.entries)).
    subst (λ (ns : Numbers). AllByRecursion IsTopped (numbered ns)) c.self.view_is (numbers_topped h.below.entries h.small.items h.above.entries c.in_ok-add_lines.ensures.topped c.in_ok-add_lines-2.ensures.topped third)) c.add_lines-3.ensures.topped
