use Rattle.std.proofs.Common.{sym, ap, ◌∙◌}
use Rattle.std.specs.List.{list_any}
use Rattle.far_aggregates.specs.Replacing.{looks_at}
use Rattle.far_aggregates.proofs.ReplacingLaws.{unneeded-keeps}
use Rattle.far_aggregates.proofs.aggregates.Aggregates.needs.Goals as goal

pub returns : goal.returns
returns c none size places place cell positive kept =
    unneeded-keeps size c.args.column place cell places c.args.self.now positive
    (ap (list_any (looks_at c.args.column)) (sym (c.as_slice.ensures.value ∙ c.self.view_is)) ∙ sym c.one_looks_at.ensures ∙ none) kept
