use Rattle.std.proofs.Common.{◌∙◌}
use Rattle.std.proofs.lemmas.Result.{IfOk-weaker}
use Rattle.far_types.specs.Pairs.{pairs_of}
use Rattle.far_types.specs.declared.spec.Fold.TheVariants as fold
use Rattle.far_shared.proofs.LinesMerge.{over_four, totals_given, extrema_given}
use Rattle.far_shared.proofs.four.merge.Goals as goal

pub returns-in-Totals : goal.returns-in-Totals
returns-in-Totals c =
    let spec = c.args.spec.now in
    record {
      ok = IfOk-weaker c.merge_totals.result _ _ (λ given returned p q r s hp hq hr hs.
          returned (pairs_of spec p) (pairs_of spec q) (pairs_of spec r) (pairs_of spec s)
          (totals_given spec p c.args.one _ c.in-Totals.is c.total_lines.ensures hp)
          (totals_given spec q c.args.two _ c.in-Totals.is c.total_lines-in-Totals.ensures hq)
          (totals_given spec r c.args.three _ c.in-Totals.is c.total_lines-in-Totals-2.ensures hr)
          (totals_given spec s c.args.four _ c.in-Totals.is c.total_lines-in-Totals-3.ensures hs)
          ∙ over_four spec fold.Totals p q r s c.in-Totals.is) c.merge_totals.ensures.ok;
    }

pub returns-in-Extrema : goal.returns-in-Extrema
returns-in-Extrema c =
    let spec = c.args.spec.now in
    record {
      ok = IfOk-weaker c.merge_extrema.result _ _ (λ given returned p q r s hp hq hr hs.
          returned spec.key (pairs_of spec p) (pairs_of spec q) (pairs_of spec r) (pairs_of spec s)
          (extrema_given spec p c.args.one _ c.in-Extrema.is c.extrema_lines.ensures hp)
          (extrema_given spec q c.args.two _ c.in-Extrema.is c.extrema_lines-in-Extrema.ensures hq)
          (extrema_given spec r c.args.three _ c.in-Extrema.is c.extrema_lines-in-Extrema-2.ensures hr)
          (extrema_given spec s c.args.four _ c.in-Extrema.is c.extrema_lines-in-Extrema-3.ensures hs)
          ∙ over_four spec fold.Extrema p q r s c.in-Extrema.is) c.merge_extrema.ensures.ok;
    }
