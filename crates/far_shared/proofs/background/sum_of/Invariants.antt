use Rattle.std.proofs.Common.{◌≡◌, ◌+◌, drop, sum_by}
use Rattle.far_shared.specs.Works.{works_in}
use Rattle.far_shared.proofs.background.sum_of.Given as goal

abbrev pub invariant-loop-report : goal.invariant-loop-report
invariant-loop-report l = (works_in l.sum + sum_by works_in (drop l.report-index l.reports) ≡ sum_by works_in l.reports)
    × (l.sum.done + sum_by (λ report. report.done) (drop l.report-index l.reports) ≡ sum_by (λ report. report.done) l.reports)
    × (l.sum.refused + sum_by (λ report. report.refused) (drop l.report-index l.reports) ≡ sum_by (λ report. report.refused) l.reports)
