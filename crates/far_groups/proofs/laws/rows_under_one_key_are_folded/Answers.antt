use Rattle.far_types.specs.Answers.{count_sum}
use Rattle.far_types.proofs.AnswersByKeyMaps.{grouped-one}
use Rattle.far_groups.proofs.LivePairs.{folded}
use Rattle.far_groups.proofs.laws.rows_under_one_key_are_folded.Goals as goal

pub returns : goal.returns
returns c = record { totals = grouped-one count_sum; valid_sums = folded }
