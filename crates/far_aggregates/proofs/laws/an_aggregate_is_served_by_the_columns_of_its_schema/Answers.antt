use Rattle.far_aggregates.proofs.LendingNeeds.{served}
use Rattle.far_aggregates.proofs.laws.an_aggregate_is_served_by_the_columns_of_its_schema.Goals as goal

pub returns : goal.returns
returns c = λ schema spec has h all. served schema spec has h all
