use Rattle.far_shared.proofs.WorksLaws.{fetch-column, fetch-numbers}
use Rattle.far_shared.proofs.working.fetch_on.Goals as goal

pub returns-clause-column : goal.returns-clause-column
returns-clause-column g c past = fetch-column c.args.frame.now.rows c.args.name.column c.args.name.group c.begin_fetch.result c.begin_fetch.ensures.refused past

pub returns-clause-numbers : goal.returns-clause-numbers
returns-clause-numbers g c within = fetch-numbers c.args.frame.now.rows c.args.name.column c.args.name.group c.begin_fetch.result c.begin_fetch.ensures.refused within
