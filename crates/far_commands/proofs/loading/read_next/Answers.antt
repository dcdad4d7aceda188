use Rattle.csv.specs.Records.{fields_of}
use Rattle.far_commands.proofs.LoadingLaws.{remains-none, remains-some}
use Rattle.far_commands.proofs.loading.read_next.Goals as goal

pub returns-clause-none : goal.returns-clause-none
returns-clause-none g c none rows left =
    remains-none g.R.Read.remaining c.args.reader.now c.read_record.new.self (fields_of c.read_record.new.row) rows left
    (rw none at (c.in-Ok.ensures.reads left.untrimmed left.ready))

pub returns-clause-some : goal.returns-clause-some
returns-clause-some g c some rows left =
    remains-some g.R.Read.remaining c.args.reader.now c.read_record.new.self (fields_of c.read_record.new.row) rows left
    (rw some at (c.in-Ok.ensures.reads left.untrimmed left.ready)) (c.in-Ok.ensures.ready left.untrimmed)
