use Rattle.std.proofs.Common.{◌≡◌, ◌∙◌, arith}
use Rattle.std.proofs.lemmas.Grind.{common_steps}
use Rattle.crossbeam_utils.specs.Seq.{cell_view}
use Rattle.far_sessions.proofs.keeper.Keeper.add.Goals as goal

pub add-requires-clause-reads : goal.add-requires-clause-reads
add-requires-clause-reads g c =
    let all : (cell_view c.join_session.new.pass).all ≡ c.args.self.now = grind (arith, common_steps) in
    let by : (cell_view c.join_session.new.pass).by ≡ c.args.me.now.by = grind (arith, common_steps) in
    rw all (rw by (c.words_of.ensures ∙ c.requires.reading))

pub add-requires-clause-may : goal.add-requires-clause-may
add-requires-clause-may g c =
    let all : (cell_view c.join_session.new.pass).all ≡ c.args.self.now = grind (arith, common_steps) in
    rw all c.requires.may
