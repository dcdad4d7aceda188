use Rattle.std.proofs.Common.{rules, ◌≡◌, sym, ◌∙◌}
use Rattle.std.specs.declared.cmp.Ordering.TheVariants.{Less, Equal, Greater}
use Rattle.far_types.specs.Keys.{line_cmp}
use Rattle.far_groups.proofs.WalksLaws.{found_here, not_ahead, above_both, above_equal, still_ascend, moved_past}
use Rattle.far_groups.proofs.joins.Walk.find.Goals as goal

pub returns-in-Greater-clause-found : goal.returns-in-Greater-clause-found
returns-in-Greater-clause-found c =
    let order : line_cmp c.in-Some.next.now c.args.key.now ≡ Greater = search rules in
    sym (not_ahead c.in-Some.is c.loop-self.self-inside.rest c.args.key.now c.loop-self.invariant.ascending order) ∙ c.loop-self.invariant.found

pub invariant_of-self-in-Equal : goal.invariant_of-self-in-Equal
invariant_of-self-in-Equal c =
    still_ascend c.in-Some.is c.loop-self.self-inside.rest c.next-self-inside.new.self c.next-self-inside.result c.next-self-inside.ensures.steps c.loop-self.invariant.ascending

pub returns-in-Equal-clause-found : goal.returns-in-Equal-clause-found
returns-in-Equal-clause-found c =
    let order : line_cmp c.in-Some.next.now c.args.key.now ≡ Equal = search rules in
    sym (found_here c.in-Some.is c.loop-self.self-inside.rest c.args.key.now order) ∙ c.loop-self.invariant.found

pub returns-in-Equal-clause-rest : goal.returns-in-Equal-clause-rest
returns-in-Equal-clause-rest c q above =
    let order : line_cmp c.in-Some.next.now c.args.key.now ≡ Equal = search rules in
    moved_past c.in-Some.is c.loop-self.self-inside.rest c.next-self-inside.new.self c.next-self-inside.result c.next-self-inside.ensures.steps q (above_equal c.in-Some.next.now c.args.key.now q order above)
    ∙ c.loop-self.invariant.rest q above

pub loop-self-preserved : goal.loop-self-preserved
loop-self-preserved c =
    let order : line_cmp c.in-Some.next.now c.args.key.now ≡ Less = search rules in
    let turn = c.next-self-inside-in-Less in
    let past = moved_past c.in-Some.is c.loop-self.self-inside.rest turn.new.self turn.result turn.ensures.steps in
    record {
      ascending = still_ascend c.in-Some.is c.loop-self.self-inside.rest turn.new.self turn.result turn.ensures.steps c.loop-self.invariant.ascending;
      found = past c.args.key.now order ∙ c.loop-self.invariant.found;
      rest = λ q above. past q (above_both c.in-Some.next.now c.args.key.now q order above) ∙ c.loop-self.invariant.rest q above;
    }
