use Rattle.std.proofs.Common.{◌∙◌, refl, arith, rules}
use Rattle.std.specs.List.{slice_split}
use Rattle.far_script.specs.OneRecord.{is_comma}
use Rattle.far_commands.specs.Replies.{records_of}
use Rattle.far_commands.proofs.LoadingLaws.{loads-none, loads-refused, loads-more}
use Rattle.far_commands.proofs.LoadingLines.{lines-first, lines-end, lines-more, lines-skip}
use Rattle.far_commands.specs.WorldRules.{both_rules}
use Rattle.far_commands.proofs.loading.load_lines.Goals as goal

pub loop-rest-init : goal.loop-rest-init
loop-rest-init g c = record {
  text = search rules;
  left = (records_of c.args.text.now, lines-first c.args.text.now c.requires, λ said new all. all);
  faults = refl;
  counted = search rules;
}

pub returns-in-Refused-clause-ok : goal.returns-in-Refused-clause-ok
returns-in-Refused-clause-ok g c =
    let i = c.loop-rest.invariant in
    let m = lines-more c.loop-rest.rest.now c.next_line.result.0.now c.next_line.result.1.now i.left.0 (search rules) c.next_line.ensures.line c.next_line.ensures.behind (search rules) i.left.1 in
    loads-refused (both_rules g.S.FarTickets) c.args.world.now c.loop-rest.world c.insert_line.new.world c.loop-rest.count (records_of c.args.text.now) i.left.0 m.0 (slice_split is_comma c.next_line.result.0.now) c.in-Refused.refusal i.left.2 m.1
    (rw c.in-Refused.is at c.in_ok-refusal.ensures.step, (rw c.in-Refused.is at c.in_ok-refusal.ensures.table, tt))

pub returns-clause-ok : goal.returns-clause-ok
returns-clause-ok g c =
    let i = c.loop-rest.invariant in
    let none = lines-end c.loop-rest.rest.now i.left.0 (search rules) i.left.1 in
    loads-none (both_rules g.S.FarTickets) c.args.world.now c.loop-rest.world c.loop-rest.count (records_of c.args.text.now) i.left.0 i.left.2 none

pub loop-rest-preserved-then-not-is_empty : goal.loop-rest-preserved-then-not-is_empty
loop-rest-preserved-then-not-is_empty g c =
    let i = c.loop-rest.invariant in
    let line = c.next_line.result.0.now in
    let next = c.next_line.ensures in
    let m = lines-more c.loop-rest.rest.now line c.next_line.result.1.now i.left.0 (search rules) next.line next.behind (search rules) i.left.1 in
    record {
      text = search rules;
      left = (m.0, m.2, loads-more (both_rules g.S.FarTickets) c.args.world.now c.loop-rest.world c.insert_line.new.world c.loop-rest.count (records_of c.args.text.now) i.left.0 m.0 (slice_split is_comma line) c.in_ok-refusal.field-0 i.left.2 m.1 (c.in_ok-refusal.ensures.step, (c.in_ok-refusal.ensures.table, tt)) c.in_default.not-Refused);
      faults = c.insert_line.ensures.faults ∙ i.faults;
      counted = (let low = next.shorter (search rules) in omega (arith, i.counted, low));
    }

pub loop-rest-preserved : goal.loop-rest-preserved
loop-rest-preserved g c =
    let i = c.loop-rest.invariant in
    let next = c.next_line.ensures in
    record {
      text = search rules;
      left = (i.left.0, lines-skip c.loop-rest.rest.now c.next_line.result.0.now c.next_line.result.1.now i.left.0 (search rules) next.line next.behind (search rules) i.left.1, i.left.2);
      faults = i.faults;
      counted = (let low = next.shorter (search rules) in omega (arith, i.counted, low));
    }
