use Rattle.std.proofs.Common.{◌∙◌, refl}
use Rattle.csv.specs.Records.{fields_of}
use Rattle.far_commands.proofs.LoadingLaws.{loads-none, loads-refused, loads-more}
use Rattle.far_commands.specs.WorldRules.{both_rules}
use Rattle.far_commands.proofs.loading.insert_records.Goals as goal

pub loop-count-init : goal.loop-count-init
loop-count-init g c = (λ rows first. (rows, first, λ said new all. all), refl)

pub returns-then-not-branch-clause-ok : goal.returns-then-not-branch-clause-ok
returns-then-not-branch-clause-ok g c rows first =
    let i = c.loop-count.invariant.0 rows first in
    rw c.from.ensures (loads-none (both_rules g.S.FarTickets) c.args.world.now c.loop-count.world c.loop-count.count rows i.0 i.2 (c.in_ok-read_next.ensures.none c.if-not-branch.true i.0 i.1))

pub returns-in-Refused-clause-ok : goal.returns-in-Refused-clause-ok
returns-in-Refused-clause-ok g c rows first =
    let i = c.loop-count.invariant.0 rows first in
    let m = c.in_ok-read_next.ensures.some c.if-not-branch.false i.0 i.1 in
    rw c.from-in-Refused.ensures (loads-refused (both_rules g.S.FarTickets) c.args.world.now c.loop-count.world c.insert_record.new.world c.loop-count.count rows i.0 m.0 (fields_of c.read_next.new.fields) c.in-Refused.refusal i.2 m.1
    (rw c.in-Refused.is at c.in_ok-refusal.ensures.step, (rw c.in-Refused.is at c.in_ok-refusal.ensures.table, tt)))

pub loop-count-preserved : goal.loop-count-preserved
loop-count-preserved g c = (
  λ rows first.
      let i = c.loop-count.invariant.0 rows first in
      let m = c.in_ok-read_next.ensures.some c.if-not-branch.false i.0 i.1 in
      (m.0, m.2, loads-more (both_rules g.S.FarTickets) c.args.world.now c.loop-count.world c.insert_record.new.world c.loop-count.count rows i.0 m.0 (fields_of c.read_next.new.fields) c.in_ok-refusal.field-0 i.2 m.1 (c.in_ok-refusal.ensures.step, (c.in_ok-refusal.ensures.table, tt)) c.in_default.not-Refused),
  c.insert_record.ensures.faults ∙ c.loop-count.invariant.1,
)
