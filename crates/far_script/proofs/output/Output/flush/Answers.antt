use Rattle.std.proofs.Common.{◌∙◌}
use Rattle.std.proofs.KnownBytes.{Keeps-refl}
use Rattle.far_script.proofs.FlowLaws.{prints-front}
use Rattle.far_script.proofs.output.Output.flush.Goals.{then-not-is_empty, else-not-is_empty}
use Rattle.far_script.proofs.output.Output.flush.Goals as goal

pub returns-then-self-2-clause-printed : goal.returns-then-self-2-clause-printed
returns-then-self-2-clause-printed g c = elim c.if-not-is_empty.branch [
  | then-not-is_empty w ↦ rw w.writer-is (prints-front _ _ _ c.args.self.now.page _ c.write_out-taken.result (rw c.as_slice.ensures at c.write_out-taken.ensures.sent) (Keeps-refl _) c.forget.ensures)
  | else-not-is_empty w ↦ rw w.writer-is (prints-front _ _ _ c.args.self.now.page _ c.write_out-taken.result (rw c.as_slice.ensures at c.write_out-taken.ensures.sent) w.flush_all.ensures.bytes c.forget.ensures)
]

pub returns-clause-printed : goal.returns-clause-printed
returns-clause-printed g c = elim c.if-not-is_empty.branch [
  | then-not-is_empty w ↦ rw w.writer-is (prints-front _ _ _ c.args.self.now.page _ c.write_out-taken.result (rw c.as_slice.ensures at c.write_out-taken.ensures.sent) (Keeps-refl _) (c.change_pages.ensures.page ∙ c.forget.ensures))
  | else-not-is_empty w ↦ rw w.writer-is (prints-front _ _ _ c.args.self.now.page _ c.write_out-taken.result (rw c.as_slice.ensures at c.write_out-taken.ensures.sent) w.flush_all.ensures.bytes (c.change_pages.ensures.page ∙ c.forget.ensures))
]
