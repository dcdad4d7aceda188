use Rattle.std.proofs.Common.{◌≡◌, ◌++◌}
use Rattle.std.specs.Prelude.{slice_range}
use Rattle.far_frame.specs.Lending.{flags_of}
use Rattle.far_commands.specs.Pieces.{flag_text}
use Rattle.far_script.specs.Printing.{texts_of}
use Rattle.far_commands.proofs.lending.marks_at.Given as goal

abbrev pub invariant-loop-place : goal.invariant-loop-place
invariant-loop-place g l = l.page ++ texts_of flag_text (slice_range (flags_of l.view.table.places) l.place l.to) ≡ l.fn.page ++ texts_of flag_text (slice_range (flags_of l.view.table.places) l.from l.to)
