use Rattle.std.proofs.Common.{◌≡◌, ◌++◌, take}
use Rattle.std.specs.List.{flat_map}
use Rattle.std.specs.Int.{w32, to_le_bytes}
use Rattle.far_codec.specs.TextForm.{ends_in}
use Rattle.far_codec.proofs.TextFormChanges.{moved}
use Rattle.far_codec.proofs.changes.push_moved.Given as goal

abbrev pub invariant-loop-word : goal.invariant-loop-word
invariant-loop-word l = l.form.items ≡ l.fn.form.items ++ flat_map (to_le_bytes w32) (moved l.from l.to (ends_in (take l.word-index l.ends)))
