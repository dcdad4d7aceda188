use Rattle.std.proofs.Common.{◌≡◌, take}
use Rattle.far_types.specs.FormLengths.{text_bytes}
use Rattle.far_codec.proofs.text_forms.count_bytes.Given as goal

abbrev pub invariant-loop-text : goal.invariant-loop-text
invariant-loop-text l = l.total ≡ text_bytes (take l.text-index l.texts)
