use Rattle.std.proofs.Common.{◌≡◌, ◌+◌, ◌++◌, map}
use Rattle.std.specs.List.{flat_map, range_with_len}
use Rattle.std.specs.Int.{w32, to_le_bytes}
use Rattle.far_codec.specs.TextForm.{bytes_before}
use Rattle.far_codec.proofs.text_forms.push_ends.Given as goal

abbrev pub invariant-loop-text : goal.invariant-loop-text
invariant-loop-text l = record {
  end_is : l.end ≡ bytes_before l.texts l.text-index;
  written : l.form.items ≡ l.fn.form.items ++ flat_map (to_le_bytes w32) (map (λ i. bytes_before l.texts (i + 1)) (range_with_len 0 l.text-index));
}
