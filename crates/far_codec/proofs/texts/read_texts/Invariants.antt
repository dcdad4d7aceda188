use Rattle.std.proofs.Common.{◌≡◌, map, length, vec_len}
use Rattle.std.specs.Prelude.{vec_capacity}
use Rattle.std.specs.List.{range_with_len}
use Rattle.far_codec.specs.TextForm.{ends_in}
use Rattle.far_codec.specs.TextLaws.{text_at}
use Rattle.far_codec.proofs.texts.read_texts.Given as goal

abbrev pub invariant-loop-i : goal.invariant-loop-i
invariant-loop-i l = record {
  read : l.texts.items ≡ map (text_at l.parts.mask.now (ends_in l.parts.ends.now) l.parts.body.now) (range_with_len 0 l.i);
  len : vec_len l.texts ≡ l.i;
  space : vec_capacity l.texts ≡ length l.parts.ends.now;
}
