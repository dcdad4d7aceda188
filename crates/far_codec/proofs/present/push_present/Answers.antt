use Rattle.std.proofs.Common.{◌≡◌, ◌+◌, ◌*◌, ◌++◌, List, take, drop, sym, ap, ◌∙◌, arith}
use Rattle.std.specs.List.{flat_map}
use Rattle.std.proofs.lemmas.List.Folds.{flat_map-map}
use Rattle.far_codec.specs.FarForm.{number_bytes}
use Rattle.far_codec.specs.PlainNumbers.{IsThere}
use Rattle.far_codec.proofs.Chunks.{taken_block, AllByRecursion-append, written_more}
use Rattle.far_codec.proofs.present.push_present.Goals as goal

pub loop-i-preserved : goal.loop-i-preserved
loop-i-preserved c =
    let numbers = c.args.numbers.now in
    let i = c.loop-i.i in
    let block = c.split_at-in-loop-i.result.0.now in
    let all = c.if-not-write_present.false in
    let block_is : block ≡ take 64 (drop (64 * i) numbers) = c.split_at-in-loop-i.ensures.front ∙ ap (take 64) c.split_at.ensures.back in
    let more = taken_block numbers 64 i (64 * (i + 1)) (omega arith) ∙ ap (λ (l : List _). take (64 * i) numbers ++ l) (sym block_is) in
    let flat = c.as_flattened.ensures.value ∙ ap (flat_map (λ x. x)) (c.write_present.ensures.words all) ∙ flat_map-map (λ x. x) number_bytes block in
    record {
      written = rw (c.in_ok-extend_from_slice.ensures.items, more) (written_more number_bytes c.args.form.now.items c.loop-i.form.items c.as_flattened.result.now (take (64 * i) numbers) block c.loop-i.invariant.written flat);
      there = rw more (AllByRecursion-append IsThere (take (64 * i) numbers) block c.loop-i.invariant.there (c.write_present.ensures.there all));
    }
