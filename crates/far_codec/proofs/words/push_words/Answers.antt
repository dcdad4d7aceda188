use Rattle.std.proofs.Common.{◌≡◌, ◌+◌, ◌*◌, ◌++◌, List, take, drop, sym, ap, ◌∙◌, arith}
use Rattle.std.specs.List.{flat_map}
use Rattle.std.proofs.lemmas.List.Folds.{flat_map-map}
use Rattle.far_codec.proofs.Chunks.{taken_block, AllByRecursion-append, written_more}
use Rattle.far_codec.proofs.words.push_words.Goals as goal

pub loop-i-preserved : goal.loop-i-preserved
loop-i-preserved g c =
    let list = c.args.list.now in
    let i = c.loop-i.i in
    let block = c.split_at-in-loop-i.result.0.now in
    let block_is : block ≡ take 64 (drop (64 * i) list) = c.split_at-in-loop-i.ensures.front ∙ ap (take 64) c.split_at.ensures.back in
    let more = taken_block list 64 i (64 * (i + 1)) (omega arith) ∙ ap (λ (l : List _). take (64 * i) list ++ l) (sym block_is) in
    let flat = c.as_flattened.ensures.value ∙ ap (flat_map (λ x. x)) c.write_words.ensures.words ∙ flat_map-map (λ x. x) g.T.EightBytes.written block in
    record {
      written = rw (c.in_ok-extend_from_slice.ensures.items, more) (written_more g.T.EightBytes.written c.args.form.now.items c.loop-i.form.items c.as_flattened.result.now (take (64 * i) list) block c.loop-i.invariant.written flat);
      range = rw more (AllByRecursion-append g.T.EightBytes.in_range (take (64 * i) list) block c.loop-i.invariant.range c.write_words.ensures.range);
    }
