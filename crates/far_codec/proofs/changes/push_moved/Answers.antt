use Rattle.std.proofs.Common.{◌≡◌, ◌+◌, ◌-◌, ◌<◌, ◌≤◌, ◌^◌, ◌++◌, ℕ, List, [], ◌∷◌, length, get_or, All, sym, ap, ◌∙◌, arith}
use Rattle.std.specs.List.{flat_map}
use Rattle.std.specs.Int.{w32, to_le_bytes, from_le_bytes}
use Rattle.std.proofs.lemmas.List.{get_or-map, length-map}
use Rattle.far_codec.specs.TextForm.{ends_in}
use Rattle.far_codec.proofs.Chunks.{written_more}
use Rattle.far_codec.proofs.TextFormChanges.{moved}
use Rattle.far_codec.proofs.TextFormFieldChanges.{moved_more}
use Rattle.far_codec.proofs.changes.push_moved.Goals as goal
use Rattle.std.specs.Prelude.{take}

-- a property of each end is a property of the end in each word
holds : (words : List (List ℕ)) (k from to end : ℕ) → All (λ e. (from ≤ e) × (e - from + to < 2 ^ 32)) (ends_in words) → k < length words → end ≡ from_le_bytes w32 (get_or words k []) → (from ≤ end) × (end - from + to < 2 ^ 32)
holds words k from to end all h is =
    let e : get_or (ends_in words) k 0 ≡ end = get_or-map (from_le_bytes w32) words k [] 0 h ∙ sym is in
    let fact = all k 0 (omega (arith, length-map words (from_le_bytes w32))) in
    (omega (arith, fact.0, e), omega (arith, fact.1, e))

pub overflow_sub-end : goal.overflow_sub-end
overflow_sub-end c = (holds c.args.ends.now c.loop-word.word-index c.args.from c.args.to c.end_in.result c.requires c.loop-word-test.true c.end_in.ensures).0

pub overflow_add-end : goal.overflow_add-end
overflow_add-end c = omega (arith, (holds c.args.ends.now c.loop-word.word-index c.args.from c.args.to c.end_in.result c.requires c.loop-word-test.true c.end_in.ensures).1)

pub overflow_cast-end : goal.overflow_cast-end
overflow_cast-end c = omega (arith, (holds c.args.ends.now c.loop-word.word-index c.args.from c.args.to c.end_in.result c.requires c.loop-word-test.true c.end_in.ensures).1)

pub loop-word-preserved : goal.loop-word-preserved
loop-word-preserved c =
    let words = c.args.ends.now in
    let k = c.loop-word.word-index in
    let from = c.args.from in
    let to = c.args.to in
    let end = c.end_in.result in
    let form = c.args.form.now.items in
    c.in_ok-extend_from_slice.ensures.items
    ∙ written_more (to_le_bytes w32) form c.loop-word.form.items c.to_le_bytes.result (moved from to (ends_in (take k words))) ((end - from + to) ∷ []) c.loop-word.invariant c.to_le_bytes.ensures
    ∙ ap (λ (l : List ℕ). form ++ flat_map (to_le_bytes w32) l) (sym (moved_more words k from to end c.loop-word-test.true c.end_in.ensures))
