use Rattle.std.proofs.Common.{◌≡◌, ◌+◌, ◌∙◌, Some, length, slice_get, ap, arith}
use Rattle.std.proofs.lemmas.List.{length_push, map_push, take_more}
use Rattle.far_store.proofs.Tokens.{each-pushed}
use Rattle.far_store.proofs.byte_log.ByteLogEngine.write.Goals as goal

pub overflow_add-offset : goal.overflow_add-offset
overflow_add-offset c = let fits = c.in-Some.ensures in omega arith

pub loop-i-preserved : goal.loop-i-preserved
loop-i-preserved c =
    let token = c.in_ok-write_at.field-0 in
    let tokens = c.loop-i.written.items in
    let pushed = c.in_ok-push.ensures.items in
    let at : slice_get c.args.self.now (c.in-Some.offset + length tokens) ≡ Some token.of = rw c.loop-i.invariant.count c.in_ok-write_at.ensures.here in
    record {
      count = rw pushed (length_push tokens token ∙ ap (λ n. n + 1) c.loop-i.invariant.count);
      here = λ i. rw pushed (each-pushed (λ k t. slice_get c.args.self.now (c.in-Some.offset + k) ≡ Some t.of) tokens token c.loop-i.invariant.here at i);
      bytes = rw pushed (map_push (λ t. t.value) tokens token ∙ (cc (c.loop-i.invariant.bytes, c.in_ok-write_at.ensures.byte, take_more c.args.bytes.now c.loop-i.i 0 c.loop-i-test.true)));
    }
