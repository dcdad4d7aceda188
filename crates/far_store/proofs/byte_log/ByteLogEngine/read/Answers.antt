use Rattle.std.proofs.Common.{◌≡◌, ◌<◌, ◌+◌, Some, length, slice_get, arith}
use Rattle.std.proofs.lemmas.Option.{slice_get_within}
use Rattle.far_store.proofs.Tokens.{at-index, take-next}
use Rattle.far_store.proofs.byte_log.ByteLogEngine.read.Goals as goal

pub overflow_add-key : goal.overflow_add-key
overflow_add-key c =
    let here = at-index (λ token. slice_get c.args.self.now (c.args.key.now.offset + c.loop-i.i) ≡ Some token.of) _ c.nth-token.result.now c.nth-token.ensures (c.requires.here c.loop-i.i) in
    let within : c.args.key.now.offset + c.loop-i.i < length c.args.self.now = slice_get_within _ _ _ here in
    omega (arith, c.size-size.ensures)

pub byte_at-requires : goal.byte_at-requires
byte_at-requires c =
    at-index (λ token. slice_get c.args.self.now (c.args.key.now.offset + c.loop-i.i) ≡ Some token.of) _ c.nth-token.result.now c.nth-token.ensures (c.requires.here c.loop-i.i)

pub loop-i-preserved : goal.loop-i-preserved
loop-i-preserved c =
    let next = take-next (λ token. token.value) c.args.key.now.written.items c.loop-i.i c.nth-token.result.now c.nth-token.ensures in
    let pushed = c.in_ok-push.ensures.items in
    cc
