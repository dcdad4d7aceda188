use Rattle.std.proofs.Common.{◌≡◌, map, take}
use Rattle.far_store.proofs.byte_log.ByteLogEngine.read.Given as goal

-- the buffer has the first i bytes
abbrev pub invariant-loop-i : goal.invariant-loop-i
invariant-loop-i l = l.buffer.items ≡ take l.i (map (λ token. token.value) l.key.written.items)
