use Rattle.std.proofs.Common.{◌≡◌, ◌+◌, ℕ, Some, map, slice_get, IfSome, take, length}
use Rattle.far_store.proofs.byte_log.ByteLogEngine.write.Given as goal

-- the loop has made one token for each byte so far, which is of the byte's slot and has its value
abbrev pub invariant-loop-i : goal.invariant-loop-i
invariant-loop-i l = record {
  count : length l.written.items ≡ l.i;
  here : (i : ℕ) → IfSome (slice_get l.written.items i) (λ token. slice_get l.self (l.offset + i) ≡ Some token.of);
  bytes : map (λ token. token.value) l.written.items ≡ take l.i l.bytes;
}
