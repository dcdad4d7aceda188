use Rattle.std.proofs.Common.{◌≡◌, take}
use Rattle.far_offload.proofs.content.lend_all.Given as goal

abbrev pub invariant-loop-content : goal.invariant-loop-content
invariant-loop-content l = l.columns.items ≡ take l.content-index l.contents
