use Rattle.std.proofs.Common.{◌≡◌, [], replicate}
use Rattle.far_prefetcher.proofs.prefetcher.Prefetcher.new.Given as goal

abbrev pub invariant-loop : goal.invariant-loop
invariant-loop l = l.histories.items ≡ replicate l.counter []
