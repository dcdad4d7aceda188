use Rattle.std.proofs.Common.{◌≡◌, subst, arith}
use Rattle.far_log.specs.RegionState.{IsRegion, segment_of}
use Rattle.far_scopes.proofs.MemoryLengths.{lists-short}
use Rattle.far_scopes.proofs.memory.LocalMemory.lists_are_short.Goals as goal

pub returns : goal.returns
returns g c = λ o list is.
    let region = subst (λ m. IsRegion m.state) c.self.view_is c.size-size.ensures.sound in
    let size = subst (λ m. c.size-size.result ≡ (segment_of m.state 0).size) c.self.view_is c.size-size.ensures.size in
    let short = lists-short c.args.self.now o list region is in
    omega (arith, short, size, c.size-size.type_inv)
