use Rattle.std.proofs.Common.{◌≡◌, ◌*◌, length, sym, ap, ◌∙◌}
use Rattle.far_log.specs.RegionState.{segment_of}
use Rattle.far_log.proofs.RegionStateLaws.{sizes-sum}
use Rattle.far_log.proofs.region.Region.capacity.Goals as goal

pub returns : goal.returns
returns g c =
    let state = c.args.self.now in
    let count : c.len.result ≡ length state = c.len.ensures ∙ ap length c.self.view_is in
    ap (λ n. n * c.size.result) count
    ∙ ap (λ n. length state * n) c.size.ensures.size
    ∙ sym (sizes-sum (segment_of state 0).size state c.size.ensures.sound.same_length)
