use Rattle.std.proofs.Common.{◌≡◌, ◌+◌, ◌-◌, ◌++◌, length, sym, ap, ◌∙◌, arith}
use Rattle.std.specs.Prelude.{replicate}
use Rattle.std.specs.FinMap as fin
use Rattle.far_extrema.specs.Live.{ExtremaState}
use Rattle.far_extrema.specs.Holders.{groups_in}
use Rattle.far_extrema.proofs.HoldersLaws.{more-reserved, length-groups_in}
use Rattle.far_extrema.proofs.live_extrema.LiveExtrema.make_room.Goals as goal

pub returns : goal.returns
returns c =
    let m = c.self.inside.holders in
    let count = c.self.inside.reserved_groups in
    let left = ap (λ (live : ExtremaState). live.left) c.self.view_is in
    let groups = ap (λ (live : ExtremaState). live.groups) c.self.view_is in
    let reserved = ap (λ (live : ExtremaState). live.reserved) c.self.view_is in
    let far : c.max-self-inside.result ≡ count + (c.args.group + 1 - count) = omega (arith, c.max-self-inside.ensures) in
    let long : count ≡ length c.args.self.now.groups = sym (length-groups_in m count) ∙ ap length groups in
    let new = ap (groups_in m) far ∙ more-reserved m count (c.args.group + 1 - count) c.self.invariant ∙ (λ i. groups i ++ replicate (c.args.group + 1 - long i) fin.empty) in
    λ i. record { left = left i; groups = new i; reserved = reserved i }
