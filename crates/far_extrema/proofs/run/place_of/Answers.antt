use Rattle.std.proofs.Common.{◌≡◌, ◌-◌, length, arith}
use Rattle.far_extrema.proofs.RunsLaws.{gap_at_end}
use Rattle.far_extrema.proofs.run.place_of.Goals as goal
use Rattle.far_extrema.proofs.run.place_of.Goals.{then-len-eq0-via-then-len-eq0, then-len-eq0-via-else-len-eq0+then-groups-len}

pub returns-then-len-eq0-clause-absent : goal.returns-then-len-eq0-clause-absent
returns-then-len-eq0-clause-absent c = gap_at_end c.args.groups.now c.args.group c.requires (λ k e. elim c.then-len-eq0.branch [
  | then-len-eq0-via-then-len-eq0 w ↦ absurd (omega (arith, e, w.if-len-eq0))
  | then-len-eq0-via-else-len-eq0+then-groups-len w ↦
      let last : k ≡ length c.args.groups.now - 1 = omega (arith, e) in
      grind (arith, last, w.if-groups-len)
])
