use Rattle.std.proofs.Common.{◌≡◌, ℕ, suc, ◌-◌, ◌*◌, ◌%◌, ◌^◌, ◌<◌, ◌≤◌, w64, arith, refl, ap, ◌∙◌, pow-suc}
use Rattle.std.proofs.Math.Nat.{mod-eq_of_lt}
use Rattle.std.proofs.lemmas.Nat.{pow_below}
use Rattle.std.specs.Int.{leading_zeros}
use Rattle.std.specs.Int.Count.{leading_unique}
use Rattle.far_host.specs.Spots.{count_at, group_of, chunk_of, place_of}
use Rattle.far_host.proofs.spot.Spot.of.Goals as goal

-- the exponent of the highest power of two up to the chunk's count is its group
group-is : (number top : ℕ) → 2 ^ top ≤ count_at number → count_at number < 2 * 2 ^ top → top < 64 → top ≡ group_of number
unfolding group_of
group-is number top low high small =
    let next : 2 ^ suc top ≡ 2 ^ top * 2 = pow-suc 2 top in
    let zeros : 63 - top ≡ leading_zeros w64 (count_at number) = leading_unique 64 (count_at number) (63 - top) (suc top) (omega arith) (omega (arith, next)) (omega (arith, next)) in
    omega (arith, zeros)

pub returns-clause-group : goal.returns-clause-group
returns-clause-group c = group-is c.args.number c.ilog2-group.result c.ilog2-group.ensures.power_le c.ilog2-group.ensures.next_power_gt c.ilog2-group.ensures.bound

pub returns-clause-chunk : goal.returns-clause-chunk
unfolding chunk_of
returns-clause-chunk c =
    let top = c.ilog2-group.result in
    let below : 2 ^ top < 2 ^ 64 = pow_below top 64 c.ilog2-group.ensures.bound in
    let shifted : 1 * 2 ^ top % 2 ^ 64 ≡ 2 ^ top = omega (arith, mod-eq_of_lt below) in
    ap (λ (chunks : ℕ). count_at c.args.number - chunks) shifted ∙ ap (λ (g : ℕ). count_at c.args.number - 2 ^ g) (returns-clause-group c)

pub returns-clause-place : goal.returns-clause-place
unfolding place_of
returns-clause-place c = refl
