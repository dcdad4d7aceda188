use Rattle.std.proofs.Common.{◌≡◌, ℕ, List, ◌++◌, length}
use Rattle.far_scopes.specs.Coldest.{coldest}
use Rattle.far_scopes.proofs.ColdestLaws.{coldest_in}
use Rattle.far_scopes.proofs.objects.Objects.first_cold.Given as goal

abbrev pub invariant-loop-o : goal.invariant-loop-o
invariant-loop-o g l =
    (coldest l.self ≡ coldest_in l.self l.hot l.rest)
    × ((visited : List ℕ) × (l.self.order ≡ l.rest ++ visited))

abbrev pub decreases-loop-o : goal.decreases-loop-o
decreases-loop-o g l = length l.rest
