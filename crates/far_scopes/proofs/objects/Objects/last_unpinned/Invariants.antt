use Rattle.std.proofs.Common.{◌≡◌, ℕ, List, ◌++◌, length, reverse}
use Rattle.std.specs.List.{find}
use Rattle.far_scopes.specs.Coldest.{is_unpinned}
use Rattle.far_scopes.proofs.objects.Objects.last_unpinned.Given as goal

abbrev pub invariant-loop-last : goal.invariant-loop-last
invariant-loop-last g l =
    (find (is_unpinned l.self) (reverse l.self.order) ≡ find (is_unpinned l.self) (reverse l.rest))
    × ((visited : List ℕ) × (l.self.order ≡ l.rest ++ visited))

abbrev pub decreases-loop-last : goal.decreases-loop-last
decreases-loop-last g l = length l.rest
