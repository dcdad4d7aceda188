use Rattle.std.proofs.Common.{◌≡◌, ℕ, List}
use Rattle.far_commands.specs.Loading.{Remains}
use Rattle.far_commands.proofs.LoadingLaws.{GoesTo}
use Rattle.far_commands.specs.WorldRules.{both_rules}
use Rattle.far_commands.proofs.loading.insert_records.Given as goal

abbrev pub invariant-loop-count : goal.invariant-loop-count
invariant-loop-count g l = ((rows : List (List (List ℕ))) → Remains g.R.Read.remaining l.fn.reader rows
    → (left : List (List (List ℕ))) × Remains g.R.Read.remaining l.reader left × GoesTo (both_rules g.S.FarTickets) l.fn.world rows l.count l.world left) × (l.world.faults ≡ l.fn.world.faults)
