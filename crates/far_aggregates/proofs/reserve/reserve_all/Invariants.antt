use Rattle.std.proofs.Common.{◌≡◌, ℕ, List, map, take}
use Rattle.far_types.specs.Table.{Place}
use Rattle.far_aggregates.specs.Accumulators.{Keeps, registered_in}
use Rattle.far_aggregates.specs.Reserve.{AreReserved}
use Rattle.far_aggregates.proofs.reserve.reserve_all.Given as goal

abbrev pub invariant-loop-i : goal.invariant-loop-i
invariant-loop-i l = record {
  reserved : AreReserved l.group (take l.i l.registry);
  registered : map registered_in l.registry ≡ map registered_in l.initial.registry;
  kept : (size : ℕ) → (places : List Place) → Keeps size places l.initial.registry → Keeps size places l.registry;
}
