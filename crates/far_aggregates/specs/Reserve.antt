-- Extrema that are reserved for a row group.
-- Internal: no public contract cites it.
use Rattle.std.specs.Prelude.{ℕ, ◌<◌, List, length, None, Some}
use Rattle.std.specs.List.{AllByRecursion}
use Rattle.far_extrema.specs.Live.{after_reserve}
use Rattle.far_aggregates.specs.declared.aggregate.Accumulator.{Accumulator}
use Rattle.far_aggregates.specs.declared.aggregate.Accumulator.TheVariants as accumulator
use Rattle.far_aggregates.specs.Accumulators.{RegistryEntry}

-- extrema are reserved for a row group
abbrev pub AccumulatorIsReserved : ℕ → Accumulator → Type 0
AccumulatorIsReserved g (accumulator.Totals live) = Unit {0}
AccumulatorIsReserved g (accumulator.Extrema live) = g < length live.groups

-- an entry of the registry is reserved for a row group
abbrev pub IsReserved : ℕ → RegistryEntry → Type 0
IsReserved g None = Unit {0}
IsReserved g (Some a) = AccumulatorIsReserved g a.accumulator

-- each entry of the registry is reserved for a row group
abbrev pub AreReserved : ℕ → List RegistryEntry → Type 0
AreReserved g registry = AllByRecursion (IsReserved g) registry

-- an accumulator once it is reserved for a row group
abbrev pub accumulator_after_reserve : ℕ → Accumulator → Accumulator
accumulator_after_reserve g (accumulator.Totals live) = accumulator.Totals live
accumulator_after_reserve g (accumulator.Extrema live) = accumulator.Extrema
    (record live { groups = after_reserve g live.groups })

-- an entry of the registry once it is reserved for a row group
abbrev pub entry_after_reserve : ℕ → RegistryEntry → RegistryEntry
entry_after_reserve g None = None
entry_after_reserve g (Some a) = Some
    (record a { accumulator = accumulator_after_reserve g a.accumulator })
