-- Reserving a row group keeps the aggregates up to date.
use Rattle.std.proofs.Common.{◌≡◌, ℕ, ◌+◌, ◌-◌, List, length, refl, ◌∙◌, arith, None, Some, replicate, length-append}
use Rattle.std.specs.FinMap as fin
use Rattle.std.proofs.lemmas.List.{length-replicate}
use Rattle.far_types.specs.Answers.{Extrema}
use Rattle.far_types.specs.Table.{Place}
use Rattle.far_aggregates.specs.declared.aggregate.Aggregate.{Aggregate}
use Rattle.far_aggregates.specs.declared.aggregate.Accumulator.{Accumulator}
use Rattle.far_aggregates.specs.declared.aggregate.Accumulator.TheVariants as accumulator
use Rattle.far_aggregates.specs.Accumulators.{RegistryEntry, registered_in, fold_of, IsUpToDate, KeepsEntry}
use Rattle.far_aggregates.specs.Reserve.{accumulator_after_reserve, entry_after_reserve, AccumulatorIsReserved, IsReserved}
use Rattle.far_aggregates.proofs.ListLaws.{index-replicate}

pub reserved-registered : (g : ℕ) (s : RegistryEntry) → registered_in (entry_after_reserve g s) ≡ registered_in s
reserved-registered g None = refl
reserved-registered g (Some a) = refl

is_reserved : (g : ℕ) (k : Accumulator) → AccumulatorIsReserved g (accumulator_after_reserve g k)
is_reserved g (accumulator.Totals live) = tt
is_reserved g (accumulator.Extrema live) =
    let e : Extrema = fin.empty in
    let more = length-append live.groups (replicate (g + 1 - length live.groups) e) in
    let many = length-replicate (g + 1 - length live.groups) e in
    omega arith

pub reserved-is : (g : ℕ) (s : RegistryEntry) → IsReserved g (entry_after_reserve g s)
reserved-is g None = tt
reserved-is g (Some a) = is_reserved g a.accumulator

reserved-fold : (g : ℕ) (k : Accumulator) → fold_of (accumulator_after_reserve g k) ≡ fold_of k
reserved-fold g (accumulator.Totals live) = refl
reserved-fold g (accumulator.Extrema live) = refl

accumulator-reserved : (g size : ℕ) (ps : List Place) (a : Aggregate) (k : Accumulator) → IsUpToDate size ps a k → IsUpToDate size ps a (accumulator_after_reserve g k)
accumulator-reserved g size ps a (accumulator.Totals live) h = h
accumulator-reserved g size ps a (accumulator.Extrema live) h = (λ i. index-replicate live.groups (g + 1 - length live.groups) i fin.empty ∙ h.0 i, h.1)

pub accumulator-same : (size : ℕ) (ps : List Place) (a b : Aggregate) (k : Accumulator) → a.spec ≡ b.spec → a.pending ≡ b.pending → IsUpToDate size ps a k → IsUpToDate size ps b k
accumulator-same size ps a b (accumulator.Totals live) e f h = rw (← e, ← f) h
accumulator-same size ps a b (accumulator.Extrema live) e f h = rw (← e, ← f) h

pub reserved-keeps : (g size : ℕ) (ps : List Place) (s : RegistryEntry) → KeepsEntry size ps s → KeepsEntry size ps (entry_after_reserve g s)
reserved-keeps g size ps None h = tt
reserved-keeps g size ps (Some a) h = (reserved-fold g a.accumulator ∙ h.0, accumulator-same size ps a (record a { accumulator = accumulator_after_reserve g a.accumulator }) (accumulator_after_reserve g a.accumulator) refl refl (accumulator-reserved g size ps a a.accumulator h.1))
