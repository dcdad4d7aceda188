-- Offloaded builds: their contents, how they begin, and when they are accepted.
use Rattle.std.specs.Prelude.{◌≡◌, ℕ, ◌+◌, ◌==◌, ◌&&◌, not, Bool, true, nat_lt, cond, List, [], ◌∷◌, Option, None, Some, is_none, option_map, All, IsSomeAnd}
use Rattle.std.specs.List.{find}
use Rattle.far_types.specs.declared.spec.Spec.{Spec}
use Rattle.far_types.specs.declared.refusal.Refusal.{Refusal}
use Rattle.far_types.specs.declared.refusal.Refusal.TheVariants as refusal
use Rattle.far_types.specs.Bounds.{needs}
use Rattle.far_types.specs.FirstOf.{first_of}
use Rattle.far_types.specs.Table.{Registered, in_group, is_pending}
use Rattle.far_offload.specs.Jobs.{Job}
use Rattle.far_rows.specs.declared.column_index.ColumnIndex.{ColumnIndex}
use Rattle.far_rows.specs.Rows.{Rows}
use Rattle.far_rows.specs.Copies.{copy_of}
use Rattle.far_table.specs.State.{LiveState}
use Rattle.far_table.specs.Watching.{aggregate_at, group_count, after_scan_at}

-- a build when it begins: the number of the table, the aggregate, the number of registrations before its own, and the row group. The job
-- has what is to be folded: the specification, a ticket for each column that it needs, and the flags of the row group's places
pub record Build (K : Type 0) : Type 0 where
  pub number : ℕ
  pub aggregate : ℕ
  pub registration : ℕ
  pub group : ℕ
  pub job : Job K

module _ {K : Type 0} where
  -- the ticket of a column among these tickets
  abbrev pub ticket_for : List (ℕ × K) → ℕ → Option K
  ticket_for tickets column = option_map (λ ticket. ticket.1)
      (find (λ ticket. ticket.0 == column) tickets)

  -- each ticket is of the store with this id
  abbrev pub AreTicketsOf : (K → List ℕ → Type 0) → List ℕ → List (ℕ × K) → Type 0
  AreTicketsOf is_of id tickets = All (λ ticket. is_of ticket.1 id) tickets

  -- both tickets exist, and they have the same number
  abbrev pub HaveOneNumber : (K → ℕ) → Option K → Option K → Type 0
  HaveOneNumber number_of (Some own) (Some ticket) = number_of own ≡ number_of ticket
  HaveOneNumber number_of (Some own) None = ⊥
  HaveOneNumber number_of None ticket = ⊥

  -- a test for each column of these indexes, of which the first is column n of the table: the aggregate needs the column, and the far
  -- store does not have the row group in its current state
  abbrev pub dirty_from : Rows K → Spec → ℕ → ℕ → List ColumnIndex → List (Bool × Refusal)
  dirty_from r spec g n [] = []
  dirty_from r spec g n (s ∷ column_indexes) =
      (needs spec n && is_none (copy_of r n g), refusal.StaleJob)
      ∷ dirty_from r spec g (n + 1) column_indexes

  -- a build is begun if the row group has a place, is still pending, and the columns that the aggregate needs are clean
  abbrev pub offload_refusal : LiveState K → Option Registered → ℕ → Option Refusal
  offload_refusal s None g = Some refusal.NoAggregate
  offload_refusal s (Some aggregate) g = first_of (
      (not (nat_lt g (group_count s.table)), refusal.OutOfRange)
      ∷ (not (is_pending aggregate.pending g), refusal.StaleJob)
      ∷ dirty_from s.rows aggregate.spec g 0 s.rows.column_indexes)

  -- the build has the registration and the specification of this aggregate
  pub record IsBuildOf (build : Build K) (aggregate : Registered) : Type 0 where
    pub registration : build.registration ≡ aggregate.registration
    pub spec : build.job.spec ≡ aggregate.spec

  -- a build of row group g into aggregate a, which begins now
  pub record IsOffloadBegun (s : LiveState K) (a g : ℕ) (build : Build K) : Type 0 where
    pub number : build.number ≡ s.rows.number_objects.number
    pub aggregate : build.aggregate ≡ a
    pub group : build.group ≡ g
    pub registered : IsSomeAnd (aggregate_at s.table a) (IsBuildOf build)
    pub tickets : (column : ℕ)
        → ticket_for build.job.tickets column
        ≡ cond (needs build.job.spec column) (copy_of s.rows column g) None
    pub alive : build.job.alive ≡ in_group s.rows.size g s.rows.alive

  module _ (number_of : K → ℕ) (s : LiveState K) (build : Build K) where
    -- the build's assumptions about the aggregate under its number still hold
    pub record HoldsStill (aggregate : Registered) : Type 0 where
      pub number : build.number ≡ s.rows.number_objects.number
      pub registered : IsBuildOf build aggregate
      pub pending : is_pending aggregate.pending build.group ≡ true
      pub tickets : (column : ℕ) → needs build.job.spec column ≡ true
          → HaveOneNumber number_of (copy_of s.rows column build.group)
          (ticket_for build.job.tickets column)
      pub alive : build.job.alive ≡ in_group s.rows.size build.group s.rows.alive

    -- a carried build may be accepted
    abbrev pub IsMergeable : Type 0
    IsMergeable = IsSomeAnd (aggregate_at s.table build.aggregate) HoldsStill

    -- a carried build is accepted: its row group is scanned into its aggregate
    pub record IsMerged (new : LiveState K) : Type 0 where
      pub accepted : IsMergeable
      pub state : new ≡ record s { table = after_scan_at build.aggregate build.group s.table }
