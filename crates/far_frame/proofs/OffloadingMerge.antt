-- If a build may be merged, its contents are those of its row group.
use Rattle.std.proofs.Common.{◌≡◌, ℕ, ◌<◌, Bool, true, List, map, length, Option, None, Some, sym, ap, ◌∙◌, arith}
use Rattle.std.specs.Prelude.{◌↔◌, IsTrue, IsSomeAnd, nat_lt, option_map}
use Rattle.std.proofs.lemmas.Bool.Decides.{nat_tests}
use Rattle.std.proofs.lemmas.List.{length-map}
use Rattle.std.proofs.lemmas.Option.{none-some, same_Some}
use Rattle.far_types.specs.declared.cell.Kind.{Kind}
use Rattle.far_types.specs.declared.spec.Spec.{Spec}
use Rattle.far_types.specs.Bounds.{needs, spec_refusal}
use Rattle.far_types.specs.Table.{Registered, in_group}
use Rattle.far_rows.specs.ColumnIndexes.{kind_of}
use Rattle.far_rows.specs.Rows.{Rows}
use Rattle.far_aggregates.specs.Aggregates.{is_pending_in}
use Rattle.far_aggregates.specs.Lending.{IsServed}
use Rattle.far_table.specs.State.{LiveState}
use Rattle.far_table.specs.Watching.{aggregate_at}
use Rattle.far_rows.specs.Copies.{copy_of}
use Rattle.far_table.specs.Offloading.{Build, HoldsStill, IsMergeable, HaveOneNumber, ticket_for}
use Rattle.far_table.specs.FarGroups.{AllNeeded, IsCopy, AreCopies}

-- each column that an aggregate needs is a column of the table
pub needed-below : ((schema : List Kind) (spec : Spec) (some : ℕ → Bool) → spec_refusal schema spec ≡ None → ((c : ℕ) → c < length schema → some c ≡ true) → IsServed some spec)
    → {K : Type 0} (held : Rows K) (schema : List Kind) → map kind_of held.column_indexes ≡ schema → (spec : Spec) → spec_refusal schema spec ≡ None → (c : ℕ) → needs spec c ≡ true → c < length held.column_indexes
needed-below law held schema kinds spec right c wanted =
    let among = (law schema spec (λ k. nat_lt k (length schema)) right (λ k within. grind (arith, nat_tests))).at_hand c wanted in
    let inside-schema : c < length schema = grind (arith, nat_tests) in
    let count = ap length kinds in
    let mapped = length-map held.column_indexes kind_of in
    omega (arith, inside-schema, count, mapped)

pub some-has : {A Q : Type 0} (found : Option A) (P : A → Type 0) → IsSomeAnd found P → ((a : A) → P a → Q) → Q
some-has None P there then = absurd there
some-has (Some a) P there then = then a there

module _ {K : Type 0} (number_of : K → ℕ) (s : LiveState K) (build : Build K) where
  -- the flags of a build that may be merged are the flags of its row group
  pub still-alive : IsMergeable number_of s build → build.job.alive ≡ in_group s.rows.size build.group s.rows.alive
  still-alive still = some-has (aggregate_at s.table build.aggregate) (HoldsStill number_of s build) still (λ a holds. holds.alive)

  module _ (spec : Spec) (registration : ℕ) (r : Bool) (number : build.number ≡ s.rows.number_objects.number) (made : build.registration ≡ registration) (same : build.job.spec ≡ spec)
      (alive : build.job.alive ≡ in_group s.rows.size build.group s.rows.alive) (below : (c : ℕ) → needs spec c ≡ true → c < length s.rows.column_indexes)
      (exact : IsTrue r ↔ AllNeeded (length s.rows.column_indexes) spec (λ c. HaveOneNumber number_of (copy_of s.rows c build.group) (ticket_for build.job.tickets c))) where
    under : (found : Option Registered) → Some spec ≡ option_map (λ (a : Registered). a.spec) found → Some registration ≡ option_map (λ (a : Registered). a.registration) found → is_pending_in found build.group ≡ true → IsTrue r ↔ IsSomeAnd found (HoldsStill number_of s build)
    under None is was left = absurd (none-some spec (sym is))
    under (Some a) is was left = (
      (λ yes. record {
        number = number;
        registered = record { registration = made ∙ same_Some registration a.registration was; spec = same ∙ same_Some spec a.spec is };
        pending = left;
        tickets = λ c wanted. (let needed : needs spec c ≡ true = ap (λ (p : Spec). needs p c) (sym same) ∙ wanted in exact.0 yes c (below c needed) needed);
        alive = alive;
      }),
      λ still. exact.1 (λ c within wanted. still.tickets c (ap (λ (p : Spec). needs p c) same ∙ wanted)),
    )

    -- the build may be merged exactly if its tickets are still current
    pub tickets-decide : Some spec ≡ option_map (λ (a : Registered). a.spec) (aggregate_at s.table build.aggregate) → Some registration ≡ option_map (λ (a : Registered). a.registration) (aggregate_at s.table build.aggregate) → is_pending_in (aggregate_at s.table build.aggregate) build.group ≡ true → IsTrue r ↔ IsMergeable number_of s build
    tickets-decide = under (aggregate_at s.table build.aggregate)

-- the contents of the tickets are those of the row group
pub still-copies : {K : Type 0} (content : K → List ℕ) (rows : Rows K) (build : Build K) (spec : Spec) → build.job.spec ≡ spec → build.job.alive ≡ in_group rows.size build.group rows.alive → ((c : ℕ) → needs spec c ≡ true → c < length rows.column_indexes)
    → AllNeeded (length rows.column_indexes) spec (λ c. IsSomeAnd (ticket_for build.job.tickets c) (IsCopy content rows build.group c)) → AreCopies content record { rows = rows; build = build }
still-copies content rows build spec same alive below copies = record {
  tickets = λ c wanted. (let needed : needs spec c ≡ true = ap (λ (p : Spec). needs p c) (sym same) ∙ wanted in copies c (below c needed) needed);
  alive = alive;
}
