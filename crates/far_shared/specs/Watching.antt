-- Registering an aggregate in four stripes, and why it is refused.
use Rattle.std.specs.Prelude.{◌≡◌, ◌⊎◌, ℕ, ◌+◌, ◌≤◌, List, None, Some}
use Rattle.far_types.specs.declared.cell.Kind.{Kind}
use Rattle.far_types.specs.declared.refusal.Refusal.{Refusal}
use Rattle.far_types.specs.declared.refusal.Refusal.TheVariants as refusal
use Rattle.far_types.specs.declared.spec.Spec.{Spec}
use Rattle.far_types.specs.Bounds.{spec_refusal}
use Rattle.far_table.specs.Watching.{after_register_at, with_aggregate}
use Rattle.far_shared.specs.Stripes.{StripeState}

-- why an aggregate is not registered: it is not valid for the schema, there are too many, it would not have the same number in all
-- four stripes, or memory ran out
abbrev pub WatchRefusal : List Kind → Spec → Refusal → Type 0
WatchRefusal schema spec given = (spec_refusal schema spec ≡ Some given)
    ⊎ ((spec_refusal schema spec ≡ None)
    × ((given ≡ refusal.TooManyAggregates) ⊎ (given ≡ refusal.NoMemory)))

module _ {K : Type 0} where
  -- a stripe after an aggregate is registered in its table, under a number
  abbrev pub after_register : ℕ → Spec → StripeState K → StripeState K
  after_register a spec h = record h
      { state = record h.state { table = after_register_at a spec h.state.table } }

  -- a stripe after the aggregate with a number is removed from its table
  abbrev pub after_unregister : ℕ → StripeState K → StripeState K
  after_unregister a h = record h
      { state = record h.state { table = with_aggregate a None h.state.table } }

  -- a stripe without the count of registrations: its history, rows, objects, pins and aggregates
  abbrev pub uncounted : StripeState K → StripeState K
  uncounted h = record h
      { state = record h.state { table = record h.state.table { registrations = 0 } } }

  -- a stripe is as before, except that it may count one more registration, which was made and undone
  pub record IsAsBefore (old new : StripeState K) : Type 0 where
    pub same : uncounted new ≡ uncounted old
    pub counted : old.state.table.registrations ≤ new.state.table.registrations
    pub once : new.state.table.registrations ≤ old.state.table.registrations + 1
