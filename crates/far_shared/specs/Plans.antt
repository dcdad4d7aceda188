-- The plans for which a shared table may be opened.
use Rattle.std.specs.Prelude.{◌≡◌, ℕ, Bool, cond, ◌&&◌, ◌||◌, ◌==◌, nat_lt, is_none, List, [], ◌∷◌, Option, None, Some}
use Rattle.far_types.specs.declared.cell.Kind.{Kind}
use Rattle.far_types.specs.declared.spec.Spec.{Spec}
use Rattle.far_types.specs.declared.refusal.Refusal.{Refusal}
use Rattle.far_types.specs.declared.refusal.Refusal.TheVariants as refusal
use Rattle.far_types.specs.Bounds.{AreLimits, spec_refusal}
use Rattle.far_types.specs.FirstOf.{first_of}
use Rattle.far_aggregates.specs.Readings.{is_totals}
use Rattle.far_sessions.specs.Histories.{Planned}

-- an aggregate of totals without a key column has one count and one sum
abbrev pub is_plain : Spec → Bool
is_plain spec = is_totals spec.fold && is_none spec.key

-- why an aggregate cannot be the gauge of tables with this schema
abbrev pub gauge_refusal : List Kind → Spec → Option Refusal
gauge_refusal schema gauge = cond (is_plain gauge) (spec_refusal schema gauge)
    (Some refusal.BadSpec)

-- the first of two that refuses
abbrev pub or_else : Option Refusal → Option Refusal → Option Refusal
or_else None other = other
or_else (Some due) other = Some due

-- why there is no such plan, except for its limits
abbrev pub plan_refusal : List Kind → Spec → ℕ → Option Refusal
plan_refusal schema gauge sessions = or_else (gauge_refusal schema gauge)
    (first_of ((sessions == 0 || nat_lt 64 sessions, refusal.OutOfRange) ∷ []))

-- the plan is valid
pub record IsPlan (p : Planned) : Type 0 where
  pub limits : AreLimits p.limits
  pub allowed : plan_refusal p.schema p.gauge p.sessions ≡ None
