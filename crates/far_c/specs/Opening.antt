-- The arguments that open a table, as C passes them.
use Rattle.std.specs.Prelude.{◌≡◌, ◌⊎◌, ℕ, ◌==◌, cond, List, Option, None, IsSome}
use Rattle.far_types.specs.declared.cell.Kind.{Kind}
use Rattle.far_types.specs.declared.cell.Kind.TheVariants as kind
use Rattle.far_types.specs.declared.limits.Limits.{Limits}
use Rattle.far_c.specs.declared.opening.FcLimits.{FcLimits}
use Rattle.far_c.specs.declared.unread.Unread.TheVariants as unread
use Rattle.far_c.specs.TableState.{TableState}
use Rattle.far_c.specs.Unreadable.{FirstFault, IsKind, KindFault}

-- the kind of a column
abbrev pub kind_of : ℕ → Kind
kind_of n = cond (n == 1) kind.Int kind.Text

-- the limits
abbrev pub limits_of : FcLimits → Limits
limits_of l = record {
  group = l.group;
  places = l.places;
  edits = l.edits;
  int_segments = l.int_segments;
  int_size = l.int_size;
  text_segments = l.text_segments;
  text_size = l.text_size;
}

-- no table is opened: the handle is already open, or the first unknown kind is refused
abbrev pub IsNotOpened : List ℕ → Option TableState → ℕ → Type 0
IsNotOpened kinds old code = ((code ≡ 101) × IsSome old)
    ⊎ ((code ≡ 103) × (old ≡ None) × FirstFault KindFault IsKind kinds unread.BadArgument)
