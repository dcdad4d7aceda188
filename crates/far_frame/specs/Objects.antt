-- The state of an object, and the space of each kind's local region.
use Rattle.std.specs.Prelude.{ℕ, ◌-◌, option_map}
use Rattle.far_types.specs.declared.cell.Kind.{Kind}
use Rattle.far_types.specs.declared.cell.Kind.TheVariants as kind
use Rattle.far_log.specs.RegionState.{RegionState, space_of, capacity_of}
use Rattle.far_scopes.specs.Movement.{Movement, dirty, hot, is_local, pins_of, ticket_of, version_of}
use Rattle.far_rows.specs.declared.object.Object.{Object}
use Rattle.far_rows.specs.declared.object.Object.TheVariants as object
use Rattle.far_rows.specs.Rows.{Rows}
use Rattle.far_frame.specs.declared.object.ObjectState.{ObjectState}
use Rattle.far_frame.specs.declared.space.Space.{Space}
use Rattle.far_frame.specs.State.{State}

module _ {K : Type 0} (number_of : K → ℕ) where
  -- the state of an object of one kind
  abbrev pub state_in : {X : Type 0} → Movement X K → ℕ → ObjectState
  state_in m o = record {
    local = is_local m o;
    dirty = dirty m o;
    hot = hot m o;
    pins = pins_of m o;
    version = version_of m o;
    copy = option_map number_of (ticket_of m o);
  }

  -- the state of an object of either kind
  abbrev pub state_of : Rows K → Object → ObjectState
  state_of r (object.Number o) = state_in r.number_objects o
  state_of r (object.Text o) = state_in r.text_objects o

-- the space of a region, and the number and the size of its segments
abbrev pub space_with : {X : Type 0} → RegionState X → ℕ → ℕ → Space
space_with region segments size = record {
  used = capacity_of region - space_of region;
  free = space_of region;
  segments = segments;
  size = size;
}

-- the space of the local region for objects of one kind
abbrev pub space_at : {K : Type 0} → State K → Kind → Space
space_at s kind.Int = space_with s.rows.number_objects.memory.state s.table.limits.int_segments
    s.table.limits.int_size
space_at s kind.Text = space_with s.rows.text_objects.memory.state s.table.limits.text_segments
    s.table.limits.text_size
