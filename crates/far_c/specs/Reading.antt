-- What C reads from a table.
use Rattle.std.specs.Prelude.{◌≡◌, ◌≢◌, ◌⊎◌, ℕ, ◌/◌, if◌then◌else◌, nat_lt, length, Option, None, Some, is_some, slice_get, unwrap_or, IsSomeAnd}
use Rattle.far_types.specs.declared.refusal.Refusal.{Refusal}
use Rattle.far_types.specs.declared.refusal.Refusal.TheVariants as refusal
use Rattle.far_types.specs.FirstOf.{first_of}
use Rattle.far_types.specs.Refusals.{number_of as refusal_number}
use Rattle.far_types.specs.Table.{Table}
use Rattle.far_host.specs.HostTickets.{TicketState}
use Rattle.far_rows.specs.Refusing.{absents}
use Rattle.far_frame.specs.State.{State}
use Rattle.far_frame.specs.declared.object.ObjectState.{ObjectState}
use Rattle.far_frame.specs.declared.space.Space.{Space}
use Rattle.far_c.specs.declared.readers.FcDetails.{FcDetails}
use Rattle.far_c.specs.declared.readers.FcObject.{FcObject}
use Rattle.far_c.specs.declared.readers.FcSpace.{FcSpace}

-- the state of an object, as C receives it
pub record IsObjectOf (state : ObjectState) (object : FcObject) : Type 0 where
  pub local : object.local ≡ state.local
  pub dirty : object.dirty ≡ state.dirty
  pub hot : object.hot ≡ state.hot
  pub pins : object.pins ≡ state.pins
  pub version : object.version ≡ state.version
  pub has_copy : object.has_copy ≡ is_some state.copy
  pub copy : object.copy ≡ unwrap_or state.copy 0

-- the space of a region, as C receives it
pub record IsSpaceOf (region : Space) (space : FcSpace) : Type 0 where
  pub used : space.used ≡ region.used
  pub free : space.free ≡ region.free
  pub segments : space.segments ≡ region.segments
  pub size : space.size ≡ region.size

-- the values that a refusal carries
abbrev pub CarriesOf : Refusal → FcDetails → Type 0
CarriesOf (refusal.Building left) details = details.pending ≡ left
CarriesOf (refusal.Absent column group) details = (details.column ≡ column)
    × (details.group ≡ group)
CarriesOf _ details = Unit {0}

-- the last refusal, if there was one
abbrev pub AreDetailsOf : Option Refusal → FcDetails → Type 0
AreDetailsOf None details = details.code ≡ 0
AreDetailsOf (Some why) details = (details.code ≡ refusal_number why) × CarriesOf why details

-- why the row of a place is not lent: there is no such place, or an object of its row group is away
abbrev pub row_refusal : State TicketState → ℕ → Option Refusal
row_refusal s place = if nat_lt place (length s.table.places)
    then first_of (absents s.rows (place / s.table.limits.group))
    else Some refusal.NoRow

-- a row of `len` cells is not written: the table has another number of columns, or the row has
-- another number of cells
abbrev pub IsNoRowOf : Table → ℕ → ℕ → ℕ → Type 0
IsNoRowOf table place len code = ((code ≡ 103) × (len ≢ length table.schema))
    ⊎ ((code ≡ 104) × IsSomeAnd (slice_get table.places place) (λ found. length found.cells ≢ len))
