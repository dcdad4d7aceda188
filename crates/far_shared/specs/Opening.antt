-- The beginning of a shared table.
use Rattle.std.specs.Prelude.{◌≡◌, ℕ, List, []}
use Rattle.atomic_table.specs.Seated.{TableId}
use Rattle.far_rows.specs.Jobs.{AreAt}
use Rattle.far_frame.specs.State.{State}
use Rattle.far_sessions.specs.Histories.{Planned}
use Rattle.far_shared.specs.Stripes.{AreRowsOf, IsStripe}

-- the ids of the cells of the four stripes
pub record CellIds : Type 0 where
  pub zeroth : TableId
  pub first : TableId
  pub second : TableId
  pub third : TableId

-- the four cells have these names
abbrev pub HaveNames : CellIds → (ℕ → TableId) → Type 0
HaveNames ids names = (ids.zeroth ≡ names 0)
    × (ids.first ≡ names 1)
    × (ids.second ≡ names 2)
    × (ids.third ≡ names 3)

-- stripe n as it is opened: an empty table with its gauge. It has no tickets, so they are of any store
pub record IsEmpty {K : Type 0} (is_of : K → List ℕ → Type 0) (p : Planned) (n : ℕ)
    (s : State K) : Type 0 where
  pub stripe : IsStripe p [] s.table
  pub here : (id : List ℕ) → AreAt is_of id s.rows
  pub rows : AreRowsOf p.schema n s.rows
