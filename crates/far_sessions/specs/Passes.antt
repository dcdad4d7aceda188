-- The passes inside a `Keeper` and a `Giver`.
use Rattle.std.specs.Prelude.{◌≡◌, ℕ, List, [], Option, Some, None}
use Rattle.crossbeam_utils.specs.Seq.{cell_view}
use Rattle.crossbeam_utils.specs.declared.atomic.seq_cell.Doing.{Doing}
use Rattle.atomic_table.specs.Seated.{TableId}
use Rattle.far_sessions.specs.declared.kept.Kept.{Kept}
use Rattle.far_sessions.specs.Histories.{Planned, IsLegal, AllBelow}
use Rattle.far_sessions.specs.Sessions.{IsKeeper}
use Rattle.far_sessions.specs.declared.view.Entry.{Entry}
use Rattle.far_sessions.specs.declared.view.PassView.{PassView}

-- a pass that is in its place, or that was taken out
abbrev pub Holder : Type 0
Holder = Option (Kept (List ℕ) (Doing (List ℕ) PassView))

-- the history that the pass owns
abbrev pub history_in : Holder → List Entry
history_in None = []
history_in (Some k) = (cell_view k.pass).all

-- the pass owns a legal history of this cell, of which all sessions were created
abbrev pub IsHistory : TableId → Planned → TableId → PassView → Type 0
IsHistory id p table v = (table ≡ id)
    × IsKeeper v
    × (v.given ≡ p.sessions)
    × IsLegal p v.all
    × AllBelow p.sessions v.all

-- the pass is in its place and owns the history
abbrev pub IsHeld : TableId → Planned → Holder → Type 0
IsHeld id p None = ⊥
IsHeld id p (Some k) = IsHistory id p k.pass.table_id (cell_view k.pass)
