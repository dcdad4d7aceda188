-- The effect of an edit on a stripe and on the session that makes it, and why it is refused.
use Rattle.std.specs.Prelude.{◌≡◌, ◌⊎◌, ℕ, ◌/◌, ◌<◌, Bool, true, false, List, [], ◌∷◌, ◌++◌, length, slice_get, None, Some}
use mathlib.Core.List.{IsPrefix}
use Rattle.far_types.specs.Bounds.{is_text}
use Rattle.far_types.specs.declared.cell.Kind.{Kind}
use Rattle.far_types.specs.declared.edit.Edit.{Edit}
use Rattle.far_types.specs.declared.edit.Edit.TheVariants as edit
use Rattle.far_types.specs.declared.refusal.Refusal.{Refusal}
use Rattle.far_types.specs.declared.refusal.Refusal.TheVariants as refusal
use Rattle.far_types.specs.Edits.{edit_faults, edit_refusal, overfills}
use Rattle.far_types.specs.FirstOf.{first_of}
use Rattle.far_types.specs.Table.{Place, Table}
use Rattle.far_sessions.specs.Histories.{Planned, IsLegal, by_session, replay}
use Rattle.far_sessions.specs.Rule.{entry}
use Rattle.far_sessions.specs.Sessions.{SessionState}
use Rattle.far_sessions.specs.declared.view.Entry.{Entry}
use Rattle.far_sessions.specs.Known.{SeesMore}
use Rattle.far_shared.specs.declared.stripe.Applied.{Applied}

-- the place of the row that an edit appends, or the place that it names
abbrev pub place_in : List Place → Edit → ℕ
place_in places (edit.Insert row) = length places
place_in places (edit.Set p c cell) = p
place_in places (edit.Remove p) = p

-- the place of the row that an edit of this table appends, or the place that it names
abbrev pub place_of : Table → Edit → ℕ
place_of table e = place_in table.places e

-- whether an edit needs space: an insert does for its cells, a set for a text. A number is overwritten in place, and a removal needs no space
abbrev pub places_cells : List Kind → Edit → Bool
places_cells schema (edit.Insert row) = true
places_cells schema (edit.Set p c cell) = is_text (slice_get schema c)
places_cells schema (edit.Remove p) = false

-- a refusal that the plain table does not have, because none of its objects is ever away and its space is unlimited: an object of a
-- column of the schema is away, in the row group that the edit writes; or there is no space for what the edit places, although
-- no text object would be too long
abbrev pub IsOfObjects : (columns group : ℕ) (places_some is_too_long : Bool) → Refusal → Type 0
IsOfObjects columns group places_some is_too_long (refusal.Absent c g) = (c < columns) × (g ≡ group)
IsOfObjects columns group places_some is_too_long refusal.RegionFull =
    (places_some ≡ true) × (is_too_long ≡ false)
IsOfObjects columns group places_some is_too_long _ = ⊥

-- why an edit of a table over objects is refused: the plain table refuses it for that reason; or it has no fault of its own, and its
-- objects prevent it; or the plain table accepts it, and memory ran out
abbrev pub WhyNot : Table → Edit → Refusal → Type 0
WhyNot table e given = (edit_refusal table e ≡ Some given)
    ⊎ (((first_of (edit_faults table.schema table.limits table.places e) ≡ None)
    × IsOfObjects (length table.schema) (place_of table e / table.limits.group)
    (places_cells table.schema e) (overfills table.schema table.limits e table.places)
    given)
    ⊎ ((edit_refusal table e ≡ None) × (given ≡ refusal.NoMemory)))

-- a session that has made or tried an edit knows the stripe's whole history
pub record SeesAll (p : Planned) (before : SessionState) (log : List Entry) (after : SessionState)
    (now : List Entry) : Type 0 where
  -- what it had seen before is the beginning of the history that the edit found
  pub prefix : IsPrefix before.seen log
  -- it is still the same session
  pub by : after.by ≡ before.by
  -- what it knows as its own are its entries in the history
  pub own : by_session after.by after.seen ≡ after.mine
  -- the history is legal
  pub legal : IsLegal p after.seen
  -- it has seen the whole history after the edit
  pub whole : after.seen ≡ now

module _ (p : Planned) (before : SessionState) (e : Edit) (after : SessionState) where
  -- the edit was accepted. The session has then seen a legal history that begins with all that it had seen before, and ends with
  -- this edit at the returned number. The edit is one more of the session's own
  pub record Extends (applied : Applied) : Type 0 where
    pub log : List Entry
    pub more : IsPrefix before.seen log
    pub seen : after.seen ≡ log ++ entry before.by e ∷ []
    pub mine : after.mine ≡ before.mine ++ entry before.by e ∷ []
    pub by : after.by ≡ before.by
    pub own : by_session after.by after.seen ≡ after.mine
    pub legal : IsLegal p after.seen
    pub number : applied.number ≡ length after.seen
    pub place : applied.place ≡ place_of (replay p log) e

  -- the edit was refused, as over the replay of the history that the session has then seen. The session's own edits are unchanged
  pub record IsRefused (given : Refusal) : Type 0 where
    pub sees : SeesMore p before after
    pub why : WhyNot (replay p after.seen) e given
