-- The rule of a history's cell, and the effects of its steps.
use Rattle.std.specs.Prelude.{◌≡◌, ℕ, ◌<◌, true, List, [], ◌∷◌, ◌++◌}
use mathlib.Core.Option.{some}
use mathlib.Core.List.{IsPrefix}
use lib.ListN.{get_elem?}
use Rattle.far_types.specs.declared.edit.Edit.{Edit}
use Rattle.far_sessions.specs.Histories.{Planned, IsLegal, AllBelow, by_session, gauge_of}
use Rattle.far_sessions.specs.Readings.{reading_in}
use Rattle.far_sessions.specs.declared.view.Entry.{Entry}
use Rattle.far_sessions.specs.declared.view.PassView.{PassView}

-- an edit with its session's number
abbrev pub entry : ℕ → Edit → Entry
entry by edit = record { by = by; edit = edit }

-- the words encode the reading after this history
abbrev pub IsReadingAfter : Planned → List ℕ → List Entry → Type 0
IsReadingAfter p words log = reading_in words ≡ gauge_of p log

-- the rule for one pass: `keeper_at` is the pass that owns the history, and `owner` maps each session to its pass
pub record FitsPass (keeper_at : ℕ) (owner : ℕ → ℕ) (given : ℕ) (log : List Entry) (at : ℕ)
    (v : PassView) : Type 0 where
  pub keeps : v.keeps ≡ true → (at ≡ keeper_at) × (v.all ≡ log) × (v.given ≡ given)
  pub has_session : v.has_session ≡ true
      → (at ≡ owner v.by) × (v.by < given) × IsPrefix v.seen log × (by_session v.by log ≡ v.mine)

-- there is one legal history, and the words encode the reading after it. One pass owns it. Each session has seen a prefix of it, and knows
-- which entries are its own
pub record HoldsHistory (p : Planned) (words : List ℕ) (views : List PassView) : Type 0 where
  pub keeper_at : ℕ
  pub owner : ℕ → ℕ
  pub given : ℕ
  pub log : List Entry
  pub reads : IsReadingAfter p words log
  pub legal : IsLegal p log
  pub below : AllBelow given log
  pub each : (at : ℕ) (v : PassView) → get_elem? views at ≡ some v
      → FitsPass keeper_at owner given log at v

-- a read: afterwards the session has seen the whole history so far, and the words read are its reading
abbrev pub Looks : Planned → PassView → List ℕ → List ℕ → PassView → Type 0
Looks p v before after w =
    (w ≡ record v { seen = w.seen }) × IsPrefix v.seen w.seen × (v.keeps ≡ true → w.seen ≡ v.all)
    × IsLegal p w.seen
    × IsReadingAfter p before w.seen
    × (by_session v.by w.seen ≡ v.mine)
    × (v.keeps ≡ true → AllBelow v.given w.seen)

-- a pass that owns the history and has a session, after that session added an edit
abbrev pub with_edit : PassView → Edit → PassView
with_edit v e = record {
  keeps = v.keeps;
  all = v.all ++ entry v.by e ∷ [];
  given = v.given;
  has_session = v.has_session;
  by = v.by;
  seen = v.all ++ entry v.by e ∷ [];
  mine = v.mine ++ entry v.by e ∷ [];
}

-- an edit was added to the history
abbrev pub Adds : Edit → PassView → List ℕ → List ℕ → PassView → Type 0
Adds e v before after w = w ≡ with_edit v e
