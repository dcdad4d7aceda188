-- Pins: which steps change an object's pins, and that a pinned object is local.
use Rattle.std.specs.Prelude.{◌≡◌, ◌≢◌, Bool, true, false}
use Rattle.far_scopes.specs.Movement.{is_local}
use Rattle.far_rows.specs.declared.object.Object.{Object}
use Rattle.far_rows.specs.declared.object.Object.TheVariants as object
use Rattle.far_rows.specs.Rows.{Rows}
use Rattle.far_rows.specs.Coldest.{pins_at}
use Rattle.far_frame.specs.declared.step.Step.{Step}
use Rattle.far_frame.specs.declared.step.Step.TheVariants as step

-- whether the step pins or unpins
abbrev pub is_pinning : Step → Bool
is_pinning (step.Pin column group) = true
is_pinning (step.Unpin column group) = true
is_pinning _ = false

module _ {K : Type 0} (r : Rows K) where
  -- whether an object is local
  abbrev pub is_here : Object → Bool
  is_here (object.Number o) = is_local r.number_objects o
  is_here (object.Text o) = is_local r.text_objects o

  -- each object with a pin is local
  abbrev pub ArePinnedHere : Type 0
  ArePinnedHere = (o : Object) → pins_at r o ≢ 0 → is_here o ≡ true
