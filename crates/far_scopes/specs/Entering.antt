-- Objects that are pinned together.
use Rattle.std.specs.Prelude.{ℕ, ◌+◌, ◌==◌, if◌then◌else◌, List, [], ◌∷◌, Option, None, Some}
use Rattle.std.specs.Option.{option_or}
use Rattle.far_types.specs.declared.refusal.Refusal.{Refusal}
use Rattle.far_types.specs.declared.refusal.Refusal.TheVariants as refusal
use Rattle.far_scopes.specs.Movement.{Movement, pins_of}
use Rattle.far_scopes.specs.Refusing.{first_absent}
use Rattle.far_scopes.specs.Effects.{after_pin, after_unpin}

module _ {X K : Type 0} where
  -- each object has one more pin for each time that it is listed
  abbrev pub after_pin_all : Movement X K → List ℕ → Movement X K
  after_pin_all m [] = m
  after_pin_all m (o ∷ objects) = after_pin_all (after_pin m o) objects

  -- the refusal if some listed object already has 65,535 pins when it is pinned
  abbrev pub pins_overflow : Movement X K → List ℕ → Option Refusal
  pins_overflow m [] = None
  pins_overflow m (o ∷ objects) = if pins_of m o == 65535 then Some refusal.EditsUsedUp else
      pins_overflow (after_pin m o) objects

  -- the refusal of `enter` for these objects, if there is one, apart from `NoMemory`
  abbrev pub enter_refusal : Movement X K → List ℕ → Option Refusal
  enter_refusal m objects = option_or (first_absent m objects) (pins_overflow m objects)

  -- the objects after a scope's pins are removed, one for each listing if the object has a pin, and the number of pins removed
  abbrev pub after_close : Movement X K → List ℕ → Movement X K × ℕ
  after_close m [] = (m, 0)
  after_close m (o ∷ objects) =
      if pins_of m o == 0 then after_close m objects
      else (let rest : Movement X K × ℕ = after_close (after_unpin m o) objects in
      (rest.0, rest.1 + 1))
