-- When calls on objects are refused.
use Rattle.std.specs.Prelude.{◌≡◌, ◌⊎◌, true, ℕ, ◌==◌, nat_lt, not, if◌then◌else◌, Bool, List, [], ◌∷◌, map, Option, None, Some, Result}
use Rattle.std.specs.List.{list_any}
use Rattle.std.specs.declared.result.Result.TheVariants.{Ok, Err}
use Rattle.std.specs.Option.{option_map_or, option_or}
use Rattle.far_types.specs.declared.refusal.Refusal.{Refusal}
use Rattle.far_types.specs.declared.refusal.Refusal.TheVariants as refusal
use Rattle.far_types.specs.FirstOf.{first_of}
use Rattle.far_log.specs.RegionState.{fits_in}
use Rattle.far_scopes.specs.declared.replacement.Replacement.{Replacement}
use Rattle.far_scopes.specs.Movement.{Movement, record_of, is_local, version_of, pins_of}
use Rattle.far_scopes.specs.Replacing.{no_space_for_all, first_fits}

-- the refusal that a call returned, if there is one
abbrev pub refusal_in : {A : Type 0} → Result A Refusal → Option Refusal
refusal_in (Ok x) = None
refusal_in (Err refusal) = Some refusal

module _ {X K : Type 0} (m : Movement X K) (o : ℕ) where
  -- whether the object is away, and the refusal with its name
  abbrev pub absent : Bool × Refusal
  absent = (
    not (is_local m o),
    option_map_or (λ e. refusal.Absent e.name.column e.name.group) (record_of m o)
        refusal.StaleJob,
  )

  -- whether the object was written as often as the limits allow, and the refusal
  abbrev pub written_out : Bool × Refusal
  written_out = (not (nat_lt (version_of m o) m.max_writes), refusal.EditsUsedUp)

  -- whether the object has 65,535 pins, and the refusal
  abbrev pub pins_used_up : Bool × Refusal
  pins_used_up = (pins_of m o == 65535, refusal.EditsUsedUp)

  -- the refusal of a borrow of an object's list (`lend`), if there is one
  abbrev pub lend_refusal : Option Refusal
  lend_refusal = first_of (absent ∷ [])

  -- the refusal of a write to an object's list (`may_write`), if there is one
  abbrev pub write_refusal : Option Refusal
  write_refusal = first_of (absent ∷ written_out ∷ [])

  -- the refusal to pin an object (`pin`), if there is one
  abbrev pub pin_refusal : Option Refusal
  pin_refusal = first_of (absent ∷ pins_used_up ∷ [])

  -- the refusal to unpin an object (`unpin`), if there is one
  abbrev pub unpin_refusal : Option Refusal
  unpin_refusal = first_of ((pins_of m o == 0, refusal.NotPinned) ∷ [])

  -- whether no segment has the space for a list of n elements, and the refusal
  abbrev pub no_space : ℕ → Bool × Refusal
  no_space n = (not (fits_in m.memory.state n), refusal.RegionFull)

  -- the refusal to replace an object's list by one of n elements (`replace`), if there is one, apart from `NoMemory`
  abbrev pub replace_refusal : ℕ → Option Refusal
  replace_refusal n = first_of (absent ∷ no_space n ∷ written_out ∷ [])

module _ {X K : Type 0} where
  -- the refusal that names the first listed object that is away, if there is one
  abbrev pub first_absent : Movement X K → List ℕ → Option Refusal
  first_absent m [] = None
  first_absent m (o ∷ objects) = if is_local m o then first_absent m objects else Some
      (absent m o).1

  -- whether some listed object was written as often as the limits allow, and the refusal
  abbrev pub any_written_out : Movement X K → List (Replacement X) → Bool × Refusal
  any_written_out m lists = (list_any (λ r. (written_out m r.object).0) lists, refusal.EditsUsedUp)

  -- the refusal to replace the lists of several objects (`replace_all`), if there is one, apart from `NoMemory`
  abbrev pub replace_all_refusal : Movement X K → List (Replacement X) → Option Refusal
  replace_all_refusal m lists =
      option_or (first_absent m (map (λ r. r.object) lists))
      (first_of (no_space_for_all m.memory.state lists ∷ any_written_out m lists ∷ []))

  -- why the lists of several objects are not replaced (`replace_all`)
  pub record IsReplaceAllRefused (m : Movement X K) (lists : List (Replacement X))
      (why : Refusal) : Type 0 where
    -- the refusal of the objects and of the space; or else memory ran out, and no listed object is away
    pub reason : (replace_all_refusal m lists ≡ Some why)
        ⊎ ((first_absent m (map (λ r. r.object) lists) ≡ None) × (why ≡ refusal.NoMemory))
    -- memory can only run out if the first new list fits
    pub memory : why ≡ refusal.NoMemory → first_fits m.memory.state lists ≡ true
