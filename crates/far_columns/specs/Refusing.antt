-- When calls on vectors are refused.
use Rattle.std.specs.Prelude.{◌≡◌, ℕ, ◌-◌, ◌/◌, ◌==◌, ◌&&◌, ◌||◌, nat_lt, not, if◌then◌else◌, Bool, List, [], ◌∷◌, length, Option, None, take, drop}
use Rattle.std.specs.Option.{option_or}
use Rattle.far_types.specs.declared.refusal.Refusal.{Refusal}
use Rattle.far_types.specs.declared.refusal.Refusal.TheVariants as refusal
use Rattle.far_types.specs.FirstOf.{first_of}
use Rattle.far_scopes.specs.Movement.{Movement, list_of}
use Rattle.far_scopes.specs.Refusing.{absent, written_out, no_space, write_refusal, first_absent}
use Rattle.far_columns.specs.Vector.{Vector, object_at, IsVector}
use Rattle.far_columns.specs.Effects.{is_full}
use Rattle.far_columns.specs.Pieces.{first_overlapped, overlapped_count}

-- whether the range is empty
abbrev pub is_empty : ℕ → ℕ → Bool
is_empty from to = not (nat_lt from to)

-- this case, unless the range is empty
abbrev pub unless_empty : ℕ → ℕ → Bool × Refusal → Bool × Refusal
unless_empty from to case = (not (is_empty from to) && case.0, case.1)

module _ {X : Type 0} (v : Vector X) where
  -- the place is past the end
  abbrev pub past_end : ℕ → Bool × Refusal
  past_end i = (not (nat_lt i v.len), refusal.OutOfRange)

  -- the range ends before it begins, or past the end of the vector
  abbrev pub no_range : ℕ → ℕ → Bool × Refusal
  no_range from to = (nat_lt to from || nat_lt v.len to, refusal.OutOfRange)

  -- the range is not empty and crosses row groups
  abbrev pub crosses : ℕ → ℕ → Bool × Refusal
  crosses from to =
      unless_empty from to (not (from / v.size == (to - 1) / v.size), refusal.OutOfRange)

module _ {X K : Type 0} (m : Movement X K) (v : Vector X) where
  -- why reading an element is refused (`get`)
  abbrev pub get_refusal : ℕ → Option Refusal
  get_refusal i = first_of (past_end v i ∷ absent m (object_at v i) ∷ [])

  -- why setting an element is refused (`set`)
  abbrev pub set_refusal : ℕ → Option Refusal
  set_refusal i =
      first_of (past_end v i ∷ absent m (object_at v i) ∷ written_out m (object_at v i) ∷ [])

  -- why borrowing a part is refused (`part`)
  abbrev pub part_refusal : ℕ → ℕ → Option Refusal
  part_refusal from to =
      first_of (no_range v from to ∷ crosses v from to
      ∷ unless_empty from to (absent m (object_at v from)) ∷ [])

  -- why writing a part is refused (`part_mut`)
  abbrev pub write_part_refusal : ℕ → ℕ → Option Refusal
  write_part_refusal from to =
      first_of (no_range v from to ∷ crosses v from to
      ∷ unless_empty from to (absent m (object_at v from))
      ∷ unless_empty from to (written_out m (object_at v from)) ∷ [])

  -- why borrowing a range, row group by row group, is refused (`pieces`); it names the first object that is away
  abbrev pub pieces_refusal : ℕ → ℕ → Option Refusal
  pieces_refusal from to =
      option_or (first_of (no_range v from to ∷ []))
      (first_absent m (take (overlapped_count v.size from to)
      (drop (first_overlapped v.size from) v.objects)))

  -- why a push is refused: a new row group needs space, a begun one needs an object that may be written
  abbrev pub push_refusal : Option Refusal
  push_refusal =
      if is_full v then first_of (no_space m (length m.records) v.size ∷ [])
      else write_refusal m (object_at v v.len)

-- the elements `from` up to `to` exist, and their objects are local
pub record IsLendable {X K : Type 0} (meaning : List ℕ → List X) (content : K → List ℕ)
    (m : Movement X K) (v : Vector X) (from to : ℕ) : Type 0 where
  pub is : IsVector (list_of meaning content m) v
  pub free : pieces_refusal m v from to ≡ None
