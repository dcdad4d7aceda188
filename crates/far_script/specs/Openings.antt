-- The first line of a script.
use Rattle.std.specs.Prelude.{ℕ, ◌≤◌, ⊤, nat_le, ◌&&◌, List, [], ◌∷◌, Option, None, Some, option_map, option_and_then, is_none, codes, if◌then◌else◌}
use Rattle.std.specs.List.{slice_split}
use Rattle.far_types.specs.declared.cell.Kind.{Kind}
use Rattle.far_types.specs.declared.cell.Kind.TheVariants as kind
use Rattle.far_types.specs.declared.limits.Limits.{Limits}
use Rattle.far_types.specs.Bounds.{usual_limits}
use Rattle.far_script.specs.declared.opening.FirstLine.{FirstLine}
use Rattle.far_script.specs.declared.opening.FirstLine.TheVariants as line
use Rattle.far_script.specs.OneRecord.{is_comma}
use Rattle.far_script.specs.Words.{word_of, rest_of, word_in, after, number_in, long_number_in, last_number_in, reads}

-- the kind that a word names
abbrev pub kind_named : List ℕ → Option Kind
kind_named word =
    if reads word (codes "int") then Some kind.Int
    else if reads word (codes "text") then Some kind.Text
    else None

-- the kinds that these words name, if each names one
abbrev pub kinds_named : List (List ℕ) → Option (List Kind)
kinds_named [] = Some []
kinds_named (name ∷ names) = option_and_then
    (λ kind. option_map (λ kinds. kind ∷ kinds) (kinds_named names)) (kind_named name)

-- the kinds that a word names, separated by commas
abbrev pub kinds_of : List ℕ → Option (List Kind)
kinds_of word = kinds_named (slice_split is_comma word)

-- the limits spelled by PLACES EDITS INT_SEGMENTS INT_SIZE TEXT_SEGMENTS TEXT_SIZE, for row groups of this size
abbrev pub given_limits : ℕ → Option (List ℕ) → Option Limits
given_limits g left =
    option_and_then (λ p. option_and_then (λ e. option_and_then (λ s.
    option_and_then (λ i. option_and_then (λ t.
    option_map
    (λ z. record {
      group = g;
      places = p;
      edits = e;
      int_segments = s;
      int_size = i;
      text_segments = t;
      text_size = z;
    })
    (last_number_in (after (after (after (after (after left)))))))
    (number_in (after (after (after (after left))))))
    (number_in (after (after (after left)))))
    (number_in (after (after left))))
    (long_number_in (after left)))
    (number_in left)

-- the limits that the rest of a line spells for row groups of this size: the default ones if there is no rest
abbrev pub limits_of : ℕ → Option (List ℕ) → Option Limits
limits_of g left = if is_none left then Some (usual_limits g) else given_limits g left

-- the columns and the limits of a table
abbrev pub Opened : Type 0
Opened = List Kind × Limits

-- GROUP KINDS, and the limits if they are given
abbrev pub opening_in : Option (List ℕ) → Option Opened
opening_in left =
    option_and_then (λ group. option_and_then (λ kinds.
    option_map (λ limits. (kinds, limits)) (limits_of group (after (after left))))
    (option_and_then kinds_of (word_in (after left)))) (number_in left)

-- the first line of a script: it opens a table, or it starts this many sessions with this many edits each
pub data Start : Type 0 where
  Schema : Opened → Start
  Threads : ℕ → ℕ → Start

-- the meaning of a first line as the program has read it
abbrev pub start_of : FirstLine → Start
start_of (line.Schema opening) = Schema (opening.kinds.items, opening.limits)
start_of (line.Threads sessions edits) = Threads sessions edits

-- 1 to 4 sessions, with 1 to 1,000 edits each
abbrev pub IsAllowedStart : Start → Type 0
IsAllowedStart (Schema opened) = ⊤
IsAllowedStart (Threads sessions edits) = (1 ≤ sessions)
    × (sessions ≤ 4)
    × (1 ≤ edits)
    × (edits ≤ 1000)

-- the number, if it is from `least` to `most`
abbrev pub between : ℕ → ℕ → Option ℕ → Option ℕ
between least most None = None
between least most (Some n) = if nat_le least n && nat_le n most then Some n else None

-- SESSIONS EDITS
abbrev pub threads_in : Option (List ℕ) → Option Start
threads_in left = option_and_then
    (λ sessions. option_map (λ edits. Threads sessions edits)
    (between 1 1000 (last_number_in (after left)))) (between 1 4 (number_in left))

-- the first line that a text spells, if it spells one
abbrev pub start_in : List ℕ → Option Start
start_in text =
    if reads (word_of text) (codes "schema") then option_map Schema (opening_in (rest_of text))
    else if reads (word_of text) (codes "threads") then threads_in (rest_of text)
    else None
