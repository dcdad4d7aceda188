-- A new table.
use Rattle.std.specs.Prelude.{ℕ, ◌+◌, List, [], ◌∷◌, Some, pos}
use Rattle.far_types.specs.declared.cell.Kind.{Kind}
use Rattle.far_types.specs.declared.cell.Kind.TheVariants as kind
use Rattle.far_types.specs.declared.limits.Limits.{Limits}
use Rattle.far_scopes.specs.declared.limits.ObjectLimits.{ObjectLimits}
use Rattle.far_scopes.specs.Opening.{no_objects}
use Rattle.far_texts.specs.Texts.{Texts}
use Rattle.far_columns.specs.NumbersTogether.{NumberColumns}
use Rattle.far_rows.specs.ColumnIndexes.{column_indexes_from}
use Rattle.far_rows.specs.Rows.{Rows}

-- the number columns among columns of these kinds, each empty; the first kind belongs to column n of the table
abbrev pub numbers_from : ℕ → ℕ → List Kind → NumberColumns
numbers_from size n [] = []
numbers_from size n (kind.Int ∷ kinds) =
    record { column = n; size = size; objects = []; len = 0; default_value = Some (pos 0) }
    ∷ numbers_from size (n + 1) kinds
numbers_from size n (kind.Text ∷ kinds) = numbers_from size (n + 1) kinds

-- the text columns among columns of these kinds, each empty; the first kind belongs to column n of the table
abbrev pub texts_from : ℕ → ℕ → ℕ → List Kind → List Texts
texts_from size limit n [] = []
texts_from size limit n (kind.Int ∷ kinds) = texts_from size limit (n + 1) kinds
texts_from size limit n (kind.Text ∷ kinds) =
    record { column = n; size = size; limit = limit; objects = []; len = 0 }
    ∷ texts_from size limit (n + 1) kinds

-- the limits of the objects of numbers: each may be written at most `edits` times, and evicted at most as often
abbrev pub number_limits : Limits → ObjectLimits
number_limits limits =
    record {
      segments = limits.int_segments;
      size = limits.int_size;
      max_writes = limits.edits;
      leavings = limits.edits;
    }

-- the limits of the objects of texts: each may be written at most `edits` times, and evicted at most as often
abbrev pub text_limits : Limits → ObjectLimits
text_limits limits =
    record {
      segments = limits.text_segments;
      size = limits.text_size;
      max_writes = limits.edits;
      leavings = limits.edits;
    }

-- an empty table with this schema and these limits
abbrev pub empty_rows : {K : Type 0} → List Kind → Limits → ℕ → Rows K
empty_rows schema limits number = record {
  column_indexes = column_indexes_from 0 0 schema;
  size = limits.group;
  numbers = numbers_from limits.group 0 schema;
  texts = texts_from limits.group limits.text_size 0 schema;
  number_objects = no_objects number (number_limits limits);
  text_objects = no_objects number (text_limits limits);
  alive = [];
}
