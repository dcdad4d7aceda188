-- The names of a table's objects: the column and the row group of each.
use Rattle.std.specs.Prelude.{◌≡◌, ℕ, List, map, Option, Some, slice_get}
use Rattle.far_types.specs.declared.name.Name.{Name}
use Rattle.far_scopes.specs.Movement.{Movement}
use Rattle.far_rows.specs.declared.column_index.ColumnIndex.{ColumnIndex}
use Rattle.far_rows.specs.declared.column_index.ColumnIndex.TheVariants as column_index

-- the name of each object
abbrev pub names_of : {X K : Type 0} → Movement X K → List Name
names_of m = map (λ object_record. object_record.name) m.records

-- the name of each object of a column has the column's number and the number of the object's row group
abbrev pub AreNamed : List Name → ℕ → List ℕ → Type 0
AreNamed names column objects =
    (g o : ℕ) → slice_get objects g ≡ Some o
    → slice_get names o ≡ Some record { column = column; group = g }

-- each object belongs to the column and the row group in its name, among columns with these numbers and objects
abbrev pub AreOwned : {C : Type 0} → (C → ℕ) → (C → List ℕ) → List Name → List C
    → Type 0
AreOwned {C} column_of objects_of names columns =
    (o : ℕ) (name : Name) → slice_get names o ≡ Some name
    → (i : ℕ) × (c : C) × (slice_get columns i ≡ Some c) × (column_of c ≡ name.column)
    × (slice_get (objects_of c) name.group ≡ Some o)

-- the number of the column with this index, if the number columns and the text columns have these numbers
abbrev pub number_by : List ℕ → List ℕ → ColumnIndex → Option ℕ
number_by numbers texts (column_index.Number i) = slice_get numbers i
number_by numbers texts (column_index.Text i) = slice_get texts i

-- each column's number is its position among the indexes
abbrev pub AreNumbered : List ColumnIndex → List ℕ → List ℕ → Type 0
AreNumbered column_indexes numbers texts =
    (k : ℕ) (s : ColumnIndex) → slice_get column_indexes k ≡ Some s
    → number_by numbers texts s ≡ Some k

-- each column of one kind has its index at its number
abbrev pub ArePlaced : List ColumnIndex → (ℕ → ColumnIndex) → List ℕ → Type 0
ArePlaced column_indexes column_index_of numbers =
    (i k : ℕ) → slice_get numbers i ≡ Some k
    → slice_get column_indexes k ≡ Some (column_index_of i)
