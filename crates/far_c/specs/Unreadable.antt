-- Why arguments of C cannot be read.
use Rattle.std.specs.Prelude.{◌≡◌, ℕ, ◌≤◌, ◌<◌, ◌⊎◌, ⊤, List, IsUtf8, IsSomeAnd, slice_get, take}
use Rattle.std.specs.List.{All}
use Rattle.far_c.specs.declared.cell.FcCell.{FcCell}
use Rattle.far_c.specs.declared.spec.FcSpec.{FcSpec}
use Rattle.far_c.specs.declared.spec.FcTest.{FcTest}
use Rattle.far_c.specs.declared.unread.Unread.{Unread}
use Rattle.far_c.specs.declared.unread.Unread.TheVariants as unread

-- the code that is returned for an argument that cannot be read, by the reason
abbrev pub IsUnreadable : (Unread → Type 0) → ℕ → Type 0
IsUnreadable fault code = ((code ≡ 102) × fault unread.NoUtf8)
    ⊎ ((code ≡ 103) × fault unread.BadArgument)

-- the first item that cannot be read, cannot be read for this reason
abbrev pub FirstFault : {A : Type 0} → (A → Unread → Type 0) → (A → Type 0) → List A → Unread
    → Type 0
FirstFault fault readable items why = (k : ℕ)
    × IsSomeAnd (slice_get items k) (λ item. fault item why)
    × All readable (take k items)

-- a cell can be read: its kind is known, and if it is a text, it is valid UTF-8
pub record IsReadable (c : FcCell) : Type 0 where
  pub kind : c.kind ≤ 2
  pub text : c.kind ≡ 2 → IsUtf8 c.text.now

-- why a cell cannot be read: its kind is unknown, or its text is not valid UTF-8. For any cell
-- memory may run out
abbrev pub CellFault : FcCell → Unread → Type 0
CellFault c unread.BadArgument = 2 < c.kind
CellFault c unread.NoUtf8 = (c.kind ≡ 2) × ¬ (IsUtf8 c.text.now)
CellFault c unread.NoMemory = ⊤

-- why a row cannot be read
abbrev pub RowFault : List FcCell → Unread → Type 0
RowFault = FirstFault CellFault IsReadable

-- a test is of a text column
abbrev pub IsOfTexts : FcTest → Type 0
IsOfTexts t = (t.op ≡ 6) ⊎ (t.op ≡ 7)

-- a test can be read
pub record IsReadableTest (t : FcTest) : Type 0 where
  pub op : t.op ≤ 7
  pub text : IsOfTexts t → IsUtf8 t.text.now

-- why a test cannot be read: its comparison is unknown, or its text is not valid UTF-8
abbrev pub TestFault : FcTest → Unread → Type 0
TestFault t unread.BadArgument = 7 < t.op
TestFault t unread.NoUtf8 = IsOfTexts t × ¬ (IsUtf8 t.text.now)
TestFault t unread.NoMemory = ⊤

-- an aggregate can be read
pub record IsReadableSpec (s : FcSpec) : Type 0 where
  pub fold : s.fold ≤ 1
  pub tests : All IsReadableTest s.tests.now

-- why an aggregate cannot be read: its fold is unknown, or else one of its tests cannot be read
abbrev pub SpecFault : FcSpec → Unread → Type 0
SpecFault s why = ((why ≡ unread.BadArgument) × (1 < s.fold))
    ⊎ ((s.fold ≤ 1) × FirstFault TestFault IsReadableTest s.tests.now why)

-- a number is the code of a column's kind
abbrev pub IsKind : ℕ → Type 0
IsKind n = (n ≡ 1) ⊎ (n ≡ 2)

-- why the kind of a column cannot be read
abbrev pub KindFault : ℕ → Unread → Type 0
KindFault n why = ¬ (IsKind n)
