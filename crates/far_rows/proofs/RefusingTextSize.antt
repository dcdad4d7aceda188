-- No text of a new row is too long.
use Rattle.std.proofs.Common.{◌≡◌, ℕ, zero, suc, ◌<◌, Bool, true, false, List, [], ◌∷◌, length, get_or, set, replicate, Option, None, Some, refl, ap, ◌∙◌, arith}
use Rattle.std.specs.Prelude.{◌||◌}
use Rattle.std.specs.List.{list_any}
use Rattle.far_types.specs.declared.cell.Cell.{Cell}
use Rattle.far_types.specs.Cells.{is_too_long}
use Rattle.far_texts.specs.Refusing.{text_too_long}
use Rattle.far_texts.specs.RefusingTogether.{any_too_long}
use Rattle.far_types.specs.Lent.{text_cell}

or-none : (a b : Bool) → (a || b) ≡ false → (a ≡ false) × (b ≡ false)
or-none true b is = absurd cc
or-none false b is = (refl, is)

none-of : (a b : Bool) → a ≡ false → b ≡ false → (a || b) ≡ false
none-of a b first later = ap (λ (c : Bool). c || b) first ∙ later

pub same-length : (text : Option (List ℕ)) → is_too_long (text_cell text) ≡ false → (text_too_long text).0 ≡ false
same-length None short = refl
same-length (Some text) short = short

pub missing-short : (n : ℕ) → (any_too_long (replicate n None)).0 ≡ false
missing-short zero = refl
missing-short (suc n) = missing-short n

still : (texts : List (Option (List ℕ))) (i : ℕ) (text : Option (List ℕ)) → (any_too_long texts).0 ≡ false → (text_too_long text).0 ≡ false → (any_too_long (set texts i text)).0 ≡ false
still [] i text short new = refl
still (t ∷ texts) zero text short new = none-of (text_too_long text).0 (any_too_long texts).0 new (or-none (text_too_long t).0 (any_too_long texts).0 short).1
still (t ∷ texts) (suc i) text short new =
    let both = or-none (text_too_long t).0 (any_too_long texts).0 short in
    none-of (text_too_long t).0 (any_too_long (set texts i text)).0 both.0 (still texts i text both.1 new)

pub still-short : (texts : List (Option (List ℕ))) (i : ℕ) (text : Option (List ℕ)) (cell : Cell) → text_cell text ≡ cell → (any_too_long texts).0 ≡ false → is_too_long cell ≡ false → (any_too_long (set texts i text)).0 ≡ false
still-short texts i text cell is short new = still texts i text short (same-length text (ap is_too_long is ∙ new))

pub short-at : (row : List Cell) (j : ℕ) (d : Cell) → list_any is_too_long row ≡ false → j < length row → is_too_long (get_or row j d) ≡ false
short-at [] j d short within = absurd (omega (arith, within))
short-at (cell ∷ row) zero d short within = (or-none (is_too_long cell) (list_any is_too_long row) short).0
short-at (cell ∷ row) (suc j) d short within = short-at row j d (or-none (is_too_long cell) (list_any is_too_long row) short).1 (omega (arith, within))
