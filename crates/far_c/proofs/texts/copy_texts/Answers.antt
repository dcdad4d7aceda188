use Rattle.std.proofs.Common.{◌≡◌, ◌++◌, ℕ, Bool, List, [], length, map, take, Option, ap, subst, arith}
use Rattle.far_c.specs.Parts.{cells_in, has_value, offsets_of, texts_of}
use Rattle.far_c.proofs.TextsCopied.{texts-there}
use Rattle.far_c.proofs.texts.copy_texts.Goals as goal

abbrev Lent : Type 0
Lent = List (Option (List ℕ) × Bool)

pub returns-clause-texts : goal.returns-clause-texts
returns-clause-texts c = λ whole. λ same.
    let none = c.in_default.ensures.none in
    let nothing : c.loop-cell.texts ≡ [] = none.0 in
    let empty = ap length nothing in
    let kept = c.loop-cell.auto.valid in
    let left = c.loop-cell.invariant.left in
    let more = c.loop-cell.invariant.more in
    texts-there (cells_in c.args.texts) c.loop-cell.index c.loop-cell.at c.loop-cell.offsets c.loop-cell.bytes c.loop-cell.valid
    (omega (arith, same, empty, kept, left, more)) (omega (arith, same, empty, kept, left, more)) c.loop-cell.invariant.inside (omega (arith, same, empty, kept, left))
    (subst (λ (l : Lent). take c.loop-cell.index c.loop-cell.offsets ++ offsets_of c.loop-cell.at (cells_in l) ≡ offsets_of 0 (cells_in c.args.texts)) nothing c.loop-cell.invariant.offsets)
    (subst (λ (l : Lent). take c.loop-cell.at c.loop-cell.bytes ++ texts_of (cells_in l) ≡ texts_of (cells_in c.args.texts)) nothing c.loop-cell.invariant.bytes)
    (subst (λ (l : Lent). take c.loop-cell.index c.loop-cell.valid ++ map has_value (cells_in l) ≡ map has_value (cells_in c.args.texts)) nothing c.loop-cell.invariant.valid)
