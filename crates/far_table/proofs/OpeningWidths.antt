-- The number of columns of each kind in a table that is opened.
use Rattle.std.proofs.Common.{◌≡◌, ℕ, suc, ◌+◌, ◌<◌, ◌≤◌, List, [], ◌∷◌, length, drop, get_or, refl, ap, arith}
use Rattle.std.proofs.lemmas.List.{drop_all}
use Rattle.far_types.specs.declared.cell.Kind.{Kind}
use Rattle.far_types.specs.declared.cell.Kind.TheVariants as kind
use Rattle.far_scopes.proofs.RefusingWrites.{next-is}
use Rattle.far_rows.specs.Opening.{numbers_from, texts_from}

numbers-count : (size n m : ℕ) (kinds : List Kind) → length (numbers_from size n kinds) ≡ length (numbers_from size m kinds)
numbers-count size n m [] = refl
numbers-count size n m (kind.Int ∷ kinds) = ap suc (numbers-count size (n + 1) (m + 1) kinds)
numbers-count size n m (kind.Text ∷ kinds) = numbers-count size (n + 1) (m + 1) kinds

texts-count : (size limit n m : ℕ) (kinds : List Kind) → length (texts_from size limit n kinds) ≡ length (texts_from size limit m kinds)
texts-count size limit n m [] = refl
texts-count size limit n m (kind.Int ∷ kinds) = texts-count size limit (n + 1) (m + 1) kinds
texts-count size limit n m (kind.Text ∷ kinds) = ap suc (texts-count size limit (n + 1) (m + 1) kinds)

numbers-few : (size n : ℕ) (kinds : List Kind) → length (numbers_from size n kinds) ≤ length kinds
numbers-few size n [] = omega arith
numbers-few size n (kind.Int ∷ kinds) = let few = numbers-few size (n + 1) kinds in omega (arith, few)
numbers-few size n (kind.Text ∷ kinds) = let few = numbers-few size (n + 1) kinds in omega (arith, few)

texts-few : (size limit n : ℕ) (kinds : List Kind) → length (texts_from size limit n kinds) ≤ length kinds
texts-few size limit n [] = omega arith
texts-few size limit n (kind.Int ∷ kinds) = let few = texts-few size limit (n + 1) kinds in omega (arith, few)
texts-few size limit n (kind.Text ∷ kinds) = let few = texts-few size limit (n + 1) kinds in omega (arith, few)

-- the counts of the first k kinds
pub record AreCounted (numbers texts : ℕ) (kinds : List Kind) (k : ℕ) : Type 0 where
  pub ints : (size : ℕ) → numbers + length (numbers_from size 0 (drop k kinds)) ≡ length (numbers_from size 0 kinds)
  pub strings : (size limit : ℕ) → texts + length (texts_from size limit 0 (drop k kinds)) ≡ length (texts_from size limit 0 kinds)

module _ (numbers texts : ℕ) (kinds : List Kind) (k : ℕ) (counted : AreCounted numbers texts kinds k) where
  pub few-ints : numbers ≤ length kinds
  few-ints = let all = counted.ints 0 in let few = numbers-few 0 0 kinds in omega (arith, all, few)

  pub few-strings : texts ≤ length kinds
  few-strings = let all = counted.strings 0 0 in let few = texts-few 0 0 0 kinds in omega (arith, all, few)

  module _ (past : length kinds ≤ k) where
    -- at the end all kinds are counted
    pub all-ints : (size : ℕ) → numbers ≡ length (numbers_from size 0 kinds)
    all-ints size = let none = ap (λ (ks : List Kind). length (numbers_from size 0 ks)) (drop_all k kinds past) in let all = counted.ints size in omega (arith, none, all)

    pub all-strings : (size limit : ℕ) → texts ≡ length (texts_from size limit 0 kinds)
    all-strings size limit = let none = ap (λ (ks : List Kind). length (texts_from size limit 0 ks)) (drop_all k kinds past) in let all = counted.strings size limit in omega (arith, none, all)

  module _ (below : k < length kinds) where
    pub one-int : kind.Int ≡ get_or kinds k kind.Int → AreCounted (numbers + 1) texts kinds (k + 1)
    one-int is =
        let next = next-is kinds k kind.Int below is in
        record {
          ints = λ size. (
              let rest = ap (λ (ks : List Kind). length (numbers_from size 0 ks)) next in
              let same = numbers-count size 1 0 (drop (k + 1) kinds) in
              let all = counted.ints size in
              omega (arith, rest, same, all)
              );
          strings = λ size limit. (
              let rest = ap (λ (ks : List Kind). length (texts_from size limit 0 ks)) next in
              let same = texts-count size limit 1 0 (drop (k + 1) kinds) in
              let all = counted.strings size limit in
              omega (arith, rest, same, all)
              );
        }

    pub one-string : kind.Text ≡ get_or kinds k kind.Text → AreCounted numbers (texts + 1) kinds (k + 1)
    one-string is =
        let next = next-is kinds k kind.Text below is in
        record {
          ints = λ size. (
              let rest = ap (λ (ks : List Kind). length (numbers_from size 0 ks)) next in
              let same = numbers-count size 1 0 (drop (k + 1) kinds) in
              let all = counted.ints size in
              omega (arith, rest, same, all)
              );
          strings = λ size limit. (
              let rest = ap (λ (ks : List Kind). length (texts_from size limit 0 ks)) next in
              let same = texts-count size limit 1 0 (drop (k + 1) kinds) in
              let all = counted.strings size limit in
              omega (arith, rest, same, all)
              );
        }
