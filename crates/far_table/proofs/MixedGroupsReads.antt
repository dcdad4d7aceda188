-- The contents of the columns that are away, read one column after another.
use Rattle.std.proofs.Common.{◌≡◌, ◌⊎◌, inl, inr, ℕ, zero, suc, ◌+◌, ◌<◌, Bool, true, false, List, [], ◌∷◌, ◌++◌, Option, None, Some, IsSome, refl, sym, ap, subst, ◌∙◌, arith}
use Rattle.std.specs.Prelude.{◌==◌, cond, option_map, All}
use Rattle.std.specs.List.{find}
use Rattle.std.specs.Option.{option_or}
use Rattle.std.proofs.lemmas.Bool.{cases_order}
use Rattle.std.proofs.lemmas.Bool.Decides.{nat_tests}
use Rattle.std.proofs.lemmas.List.Elements.{All-append}
use Rattle.std.proofs.lemmas.List.Folds.{find-append}
use Rattle.std.proofs.lemmas.Option.{none-some, same_Some}
use Rattle.far_types.specs.declared.spec.Spec.{Spec}
use Rattle.far_types.specs.Bounds.{needs}
use Rattle.far_rows.specs.Rows.{Rows}
use Rattle.far_table.specs.FarGroups.{IsCopy}
use Rattle.far_table.specs.Groups.{GroupRows, has_column}
use Rattle.far_table.specs.MixedGroups.{IsRead, AreReadBelow, AreRead}

abbrev Read : Type 0
Read = ℕ × List ℕ

-- a property of all contents is a property of the one that is found
pub found-read : (P : Read → Type 0) (n : ℕ) (reads : List Read) → All P reads → (form : List ℕ) → Some form ≡ option_map (λ (read : Read). read.1) (find (λ read. read.0 == n) reads) → P (n, form)
found-read P n [] all form is = absurd (none-some form (sym is))
found-read P n (read ∷ reads) all form is = by (read.0 == n) refl (found-read P n reads (λ k d within. all (suc k) d (omega (arith, within))) form) where
  by : (b : Bool) → (read.0 == n) ≡ b → (Some form ≡ option_map (λ (r : Read). r.1) (find (λ r. r.0 == n) reads) → P (n, form)) → P (n, form)
  by true test others =
      let number : read.0 ≡ n = grind (arith, nat_tests) in
      let same : form ≡ read.1 = same_Some form read.1 (is ∙ ap (λ (b : Bool). option_map (λ (r : Read). r.1) (cond b (Some read) (find (λ r. r.0 == n) reads))) test) in
      subst (λ (k : ℕ). P (k, form)) number (subst (λ (bytes : List ℕ). P (read.0, bytes)) (sym same) (all 0 read (omega arith)))
  by false test others = others (is ∙ ap (λ (b : Bool). option_map (λ (r : Read). r.1) (cond b (Some read) (find (λ r. r.0 == n) reads))) test)

-- a content that is found can be read
pub none-read : {A : Type 0} (found : Option Read) → None ≡ option_map (λ (read : Read). read.1) found → IsSome found → A
none-read None is there = absurd (let clash : false ≡ true = there in cc)
none-read (Some read) is there = absurd (none-some read.1 is)

some-or : (a b : Option Read) → IsSome a → IsSome (option_or a b)
some-or None b is = absurd (let clash : false ≡ true = is in cc)
some-or (Some x) b is = refl

or-some : (a : Option Read) (x : Read) → IsSome (option_or a (Some x))
or-some None x = refl
or-some (Some y) x = refl

module _ {K : Type 0} (content : K → List ℕ) (g : GroupRows K) (spec : Spec) where
  pub none-yet : AreReadBelow content g 0 spec []
  none-yet = record { each = λ k d within. absurd (omega (arith, within)); all = λ column under. absurd (omega (arith, under)) }

  -- a column that is not needed, or is in memory, is passed over
  pub one-past : (n : ℕ) (reads : List Read) → AreReadBelow content g n spec reads → (needs spec n ≡ true → has_column g n ≡ false → ⊥) → AreReadBelow content g (n + 1) spec reads
  one-past n reads are idle = record { each = are.each; all = λ column under. by column under (cases_order column n) } where
    by : (column : ℕ) → column < n + 1 → (column ≡ n) ⊎ ((column < n) ⊎ (n < column)) → needs spec column ≡ true → has_column g column ≡ false → IsSome (find (λ (read : Read). read.0 == column) reads)
    by column under (inl same) wanted away = absurd (idle (ap (needs spec) (sym same) ∙ wanted) (ap (has_column g) (sym same) ∙ away))
    by column under (inr (inl less)) wanted away = are.all column less wanted away
    by column under (inr (inr more)) wanted away = absurd (omega (arith, under, more))

  -- reading one more column appends its content
  pub one-read : (n : ℕ) (reads : List Read) (bytes : List ℕ) → AreReadBelow content g n spec reads → IsRead content g (n, bytes) → AreReadBelow content g (n + 1) spec (reads ++ (n, bytes) ∷ [])
  one-read n reads bytes are is = record {
    each = All-append (IsRead content g) reads ((n, bytes) ∷ []) are.each only;
    all = λ column under wanted away. subst IsSome (sym (find-append (λ (read : Read). read.0 == column) reads ((n, bytes) ∷ []))) (by column under (cases_order column n) wanted away);
  } where
    only : All (IsRead content g) ((n, bytes) ∷ [])
    only zero d within = is
    only (suc k) d within = absurd (omega (arith, within))

    by : (column : ℕ) → column < n + 1 → (column ≡ n) ⊎ ((column < n) ⊎ (n < column)) → needs spec column ≡ true → has_column g column ≡ false → IsSome (option_or (find (λ (read : Read). read.0 == column) reads) (cond (n == column) (Some (n, bytes)) None))
    by column under (inl same) wanted away =
        let here : (n == column) ≡ true = grind (arith, nat_tests) in
        subst (λ (b : Bool). IsSome (option_or (find (λ (read : Read). read.0 == column) reads) (cond b (Some (n, bytes)) None))) (sym here) (or-some (find (λ (read : Read). read.0 == column) reads) (n, bytes))
    by column under (inr (inl less)) wanted away = some-or (find (λ (read : Read). read.0 == column) reads) (cond (n == column) (Some (n, bytes)) None) (are.all column less wanted away)
    by column under (inr (inr more)) wanted away = absurd (omega (arith, under, more))

  -- once all needed columns are passed, each that was away is read
  pub all-read : (n : ℕ) (reads : List Read) → AreReadBelow content g n spec reads → ((column : ℕ) → needs spec column ≡ true → column < n) → AreRead content g spec reads
  all-read n reads are below = record { each = are.each; all = λ column wanted away. are.all column (below column wanted) wanted away }

-- the content of a copy's ticket is the content of the column
pub copy-read : {K : Type 0} (content : K → List ℕ) (r : Rows K) (group column : ℕ) (ticket : K) → IsCopy content r group column ticket → IsRead content record { rows = r; group = group } (column, content ticket)
copy-read content r group column ticket copy = record { form = copy.form; cells = copy.cells }
