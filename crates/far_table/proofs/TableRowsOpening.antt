-- The invariant of a table's rows holds when they are opened.
use Rattle.std.proofs.Common.{◌≡◌, ℕ, ◌+◌, List, [], ◌∷◌, map, length, replicate, None, refl, ap, ◌∙◌, arith}
use Rattle.std.specs.Prelude.{All}
use Rattle.std.proofs.lemmas.List.{length-replicate}
use Rattle.std.proofs.lemmas.List.Elements.{All-nil, All-cons}
use Rattle.far_types.specs.declared.cell.Kind.{Kind}
use Rattle.far_types.specs.declared.cell.Kind.TheVariants as kind
use Rattle.far_types.specs.declared.limits.Limits.{Limits}
use Rattle.far_types.specs.Bounds.{AreLimits}
use Rattle.far_texts.specs.Texts.{Texts}
use Rattle.far_rows.specs.Opening.{numbers_from, texts_from, empty_rows}
use Rattle.far_rows.specs.ColumnIndexes.{Values, kind_of, column_indexes_from}
use Rattle.far_table.specs.TableRows.{AreTableRows}
use Rattle.far_table.proofs.AccumulatorsFits.{default_value-fits}

kinds-opened : (n m : ℕ) (kinds : List Kind) → map kind_of (column_indexes_from n m kinds) ≡ kinds
kinds-opened n m [] = refl
kinds-opened n m (kind.Int ∷ kinds) = ap (λ (ks : List Kind). kind.Int ∷ ks) (kinds-opened (n + 1) m kinds)
kinds-opened n m (kind.Text ∷ kinds) = ap (λ (ks : List Kind). kind.Text ∷ ks) (kinds-opened n (m + 1) kinds)

limits-opened : (size limit n : ℕ) (kinds : List Kind) → All (λ (c : Texts). c.limit ≡ limit) (texts_from size limit n kinds)
limits-opened size limit n [] = All-nil (λ (c : Texts). c.limit ≡ limit)
limits-opened size limit n (kind.Int ∷ kinds) = limits-opened size limit (n + 1) kinds
limits-opened size limit n (kind.Text ∷ kinds) = All-cons (λ (c : Texts). c.limit ≡ limit) _ _ refl (limits-opened size limit (n + 1) kinds)

pub opened-invariant : {K : Type 0} (content : K → List ℕ) (schema : List Kind) (limits : Limits) (number : ℕ) → AreLimits limits → (n m : ℕ) (values : Values) → values ≡ record { numbers = replicate n None; texts = replicate m None }
    → n ≡ length (numbers_from limits.group 0 schema) → m ≡ length (texts_from limits.group limits.text_size 0 schema) → AreTableRows content schema limits (empty_rows {K = K} schema limits number) values 0
opened-invariant {K = K} content schema limits number bounds n m values default_value ints strings = record {
  bounds = bounds;
  kinds = kinds-opened 0 0 schema;
  layout = record { group = refl; limit = limits-opened limits.group limits.text_size 0 schema };
  few = omega arith;
  edits_few = omega arith;
  numbers_written = record { max_writes = refl; versions = λ o. omega arith };
  texts_written = record { max_writes = refl; versions = λ o. omega arith };
  numbers = ap (λ (v : Values). length v.numbers) default_value ∙ length-replicate n None ∙ ints;
  texts = ap (λ (v : Values). length v.texts) default_value ∙ length-replicate m None ∙ strings;
  fit = tt;
  new_row_fit = default_value-fits n m values default_value (column_indexes_from 0 0 schema);
}
