-- The objects and the forms for the next texts of several columns.
use Rattle.std.proofs.Common.{◌≡◌, ◌≢◌, ℕ, zero, suc, ◌+◌, List, [], ◌∷◌, length, Option, Some, refl, ap, subst, ◌∙◌, arith}
use Rattle.std.specs.Prelude.{All, slice_get}
use Rattle.std.proofs.lemmas.Option.{same_Some, slice_get_within, get_or_from_slice_get}
use Rattle.std.proofs.lemmas.List.Elements.{All-cons, All-nil}
use Rattle.far_codec.specs.TextForm.{texts_form}
use Rattle.far_texts.specs.Texts.{Texts, Lists}
use Rattle.far_texts.specs.Effects.{group_with_next}
use Rattle.far_texts.specs.Together.{object_for, next_forms}

module _ (lists : Lists) where
  -- the object and the form of column k
  pub next-at : (n : ℕ) (columns : List Texts) (texts : List (Option (List ℕ))) (k : ℕ) (c : Texts) (text : Option (List ℕ)) → slice_get columns k ≡ Some c → slice_get texts k ≡ Some text → slice_get (next_forms lists n columns texts) k ≡ Some (object_for c (n + k), texts_form (group_with_next lists c text))
  next-at n [] texts k c text here there = absurd cc
  next-at n (d ∷ columns) [] k c text here there = absurd cc
  next-at n (d ∷ columns) (t ∷ texts) zero c text here there =
      let place : n ≡ n + 0 = omega arith in
      ap (λ x. Some (object_for x n, texts_form (group_with_next lists x t))) (same_Some d c here)
      ∙ ap (λ x. Some (object_for c n, texts_form (group_with_next lists c x))) (same_Some t text there)
      ∙ ap (λ i. Some (object_for c i, texts_form (group_with_next lists c text))) place
  next-at n (d ∷ columns) (t ∷ texts) (suc k) c text here there =
      let place : n + 1 + k ≡ n + suc k = omega arith in
      next-at (n + 1) columns texts k c text here there ∙ ap (λ i. Some (object_for c i, texts_form (group_with_next lists c text))) place

  -- there are as many next forms as columns
  pub length-next : (n : ℕ) (columns : List Texts) (texts : List (Option (List ℕ))) → length texts ≡ length columns → length (next_forms lists n columns texts) ≡ length columns
  length-next n [] texts same_length = refl
  length-next n (c ∷ columns) [] same_length = absurd (omega arith)
  length-next n (c ∷ columns) (text ∷ texts) same_length =
      let rest = length-next (n + 1) columns texts (omega arith) in
      omega arith

  -- an object that is not for any column's next text is not listed
  pub unlisted : (n : ℕ) (columns : List Texts) (texts : List (Option (List ℕ))) (p : ℕ) → ((k : ℕ) (c : Texts) → slice_get columns k ≡ Some c → p ≢ object_for c (n + k)) → All (λ form. p ≢ form.0) (next_forms lists n columns texts)
  unlisted n [] texts p disjoint = All-nil (λ (form : ℕ × List ℕ). p ≢ form.0)
  unlisted n (c ∷ columns) [] p disjoint = All-nil (λ (form : ℕ × List ℕ). p ≢ form.0)
  unlisted n (c ∷ columns) (text ∷ texts) p disjoint =
      All-cons (λ (form : ℕ × List ℕ). p ≢ form.0) (object_for c n, texts_form (group_with_next lists c text)) (next_forms lists (n + 1) columns texts)
      (λ same. let place : n ≡ n + 0 = omega arith in disjoint 0 c refl (same ∙ ap (object_for c) place))
      (unlisted (n + 1) columns texts p (λ k d here same. let place : n + 1 + k ≡ n + suc k = omega arith in disjoint (suc k) d here (same ∙ ap (object_for d) place)))

-- the element at an index has a property that all elements have
pub all-at : {X : Type 0} (P : X → Type 0) (xs : List X) (k : ℕ) (x : X) → All P xs → slice_get xs k ≡ Some x → P x
all-at P xs k x all here = subst P (get_or_from_slice_get xs k x x here) (all k x (slice_get_within xs k x here))
