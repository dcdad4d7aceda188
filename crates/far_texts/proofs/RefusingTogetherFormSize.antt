-- Whether the new form of one of several columns would be too long.
use Rattle.std.proofs.Common.{◌≡◌, ℕ, zero, suc, ◌+◌, ◌<◌, ◌≤◌, Bool, true, false, ltb, List, [], ◌∷◌, length, get_or, drop, Option, None, Some, refl, ap, subst, ◌∙◌}
use Rattle.std.specs.Prelude.{◌||◌, slice_get}
use Rattle.std.proofs.lemmas.Bool.{le-ltb, lt-ltb, ltb-false}
use Rattle.std.proofs.lemmas.Option.{same_Some}
use Rattle.far_types.specs.declared.refusal.Refusal.{Refusal}
use Rattle.far_types.specs.declared.refusal.Refusal.TheVariants.{ChunkFull}
use Rattle.far_types.specs.FirstOf.{first_of}
use Rattle.far_types.specs.FormLengths.{texts_length}
use Rattle.far_scopes.proofs.RefusingWrites.{next-is}
use Rattle.far_texts.specs.Texts.{Texts, Lists}
use Rattle.far_texts.specs.Effects.{group_with_next}
use Rattle.far_texts.specs.RefusingTogether.{any_full}

module _ (lists : Lists) (columns : List Texts) (texts : List (Option (List ℕ))) (k : ℕ) (c : Texts) (text : Option (List ℕ)) (within : k < length columns) (within_too : k < length texts) (read : c ≡ get_or columns k c) (read_too : text ≡ get_or texts k text) where
  abbrev len : ℕ
  len = texts_length (group_with_next lists c text)

  abbrev rest : Bool
  rest = (any_full lists (drop (k + 1) columns) (drop (k + 1) texts)).0

  next-full : (any_full lists (drop k columns) (drop k texts)).0 ≡ (ltb c.limit len || rest)
  next-full =
      ap (λ cs. (any_full lists cs (drop k texts)).0) (next-is columns k c within read)
      ∙ ap (λ ts. (any_full lists (c ∷ drop (k + 1) columns) ts).0) (next-is texts k text within_too read_too)

  pub full-here : c.limit < len → (any_full lists (drop k columns) (drop k texts)).0 ≡ true
  full-here long = next-full ∙ ap (λ (b : Bool). b || rest) (lt-ltb c.limit len long)

  pub full-later : len ≤ c.limit → (any_full lists (drop k columns) (drop k texts)).0 ≡ rest
  full-later short = next-full ∙ ap (λ (b : Bool). b || rest) (le-ltb c.limit len short)

neither : (a b : Bool) (e : Refusal) → first_of ((a || b, e) ∷ []) ≡ None → (a ≡ false) × (first_of ((b, e) ∷ []) ≡ None)
neither true b e free = absurd cc
neither false b e free = (refl, free)

-- none of the new forms is too long
pub none-full-at : (lists : Lists) (columns : List Texts) (texts : List (Option (List ℕ))) → first_of (any_full lists columns texts ∷ []) ≡ None → (k : ℕ) (c : Texts) (text : Option (List ℕ)) → slice_get columns k ≡ Some c → slice_get texts k ≡ Some text → texts_length (group_with_next lists c text) ≤ c.limit
none-full-at lists [] texts free k c text here there = absurd cc
none-full-at lists (d ∷ columns) [] free k c text here there = absurd cc
none-full-at lists (d ∷ columns) (t ∷ texts) free zero c text here there =
    let long = texts_length (group_with_next lists d t) in
    let short = ltb-false d.limit long (neither (ltb d.limit long) (any_full lists columns texts).0 ChunkFull free).0 in
    subst (λ (x : Texts). texts_length (group_with_next lists x text) ≤ x.limit) (same_Some d c here) (subst (λ x. texts_length (group_with_next lists d x) ≤ d.limit) (same_Some t text there) short)
none-full-at lists (d ∷ columns) (t ∷ texts) free (suc k) c text here there =
    none-full-at lists columns texts (neither (ltb d.limit (texts_length (group_with_next lists d t))) (any_full lists columns texts).0 ChunkFull free).1 k c text here there
