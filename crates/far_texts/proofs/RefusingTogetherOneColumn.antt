-- For a single column, the tests of several columns are the column's own tests.
use Rattle.std.proofs.Common.{◌≡◌, ℕ, Bool, true, false, cond, List, [], ◌∷◌, ◌++◌, length, get_or, Option, None, Some, refl, sym, ap, ◌∙◌, arith}
use Rattle.std.specs.Prelude.{not, ◌||◌, ◌&&◌, is_some}
use Rattle.std.specs.Option.{option_map_or}
use Rattle.far_types.specs.declared.refusal.Refusal.{Refusal}
use Rattle.far_types.specs.declared.refusal.Refusal.TheVariants as refusal
use Rattle.far_types.specs.FirstOf.{first_of}
use Rattle.far_types.specs.FormLengths.{texts_length}
use Rattle.far_log.specs.RegionState.{spaces_of, fits_in, lowest_for, fit_in_order}
use Rattle.far_codec.specs.TextForm.{texts_form}
use Rattle.far_codec.proofs.FarFormLaws.{texts_form_length}
use Rattle.far_scopes.specs.Movement.{Movement}
use Rattle.far_scopes.specs.Refusing.{absent, written_out}
use Rattle.far_texts.specs.Texts.{Texts, lists_of}
use Rattle.far_texts.specs.Effects.{begins_group, last_object, group_with_next}
use Rattle.far_texts.specs.Refusing.{text_too_long, chunk_full, push_refusal}
use Rattle.far_texts.specs.Together.{object_for}
use Rattle.far_texts.specs.RefusingTogether.{push_texts_refusal}
use Rattle.far_texts.proofs.TogetherOneColumn.{object-longer}

or-false : (b : Bool) → (b || false) ≡ b
or-false true = refl
or-false false = refl

-- a single list fits if some space is large enough
one-fits : (spaces : List ℕ) (n : ℕ) → fit_in_order spaces (n ∷ []) ≡ is_some (lowest_for spaces n)
one-fits spaces n = each (lowest_for spaces n)
  where
    each : (o : Option ℕ) → option_map_or (λ i. true) o false ≡ is_some o
    each None = refl
    each (Some i) = refl

-- for one column, the tests of several columns and the column's own tests find one refusal
one-due : (begins short away full fits space used last : Bool) (e f g h i : Refusal) → fits ≡ space → (begins ≡ false → used ≡ last)
    → first_of ((short || false, e) ∷ ((cond (begins && true) [] ((away, f) ∷ []) ++ (full || false, g) ∷ []) ++ (not fits, h) ∷ cond (begins && true) [] ((used || false, i) ∷ [])))
    ≡ first_of (cond begins ((short, e) ∷ (full, g) ∷ (not space, h) ∷ []) ((short, e) ∷ (away, f) ∷ (full, g) ∷ (not space, h) ∷ (last, i) ∷ []))
one-due true true away full fits space used last e f g h i same none = refl
one-due true false away true fits space used last e f g h i same none = refl
one-due true false away false fits space used last e f g h i same none = ap (λ (b : Bool). first_of ((not b, h) ∷ [])) same
one-due false true away full fits space used last e f g h i same none = refl
one-due false false true full fits space used last e f g h i same none = refl
one-due false false false true fits space used last e f g h i same none = refl
one-due false false false false fits space used last e f g h i same none =
    ap (λ (b : Bool). first_of ((not b, h) ∷ (used || false, i) ∷ [])) same
    ∙ ap (λ (b : Bool). first_of ((not space, h) ∷ (b, i) ∷ [])) (or-false used ∙ none refl)

module _ {K : Type 0} (content : K → List ℕ) (m : Movement ℕ K) where
  alone : (c : Texts) (text : Option (List ℕ)) → push_texts_refusal content m (c ∷ []) (text ∷ []) ≡ push_refusal content m c text
  alone c text =
      let texts = group_with_next (lists_of content m) c text in
      let o = last_object c in
      let n = length m.records in
      let fits : fit_in_order (spaces_of m.memory.state) (length (texts_form texts) ∷ []) ≡ fits_in m.memory.state (texts_length texts) =
      ap (λ k. fit_in_order (spaces_of m.memory.state) (k ∷ [])) (texts_form_length texts) ∙ one-fits (spaces_of m.memory.state) (texts_length texts) in
      one-due (begins_group c) (text_too_long text).0 (absent m o).0 (chunk_full c texts).0 _ _ (written_out m (object_for c n)).0 (written_out m o).0
      refusal.TextTooLong (absent m o).1 refusal.ChunkFull refusal.RegionFull refusal.EditsUsedUp fits (λ begun. ap (λ p. (written_out m p).0) (object-longer c n begun))

  -- a single column may be tested by `push_refusal`
  pub one-asked : (columns : List Texts) (texts : List (Option (List ℕ))) (c : Texts) (text : Option (List ℕ)) → length columns ≡ 1 → length texts ≡ length columns → c ≡ get_or columns 0 c → text ≡ get_or texts 0 text
      → push_refusal content m c text ≡ push_texts_refusal content m columns texts
  one-asked [] texts c text one same_length first given = absurd (omega arith)
  one-asked (d ∷ (b ∷ columns)) texts c text one same_length first given = absurd (omega arith)
  one-asked (d ∷ []) [] c text one same_length first given = absurd (omega arith)
  one-asked (d ∷ []) (t ∷ (s ∷ texts)) c text one same_length first given = absurd (omega arith)
  one-asked (d ∷ []) (t ∷ []) c text one same_length first given = ap (λ (x : Texts). push_refusal content m x text) first ∙ ap (push_refusal content m d) given ∙ sym (alone d t)
