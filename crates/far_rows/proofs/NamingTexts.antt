-- The names of the objects of text columns, after a text is appended to each.
use Rattle.std.proofs.Common.{◌≡◌, ◌≢◌, inl, inr, ℕ, ◌+◌, ◌%◌, ◌<◌, true, false, List, [], ◌∷◌, ◌++◌, length, map, get_or, Option, Some, refl, sym, ap, subst, ◌∙◌, arith}
use Rattle.std.specs.Prelude.{All, slice_get}
use Rattle.std.proofs.lemmas.Bool.{cases_Bool}
use Rattle.std.proofs.lemmas.List.{length-map, length_push}
use Rattle.std.proofs.lemmas.List.Elements.{All-nil, All-cons, All-head, All-tail}
use Rattle.std.proofs.lemmas.List.Sums.{AllPass-from_list_all}
use Rattle.far_codec.specs.TextForm.{texts_form}
use Rattle.far_types.specs.declared.name.Name.{Name}
use Rattle.far_scopes.specs.Movement.{Movement}
use Rattle.far_scopes.specs.Effects.{after_create}
use Rattle.far_texts.specs.Texts.{Texts, Lists}
use Rattle.far_texts.specs.Effects.{begins_group, group_with_next, after_push}
use Rattle.far_texts.specs.Together.{AreReplaced, all_begin, after_create_all, after_push_all, next_forms}
use Rattle.far_rows.specs.Naming.{names_of, AreNamed}
use Rattle.far_rows.proofs.RowsGroupStarts.{IsTexts, text-begun, texts-begin}
use Rattle.far_rows.proofs.EffectsGrowth.{all-texts}
use Rattle.far_rows.proofs.EffectsTextGrowth.{begun, longer}
use Rattle.far_rows.proofs.NamingLaws.{names-after_replace_all}
use Rattle.far_rows.proofs.NamingCreation.{Extends, get-before, named-more, named-next, names-after_create}

-- the objects of a column are named by it and by their row groups
abbrev pub IsNamed : List Name → Texts → Type 0
IsNamed names c = AreNamed names c.column c.objects

-- each column keeps its number
pub same-numbers : (n : ℕ) (columns : List Texts) → map (λ c. c.column) (after_push_all n columns) ≡ map (λ c. c.column) columns
same-numbers n [] = refl
same-numbers n (c ∷ columns) = ap (λ (l : List ℕ). c.column ∷ l) (same-numbers (n + 1) columns)

abbrev pub next_name : Texts → Name
next_name c = record { column = c.column; group = length c.objects }

named-still : (names : List Name) (c : Texts) (o : ℕ) → (begins_group c ≡ false) × IsNamed names c → IsNamed names (after_push c o)
named-still names c o was = subst (IsNamed names) (sym (longer c o was.0)) was.1

pub true-not : true ≢ false
true-not e = cc

module _ {K : Type 0} (lists : Lists) where
  -- the objects after a new one is made for a column's next text
  abbrev pub one : Movement ℕ K → Texts → Option (List ℕ) → Movement ℕ K
  one m c text = after_create m (next_name c) (texts_form (group_with_next lists c text))

  -- the objects after a new one is made for each column, in order
  abbrev made : Movement ℕ K → ℕ → List Texts → List (Option (List ℕ)) → Movement ℕ K
  made m n columns texts = after_create_all m columns (next_forms lists n columns texts)

  text-extends : (m : Movement ℕ K) (c : Texts) (text : Option (List ℕ)) → Extends (names_of m) (names_of (one m c text))
  text-extends m c text o name at = subst (λ (names : List Name). slice_get names o ≡ Some name) (sym (names-after_create m (next_name c) (texts_form (group_with_next lists c text)))) (get-before (names_of m) (next_name c ∷ []) o name at)

  texts-extend : (m : Movement ℕ K) (n : ℕ) (columns : List Texts) (texts : List (Option (List ℕ))) → Extends (names_of m) (names_of (made m n columns texts))
  texts-extend m n [] texts o name at = at
  texts-extend m n (c ∷ columns) [] o name at = at
  texts-extend m n (c ∷ columns) (text ∷ texts) o name at = texts-extend (one m c text) (n + 1) columns texts o name (text-extends m c text o name at)

  -- if all columns begin row groups, each new object has the name of its column's row group
  named-begun : (m : Movement ℕ K) (columns : List Texts) (texts : List (Option (List ℕ))) (n : ℕ) → n ≡ length (names_of m) → length texts ≡ length columns → All (λ c. begins_group c ≡ true) columns → All (IsNamed (names_of m)) columns → All (IsNamed (names_of (made m n columns texts))) (after_push_all n columns)
  named-begun m [] texts n count same_length begin named = All-nil (IsNamed (names_of m))
  named-begun m (c ∷ columns) [] n count same_length begin named = absurd (omega (arith, same_length))
  named-begun m (c ∷ columns) (text ∷ texts) n count same_length begin named =
      let next = one m c text in
      let last = names_of (made next (n + 1) columns texts) in
      let first = All-head (λ d. begins_group d ≡ true) c columns begin in
      let now = names-after_create m (next_name c) (texts_form (group_with_next lists c text)) in
      let own : IsNamed (names_of next) (after_push c n) =
      subst (IsNamed (names_of next)) (sym (begun c n first)) (subst (λ (names : List Name). AreNamed names c.column (c.objects ++ n ∷ [])) (sym now)
      (subst (λ o. AreNamed (names_of m ++ next_name c ∷ []) c.column (c.objects ++ o ∷ [])) (sym count) (named-next (names_of m) c.column c.objects (All-head (IsNamed (names_of m)) c columns named)))) in
      let more : n + 1 ≡ length (names_of next) = omega (arith, count, ap length now, length_push (names_of m) (next_name c)) in
      let others : All (IsNamed (names_of next)) columns = λ k d below. named-more (names_of m) (names_of next) (get_or columns k d).column (get_or columns k d).objects (text-extends m c text) (All-tail (IsNamed (names_of m)) c columns named k d below) in
      All-cons (IsNamed last) (after_push c n) (after_push_all (n + 1) columns)
      (named-more (names_of next) last (after_push c n).column (after_push c n).objects (texts-extend next (n + 1) columns texts) own)
      (named-begun next columns texts (n + 1) more (omega (arith, same_length)) (All-tail (λ d. begins_group d ≡ true) c columns begin) others)

  pub names-unchanged : (old new : Movement ℕ K) (forms : List (ℕ × List ℕ)) → AreReplaced old forms new → names_of new ≡ names_of old
  names-unchanged old new forms (given, is, now) = ap names_of now ∙ names-after_replace_all old given

  pub texts-named : (size len : ℕ) (columns : List Texts) → 0 < size → All (IsTexts size len) columns → (m now : Movement ℕ K) (texts : List (Option (List ℕ))) → length texts ≡ length columns
      → (all_begin columns ≡ true → now ≡ after_create_all m columns (next_forms lists (length m.records) columns texts))
      → (all_begin columns ≡ false → AreReplaced m (next_forms lists (length m.records) columns texts) now)
      → All (IsNamed (names_of m)) columns → All (IsNamed (names_of now)) (after_push_all (length m.records) columns)
  texts-named size len columns some are m now texts same_length begun replaced named = elim (cases_Bool (all_begin columns)) [
    | inl begin ↦
        subst (λ (objects : Movement ℕ K). All (IsNamed (names_of objects)) (after_push_all (length m.records) columns)) (sym (begun begin))
        (named-begun m columns texts (length m.records) (sym (length-map m.records (λ object_record. object_record.name))) same_length (AllPass-from_list_all begins_group columns begin) named)
    | inr not ↦
        let disjoint : len % size ≢ 0 = λ divides. true-not (sym (texts-begin size len columns some divides are) ∙ not) in
        let none : All (λ c. begins_group c ≡ false) columns = λ k d below. text-begun size len some disjoint (get_or columns k d) (are k d below) in
        subst (λ (ns : List Name). All (IsNamed ns) (after_push_all (length m.records) columns)) (sym (names-unchanged m now (next_forms lists (length m.records) columns texts) (replaced not)))
        (all-texts (λ c. (begins_group c ≡ false) × IsNamed (names_of m) c) (IsNamed (names_of m)) (named-still (names_of m)) (length m.records) columns (λ k d below. (none k d below, named k d below)))
  ]
