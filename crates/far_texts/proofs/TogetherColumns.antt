-- Several columns with one more text each remain columns of one table.
use Rattle.std.proofs.Common.{◌≡◌, ◌≢◌, inl, inr, ℕ, ◌+◌, ◌<◌, ◌≤◌, Bool, cond, List, [], ◌∷◌, ◌++◌, length, get_or, Option, None, Some, sym, ap, subst, ◌∙◌, arith}
use Rattle.std.specs.Prelude.{All, slice_get, ◌⊎◌}
use Rattle.std.proofs.lemmas.Bool.{cases_lt, cases_eq, cases_Bool}
use Rattle.std.proofs.lemmas.Option.{same_Some, slice_get-get_or, slice_get_within, get_or_from_slice_get, none-some}
use Rattle.far_scopes.proofs.MemoryWordPlaces.{slice_get-push_last, slice_get-push_other}
use Rattle.far_texts.specs.Texts.{Texts, Lists, HasGroups, IsTextColumn, AreDisjoint}
use Rattle.far_texts.specs.Effects.{begins_group, after_push}
use Rattle.far_texts.specs.Together.{AreColumns, next_forms, after_push_all, ChangesTo, AreNextForms}
use Rattle.far_texts.proofs.TextsGroups.{group-list}
use Rattle.far_texts.proofs.TogetherAppends.{pushed-at, length-pushed, all-is, column-is}

-- an object of a column with one more text is one of the column's old objects, or the new one
pub object-of : (c : Texts) (o g q : ℕ) → slice_get (after_push c o).objects g ≡ Some q → (slice_get c.objects g ≡ Some q) ⊎ (q ≡ o)
object-of c o g q here = elim (cases_Bool (begins_group c)) [
  | inl begins ↦
      let at : slice_get (c.objects ++ o ∷ []) g ≡ Some q = sym (ap (λ (b : Bool). slice_get (cond b (c.objects ++ o ∷ []) c.objects) g) begins) ∙ here in
      elim (cases_eq g (length c.objects)) [
        | inl last ↦ inr (same_Some q o (sym at ∙ ap (slice_get (c.objects ++ o ∷ [])) last ∙ slice_get-push_last c.objects o))
        | inr before ↦ inl (sym (slice_get-push_other c.objects o g before) ∙ at)
      ]
  | inr not ↦ inl (sym (ap (λ (b : Bool). slice_get (cond b (c.objects ++ o ∷ []) c.objects) g) not) ∙ here)
]

-- two columns that get new objects remain disjoint
pub disjoint-pushed : (c d : Texts) (n o p : ℕ) → AreDisjoint c d → ((g q : ℕ) → slice_get c.objects g ≡ Some q → q < n) → ((g q : ℕ) → slice_get d.objects g ≡ Some q → q < n) → n ≤ o → n ≤ p → o ≢ p → AreDisjoint (after_push c o) (after_push d p)
disjoint-pushed c d n o p disjoint below_c below_d new_o new_p two g h q here there = elim (object-of c o g q here) [
  | inl mine ↦ elim (object-of d p h q there) [
    | inl other ↦ disjoint g h q mine other
    | inr fresh ↦ omega (arith, below_c g q mine, fresh, new_p)
  ]
  | inr mine ↦ elim (object-of d p h q there) [
    | inl other ↦ omega (arith, below_d h q other, mine, new_o)
    | inr fresh ↦ two (sym mine ∙ fresh)
  ]
]

module _ (old : Lists) (n : ℕ) (columns : List Texts) (are : AreColumns old columns) (groups : All HasGroups columns) (fresh : (p : ℕ) → n ≤ p → old p ≡ None) where
  -- an object of a column is in use
  used : (k : ℕ) (c : Texts) → slice_get columns k ≡ Some c → (g q : ℕ) → slice_get c.objects g ≡ Some q → q < n
  used k c here g q at = elim (cases_lt q n) [
    | inl below ↦ below
    | inr past ↦
        let list = group-list old c (column-is old n columns are groups fresh k c here) g (slice_get_within c.objects g q at) in
        absurd (none-some _ (sym (fresh q past) ∙ ap old (sym (get_or_from_slice_get c.objects g q 0 at)) ∙ list))
  ]

  -- a column that has no object in common with these columns has none in common with the columns after the call
  pub stays-disjoint : (d : Texts) → IsTextColumn old d → All (λ c. AreDisjoint c d) columns → All (λ c. AreDisjoint c d) (after_push_all n columns)
  stays-disjoint d is disjoint k e below =
      let inside : k < length columns = subst (λ m. k < m) (length-pushed n columns) below in
      let c = get_or columns k e in
      subst (λ x. AreDisjoint x d) (sym (pushed-at n columns k e inside)) (λ g h q here there. elim (object-of c (n + k) g q here) [
        | inl mine ↦ disjoint k e inside g h q mine there
        | inr new ↦
            let list = group-list old d is h (slice_get_within d.objects h q there) in
            absurd (none-some _ (sym (fresh q (omega (arith, new))) ∙ ap old (sym (get_or_from_slice_get d.objects h q 0 there)) ∙ list))
      ])

  module _ (new : Lists) (texts : List (Option (List ℕ))) (same_length : length texts ≡ length columns) (valid : AreNextForms old columns texts) (changes : ChangesTo old new (next_forms old n columns texts)) where
    pub stay-columns : AreColumns new (after_push_all n columns)
    stay-columns = record {
      all_disjoint = record {
        each = all-is old n columns are groups fresh new texts same_length valid changes;
        disjoint = λ i j d before below.
            let inside : j < length columns = subst (λ m. j < m) (length-pushed n columns) below in
            let within : i < length columns = omega (arith, before, inside) in
            let c = get_or columns i d in
            let e = get_or columns j d in
            let both = disjoint-pushed c e n (n + i) (n + j) (are.all_disjoint.disjoint i j d before inside) (used i c (slice_get-get_or columns i d within)) (used j e (slice_get-get_or columns j d inside)) (omega arith) (omega arith) (λ same. omega (arith, same, before)) in
            subst (λ x. AreDisjoint (get_or (after_push_all n columns) i d) x) (sym (pushed-at n columns j d inside)) (subst (λ x. AreDisjoint x (after_push e (n + j))) (sym (pushed-at n columns i d within)) both);
      };
      same_length = λ i j d before below.
          let inside : j < length columns = subst (λ m. j < m) (length-pushed n columns) below in
          let pair = are.same_length i j d before inside in
          let first = pushed-at n columns i d (omega (arith, before, inside)) in
          let second = pushed-at n columns j d inside in (
            ap (λ (c : Texts). c.size) first ∙ pair.0 ∙ sym (ap (λ (c : Texts). c.size) second),
            ap (λ (c : Texts). c.len) first ∙ ap (λ l. l + 1) pair.1 ∙ sym (ap (λ (c : Texts). c.len) second),
          );
    }
