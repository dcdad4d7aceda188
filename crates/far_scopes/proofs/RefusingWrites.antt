-- Listed objects that are counted as written, one after another.
use Rattle.std.proofs.Common.{◌≡◌, ◌≢◌, ℕ, ◌+◌, ◌<◌, ◌≤◌, get_or, true, false, inl, inr, List, ◌∷◌, length, drop, Some, None, refl, sym, ap, ◌∙◌}
use Rattle.std.specs.Prelude.{not, All, slice_get, option_map}
use Rattle.std.specs.Option.{option_map_or, option_and_then}
use Rattle.std.proofs.lemmas.Bool.{cases_eq, lt-ltb, le-ltb}
use Rattle.std.proofs.lemmas.List.{drop_more}
use Rattle.std.proofs.lemmas.List.Elements.{All-tail, All-cons}
use Rattle.far_pointer.specs.declared.pointer.Pointer.{Pointer}
use Rattle.far_pointer.specs.Layout.{is_dirty, with_dirty, with_hot}
use Rattle.far_scopes.specs.declared.object_record.ObjectRecord.{ObjectRecord}
use Rattle.far_scopes.specs.declared.replacement.Replacement.{Replacement}
use Rattle.far_scopes.specs.Movement.{Movement, word_of, record_of, dirty, list_of, meant}
use Rattle.far_scopes.specs.Refusing.{written_out, write_refusal}
use Rattle.far_scopes.specs.Replacing.{AreListedOnce, AreCleanElsewhere}
use Rattle.far_scopes.specs.Effects.{after_write}
use Rattle.far_scopes.proofs.MemoryPlaces.{cases_option}
use Rattle.far_scopes.proofs.MemoryWordPlaces.{slice_get-set_other}
use Rattle.far_scopes.proofs.MemoryLaws.{at-dirty_hot}
use Rattle.far_scopes.proofs.MovementTransitions.{words-other}
use Rattle.far_scopes.proofs.ReplacingRecords.{once-head}

-- the next element of a list in a loop
pub next-is : {A : Type 0} (xs : List A) (i : ℕ) (x : A) → i < length xs → x ≡ get_or xs i x → drop i xs ≡ x ∷ drop (i + 1) xs
next-is xs i x lt read = drop_more xs i x lt ∙ ap (λ y. y ∷ drop (i + 1) xs) (sym read)

-- whether the writes of an object are used up
module _ {X K : Type 0} (m : Movement X K) (o : ℕ) (object_record : ObjectRecord K) (was : record_of m o ≡ Some object_record) where
  pub used-up : m.max_writes ≤ object_record.version → (written_out m o).0 ≡ true
  used-up le = rw was (ap not (le-ltb object_record.version m.max_writes le))

  pub left-over : object_record.version < m.max_writes → (written_out m o).0 ≡ false
  left-over lt = rw was (ap not (lt-ltb object_record.version m.max_writes lt))

module _ {X K : Type 0} (m new : Movement X K) (o : ℕ) (is : new ≡ after_write m o) where
  word-other : (p : ℕ) → p ≢ o → word_of new p ≡ word_of m p
  word-other p ne = ap (λ k. word_of k p) is ∙ words-other m.memory o (λ (w : Pointer). with_hot (with_dirty w) true) at-dirty_hot p ne

  object_record-other : (p : ℕ) → p ≢ o → record_of new p ≡ record_of m p
  object_record-other p ne = ap (λ k. record_of k p) is ∙ elim (cases_option (slice_get m.records o)) [
    | inl none ↦ rw none refl
    | inr (object_record, there) ↦ rw there (slice_get-set_other m.records o p record object_record { version = object_record.version + 1 } ne)
  ]

  -- another object may be written as before
  pub refusal-other : (p : ℕ) → p ≢ o → write_refusal new p ≡ write_refusal m p
  refusal-other p ne = rw (word-other p ne, object_record-other p ne, ap (λ k. k.max_writes) is) refl

  module _ (r : Replacement X) (rs : List (Replacement X)) (item : o ≡ r.object) where
    pub free-rest : AreListedOnce (r ∷ rs) → All (λ s. write_refusal m s.object ≡ None) (r ∷ rs) → All (λ s. write_refusal new s.object ≡ None) rs
    free-rest once free k d lt =
        refusal-other _ (λ e. once-head r rs once k d lt (sym (e ∙ item))) ∙ All-tail (λ (s : Replacement X). write_refusal m s.object ≡ None) r rs free k d lt

    pub clean-rest : (meaning : List ℕ → List X) (content : K → List ℕ) → dirty new o ≡ true → ((p : ℕ) → list_of meaning content new p ≡ list_of meaning content m p)
        → AreCleanElsewhere meaning content m (r ∷ rs) → AreCleanElsewhere meaning content new rs
    clean-rest meaning content marked lists clean p un c = elim (cases_eq p o) [
      | inl same ↦ absurd (let never = sym marked ∙ ap (dirty new) (sym same) ∙ c in cc)
      | inr ne ↦ lists p
          ∙ clean p (All-cons (λ (s : Replacement X). p ≢ s.object) r rs (λ e. ne (e ∙ sym item)) un) (ap (λ w. option_map_or is_dirty w false) (sym (word-other p ne)) ∙ c)
          ∙ ap (λ e. option_map (meant meaning content) (option_and_then (λ (x : ObjectRecord K). x.ticket) e)) (sym (object_record-other p ne))
    ]
