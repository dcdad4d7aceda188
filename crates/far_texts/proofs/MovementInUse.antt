-- An object that has a list is in use.
use Rattle.std.proofs.Common.{◌≡◌, ℕ, ◌<◌, ◌≤◌, List, length, None, Some, inl, inr, sym, ap, ◌∙◌, arith}
use Rattle.std.specs.Prelude.{option_map, slice_get}
use Rattle.std.specs.Option.{option_and_then, option_or}
use Rattle.std.proofs.lemmas.Option.{slice_get_past, none-some}
use Rattle.std.proofs.lemmas.Bool.{cases_lt}
use Rattle.far_scopes.specs.Memory.{at_of}
use Rattle.far_log.specs.RegionState.{part_of}
use Rattle.far_scopes.specs.Movement.{Movement, AreTracked, list_of, ticket_of, meant}

module _ {X K : Type 0} (meaning : List ℕ → List X) (content : K → List ℕ) (spelled : List X → List ℕ → Type 0) (m : Movement X K) (tracked : AreTracked meaning content spelled m) where
  -- past the last object there is no list
  pub no-list : (o : ℕ) → length m.records ≤ o → list_of meaning content m o ≡ None
  no-list o past =
      let no_word : slice_get m.memory.words o ≡ None = slice_get_past m.memory.words o (omega (arith, tracked.same_length)) in
      let no_record : slice_get m.records o ≡ None = slice_get_past m.records o past in
      ap (λ word. option_or (option_and_then (part_of m.memory.state) (option_and_then at_of word)) (option_map (meant meaning content) (ticket_of m o))) no_word
      ∙ ap (λ object_record. option_map (meant meaning content) (option_and_then (λ e. e.ticket) object_record)) no_record

  pub in-use : (o : ℕ) (list : List X) → list_of meaning content m o ≡ Some list → o < length m.records
  in-use o list here = elim (cases_lt o (length m.records)) [
    | inl within ↦ within
    | inr past ↦ absurd (none-some list (sym (no-list o past) ∙ here))
  ]
