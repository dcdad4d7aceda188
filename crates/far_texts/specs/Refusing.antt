-- When calls on a column of texts are refused.
use Rattle.std.specs.Prelude.{ℕ, nat_lt, not, if◌then◌else◌, Bool, List, [], ◌∷◌, length, Option}
use Rattle.far_types.specs.declared.refusal.Refusal.{Refusal}
use Rattle.far_types.specs.declared.refusal.Refusal.TheVariants as refusal
use Rattle.far_types.specs.FirstOf.{first_of}
use Rattle.far_types.specs.FormLengths.{texts_length}
use Rattle.far_codec.specs.TextForm.{bytes_of}
use Rattle.far_scopes.specs.Movement.{Movement}
use Rattle.far_scopes.specs.Refusing.{absent, no_space, written_out}
use Rattle.far_texts.specs.Texts.{Texts, lists_of, object_at}
use Rattle.far_texts.specs.Effects.{begins_group, last_object, group_with, group_with_next}

-- a text has more than 4,096 bytes
abbrev pub text_too_long : Option (List ℕ) → Bool × Refusal
text_too_long text = (nat_lt 4096 (length (bytes_of text)), refusal.TextTooLong)

-- the form of these texts would be longer than the column's limit
abbrev pub chunk_full : Texts → List (Option (List ℕ)) → Bool × Refusal
chunk_full c texts = (nat_lt c.limit (texts_length texts), refusal.ChunkFull)

-- the place is past the end
abbrev pub past_end : Texts → ℕ → Refusal → Bool × Refusal
past_end c place e = (not (nat_lt place c.len), e)

module _ {K : Type 0} (content : K → List ℕ) (m : Movement ℕ K) (c : Texts) where
  -- why reading the text at a place is refused (`text`)
  abbrev pub text_refusal : ℕ → Option Refusal
  text_refusal place =
      first_of (past_end c place refusal.NoRow ∷ absent m (object_at c place) ∷ [])

  -- why computing the length of a form with another text is refused (`form_length_with`)
  abbrev pub length_refusal : ℕ → Option Refusal
  length_refusal place =
      first_of (past_end c place refusal.OutOfRange ∷ absent m (object_at c place) ∷ [])

  -- why computing the length of a form with the next text is refused (`form_length_with_next`)
  abbrev pub next_length_refusal : Option Refusal
  next_length_refusal = first_of (if begins_group c then [] else absent m (last_object c) ∷ [])

  -- why setting the text at a place is refused (`set`)
  abbrev pub set_refusal : ℕ → Option (List ℕ) → Option Refusal
  set_refusal place text =
      let o : ℕ = object_at c place in
      let texts : List (Option (List ℕ)) = group_with (lists_of content m) c place text
      in first_of (text_too_long text
      ∷ past_end c place refusal.OutOfRange
      ∷ absent m o
      ∷ chunk_full c texts
      ∷ no_space m o (texts_length texts)
      ∷ written_out m o
      ∷ [])

  -- why appending a text is refused (`push`)
  abbrev pub push_refusal : Option (List ℕ) → Option Refusal
  push_refusal text =
      let o : ℕ = last_object c in
      let texts : List (Option (List ℕ)) = group_with_next (lists_of content m) c text in
      let full : Bool × Refusal = chunk_full c texts in
      let space : Bool × Refusal = no_space m o (texts_length texts)
      in first_of (if begins_group c
      then text_too_long text ∷ full ∷ space ∷ []
      else text_too_long text ∷ absent m o ∷ full ∷ space ∷ written_out m o ∷ [])
