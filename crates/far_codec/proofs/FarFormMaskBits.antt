-- A mask has a bit exactly where a value is missing.
use Rattle.std.proofs.Common.{◌≡◌, ℕ, suc, ◌+◌, ◌*◌, Bool, false, List, [], ◌∷◌, length, get_or, take, drop, refl, sym, ap, ◌∙◌, arith, inl, inr}
use Rattle.std.specs.List.{list_any}
use Rattle.std.proofs.lemmas.Bool.{cases_Bool, cases_lt, false≢true}
use Rattle.std.proofs.lemmas.List.{get_or_past, get_or_default, length-take}
use Rattle.std.proofs.lemmas.List.Folds.{list_any_none}
use Rattle.far_codec.specs.FarForm.{mask_byte, mask_bytes, some_missing}
use Rattle.far_codec.specs.Reading.{flags_of}
use Rattle.far_codec.specs.MaskLaws.{bit, flag_of_part, masked, mask_byte_at, length-mask_bytes, no_flag}
use Rattle.far_codec.proofs.ReadingMasks.{is_set, flags_again, no_bit}

-- the mask byte is 0 if no flag is set
zero_byte : (flags : List Bool) → ((j : ℕ) → get_or flags j false ≡ false) → mask_byte flags ≡ 0
zero_byte [] none = refl
zero_byte (b ∷ flags) none = omega (arith, ap bit (none 0), zero_byte flags (λ j. none (suc j)))

none_in_part : (flags : List Bool) (k j : ℕ) → some_missing flags ≡ false → get_or (take 8 (drop (8 * k) flags)) j false ≡ false
none_in_part flags k j none =
    elim (cases_lt j 8) [
      | inl small ↦ flag_of_part flags k j small ∙ no_flag flags (8 * k + j) none
      | inr past ↦ get_or_past (take 8 (drop (8 * k) flags)) j false (omega (arith, length-take 8 (drop (8 * k) flags)))
    ]

no_byte : (flags : List Bool) → some_missing flags ≡ false → list_any is_set (mask_bytes flags) ≡ false
no_byte flags none = list_any_none is_set (mask_bytes flags) (λ k d h.
    ap is_set (get_or_default (mask_bytes flags) k d 0 h ∙ mask_byte_at flags k (omega (arith, length-mask_bytes flags)) ∙ zero_byte (take 8 (drop (8 * k) flags)) (λ j. none_in_part flags k j none)))

-- a mask has a bit exactly if a value is missing
pub bytes_tell : (flags : List Bool) → list_any is_set (mask_bytes flags) ≡ some_missing flags
bytes_tell flags =
    elim (cases_Bool (some_missing flags)) [
      | inr none ↦ no_byte flags none ∙ sym none
      | inl any ↦
          elim (cases_Bool (list_any is_set (mask_bytes flags))) [
            | inl set ↦ set ∙ sym any
            | inr zeros ↦
                let again : flags_of (mask_bytes flags) (length flags) ≡ flags = ap (λ m. flags_of m (length flags)) (sym (masked flags any)) ∙ flags_again flags in
                absurd (false≢true (sym (no_bit (mask_bytes flags) (length flags) zeros) ∙ ap some_missing again ∙ any))
          ]
    ]
