-- Lists of numbers, none of which is missing.
use Rattle.std.proofs.Common.{◌≡◌, ℕ, Bool, true, false, eqb, cond, ℤ, pos, List, [], ◌∷◌, ◌++◌, length, get_or, map, Option, None, Some, FitsSigned, refl, sym, ap, ◌∙◌}
use Rattle.std.specs.Prelude.{is_none, is_some, not, IfSome}
use Rattle.std.specs.Int.{w32, w64, to_le_bytes}
use Rattle.std.specs.List.{list_any, flat_map, AllByRecursion}
use Rattle.std.specs.Option.{option_map_or}
use Rattle.std.proofs.lemmas.List.{length-map}
use Rattle.far_codec.specs.FarForm.{some_missing, head, number_bytes, ints_form}
use Rattle.far_codec.specs.PlainNumbers.{IsThere}
use Rattle.far_codec.specs.PlainLaws.{plain_head}
use Rattle.far_codec.proofs.FarFormNumbers.{ints_form_is}
use Rattle.far_codec.proofs.FarFormMaskBytes.{flags_in, missing_any}

-- the numbers, with 0 for a missing one
abbrev pub values_of : List (Option ℤ) → List ℤ
values_of numbers = map (λ number. option_map_or (λ x. x) number (pos 0)) numbers

pub all_there : (numbers : List (Option ℤ)) → list_any is_none numbers ≡ false → numbers ≡ map Some (values_of numbers)
all_there [] none = refl
all_there (None ∷ numbers) none = absurd cc
all_there (Some x ∷ numbers) none = ap (λ l. Some x ∷ l) (all_there numbers none)

pub none_missing : (numbers : List (Option ℤ)) → AllByRecursion IsThere numbers → list_any is_none numbers ≡ false
none_missing [] there = refl
none_missing (None ∷ numbers) there = absurd there.0
none_missing (Some x ∷ numbers) there = none_missing numbers there.1

pub values_fit : (numbers : List (Option ℤ)) → AllByRecursion IsThere numbers → AllByRecursion (FitsSigned w64) (values_of numbers)
values_fit [] there = tt
values_fit (None ∷ numbers) there = absurd there.0
values_fit (Some x ∷ numbers) there = (there.0, values_fit numbers there.1)

pub numbers_fit : (numbers : List (Option ℤ)) → AllByRecursion IsThere numbers → AllByRecursion (λ number. IfSome number (FitsSigned w64)) numbers
numbers_fit [] there = tt
numbers_fit (None ∷ numbers) there = absurd there.0
numbers_fit (Some x ∷ numbers) there = (there.0, numbers_fit numbers there.1)

-- one number that is not missing
pub is_there : (number : Option ℤ) (missing : Bool) → is_some number ≡ not missing → missing ≡ false → IfSome number (FitsSigned w64) → IsThere number
is_there None missing is there fits = absurd cc
is_there (Some x) missing is there fits = fits

pub tells_none : (number : Option ℤ) (missing : Bool) → is_some number ≡ not missing → is_none number ≡ missing
tells_none None true is = refl
tells_none None false is = absurd cc
tells_none (Some x) true is = absurd cc
tells_none (Some x) false is = refl

-- the words of plain numbers
pub words_of_values : (numbers : List ℤ) → map number_bytes (map Some numbers) ≡ map (λ x. number_bytes (Some x)) numbers
words_of_values [] = refl
words_of_values (x ∷ numbers) = ap (λ l. number_bytes (Some x) ∷ l) (words_of_values numbers)

-- a head without a mask, followed by the words, is the form
pub present_form : (numbers : List (Option ℤ)) → AllByRecursion IsThere numbers → 1 ∷ 0 ∷ to_le_bytes w32 (length numbers) ++ flat_map number_bytes numbers ≡ ints_form numbers
present_form numbers there =
    let none : list_any (λ missing. missing) (flags_in numbers) ≡ false = sym (missing_any numbers) ∙ none_missing numbers there in
    ap (λ n. 1 ∷ 0 ∷ to_le_bytes w32 n ++ flat_map number_bytes numbers) (sym (length-map numbers is_none))
    ∙ ap (λ front. front ++ flat_map number_bytes numbers) (sym (plain_head 0 (flags_in numbers) none))
    ∙ sym (ints_form_is numbers)

tells_two : (b : Bool) → eqb (cond b 2 1) 2 ≡ b
tells_two true = refl
tells_two false = refl

first_byte : (numbers : List (Option ℤ)) → get_or (ints_form numbers) 0 0 ≡ cond (some_missing (flags_in numbers)) 2 1
unfolding ints_form head
first_byte numbers = refl

-- the first byte of a form says whether a number is missing
pub form_tells : (bytes : List ℕ) (numbers : List (Option ℤ)) → bytes ≡ ints_form numbers → eqb (get_or bytes 0 0) 2 ≡ list_any is_none numbers
form_tells bytes numbers e =
    ap (λ l. eqb (get_or l 0 0) 2) e
    ∙ ap (λ n. eqb n 2) (first_byte numbers)
    ∙ tells_two (some_missing (flags_in numbers))
    ∙ sym (missing_any numbers)
