-- How many local objects are not hot, after a word changes, is added or is removed.
use Rattle.std.proofs.Common.{◌≡◌, ℕ, ◌+◌, ◌-◌, ◌*◌, ◌≤◌, Bool, true, false, cond, inl, inr, List, [], ◌∷◌, ◌++◌, length, get_or, map, Some, refl, sym, ap, subst, ◌∙◌, arith}
use Rattle.std.specs.Prelude.{is_some, slice_get, slice_set}
use Rattle.std.specs.Option.{option_map_or, option_and_then}
use Rattle.std.proofs.lemmas.Option.{slice_get_within, get_or_from_slice_get}
use Rattle.std.proofs.lemmas.List.Sums.{sum_by-set, sum_by_push, sum_by-cons, sum_by-le, get_or-le-sum_by}
use Rattle.far_pointer.specs.declared.pointer.At.{At}
use Rattle.far_pointer.specs.declared.pointer.Pointer.{Pointer}
use Rattle.far_pointer.specs.declared.pointer.Pointer.TheVariants.{Local, Remote}
use Rattle.far_pointer.specs.Layout.{is_hot, with_hot, with_at}
use Rattle.far_scopes.specs.Memory.{at_of, place_of}
use Rattle.far_scopes.specs.Renewal.{renewed_word}
use Rattle.far_scopes.specs.Cool.{cool_of, cool_in}
use Rattle.far_scopes.proofs.MemoryPlaces.{cases_option}

-- the word of a hot object is not counted
pub none-hot : (word : Pointer) → cool_of (with_hot word true) ≡ 0
none-hot (Local at dirty hot far) = refl
none-hot Remote = refl

-- an object that moves is counted as before
pub same-moved : (word : Pointer) (to : At) → cool_of (with_at word to) ≡ cool_of word
same-moved (Local at dirty hot far) to = refl
same-moved Remote to = refl

-- an object that was hot is counted once it is no longer hot
pub more-cooled : (word : Pointer) (to : At) → cool_of (with_hot (with_at word to) false) ≡ cool_of word + cond (is_hot word) 1 0
more-cooled (Local at dirty true far) to = refl
more-cooled (Local at dirty false far) to = refl
more-cooled Remote to = refl

pub hot-at-most-one : (hot : Bool) → cond hot 1 0 ≤ 1
hot-at-most-one true = omega arith
hot-at-most-one false = omega arith

at-most-one : (word : Pointer) → cool_of word ≤ 1
at-most-one (Local at dirty true far) = omega arith
at-most-one (Local at dirty false far) = omega arith
at-most-one Remote = omega arith

-- the count is at most the number of words
pub cool-le-length : (words : List Pointer) → cool_in words ≤ length words
cool-le-length words = let h : cool_in words ≤ length words * 1 = sum_by-le cool_of 1 words (λ k d below. at-most-one (get_or words k d)) in omega arith

-- one word changes
module _ (words : List Pointer) (o : ℕ) (old : Pointer) (was : slice_get words o ≡ Some old) where
  read : get_or words o old ≡ old
  read = get_or_from_slice_get words o old old was

  pub cool-there : cool_of old ≤ cool_in words
  cool-there = subst (λ w. cool_of w ≤ cool_in words) read (get_or-le-sum_by cool_of words o old (slice_get_within words o old was))

  pub cool-set : (word : Pointer) → cool_in (slice_set words o word) + cool_of old ≡ cool_in words + cool_of word
  cool-set word = subst (λ w. cool_in (slice_set words o word) + cool_of w ≡ cool_in words + cool_of word) read (sum_by-set cool_of words o word old (slice_get_within words o old was))

  module _ (cool : ℕ) (is : cool ≡ cool_in words) where
    pub count-there : cool_of old ≤ cool
    count-there = omega (arith, cool-there)

    -- its object is then hot or away
    pub count-less : (word : Pointer) → cool_of word ≡ 0 → cool - cool_of old ≡ cool_in (slice_set words o word)
    count-less word none = omega (arith, cool-set word)

    -- its object is hot, cool or away as before, so the count stays
    pub count-same : (word : Pointer) → cool_of word ≡ cool_of old → cool ≡ cool_in (slice_set words o word)
    count-same word same = omega (arith, cool-set word)

-- a word that is not counted is added
pub count-pushed : (words : List Pointer) (word : Pointer) (cool : ℕ) → cool ≡ cool_in words → cool_of word ≡ 0 → cool ≡ cool_in (words ++ word ∷ [])
count-pushed words word cool is none = omega (arith, sum_by_push cool_of words word)

-- the last word is removed
module _ (words rest : List Pointer) (last : Pointer) (end : words ≡ rest ++ last ∷ []) (cool : ℕ) (is : cool ≡ cool_in words) where
  parts : cool_in words ≡ cool_in rest + cool_of last
  parts = ap cool_in end ∙ sum_by_push cool_of rest last

  pub count-last : cool_of last ≤ cool
  count-last = omega (arith, parts)

  pub count-popped : cool - cool_of last ≡ cool_in rest
  count-popped = omega (arith, parts)

same-renewed : (word : Pointer) → cool_of (renewed_word word) ≡ cool_of word
same-renewed (Local at dirty hot far) = refl
same-renewed Remote = refl

-- the far-copy bit does not change the count
pub cool-renewed : (words : List Pointer) → cool_in (map renewed_word words) ≡ cool_in words
cool-renewed [] = refl
cool-renewed (word ∷ words) = omega (arith, sum_by-cons cool_of (renewed_word word) (map renewed_word words), sum_by-cons cool_of word words, same-renewed word, cool-renewed words)

hot-here : (word : Pointer) → cool_of word ≡ 0 → is_some (at_of word) ≡ true → is_hot word ≡ true
hot-here (Local at dirty true far) none local = refl
hot-here (Local at dirty false far) none local = absurd (omega arith)
hot-here Remote none local = cc

-- if the count is 0, each local object is hot
pub all-hot : (words : List Pointer) (o : ℕ) → cool_in words ≡ 0 → is_some (place_of words o) ≡ true → option_map_or is_hot (slice_get words o) false ≡ true
all-hot words o none local = elim (cases_option (slice_get words o)) [
  | inl past ↦ absurd (let never : false ≡ true = sym (ap (λ w. is_some (option_and_then at_of w)) past) ∙ local in cc)
  | inr (word, is) ↦ ap (λ w. option_map_or is_hot w false) is ∙ hot-here word (omega (arith, cool-there words o word is)) (sym (ap (λ w. is_some (option_and_then at_of w)) is) ∙ local)
]
