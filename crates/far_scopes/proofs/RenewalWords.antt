-- The words of objects after they lost their far copies.
use Rattle.std.proofs.Common.{◌≡◌, ℕ, zero, suc, ◌<◌, ◌≤◌, ◌++◌, take, drop, get_or, List, [], ◌∷◌, length, map, IsSome, refl, ap, arith}
use Rattle.std.specs.Prelude.{slice_set}
use Rattle.std.specs.Option.{option_and_then}
use Rattle.std.proofs.lemmas.List.{take_all, drop_all, append-nil}
use Rattle.far_pointer.specs.declared.pointer.Pointer.{Pointer}
use Rattle.far_pointer.specs.declared.pointer.Pointer.TheVariants.{Local, Remote}
use Rattle.far_log.specs.RegionState.{RegionState, part_of}
use Rattle.far_scopes.specs.Memory.{Memory, at_of, place_of, list_in, IsMemory}
use Rattle.far_scopes.specs.Renewal.{renewed_word, renewed_memory}
use Rattle.far_scopes.proofs.MemoryPlaces.{some_of, own-same}

at-renewed : (word : Pointer) → at_of (renewed_word word) ≡ at_of word
at-renewed (Local at dirty hot far) = refl
at-renewed Remote = refl

pub place-renewed : (words : List Pointer) (o : ℕ) → place_of (map renewed_word words) o ≡ place_of words o
place-renewed [] o = refl
place-renewed (word ∷ words) zero = at-renewed word
place-renewed (word ∷ words) (suc o) = place-renewed words o

pub list-renewed : {X : Type 0} (memory : Memory X) (o : ℕ) → list_in (renewed_memory memory) o ≡ list_in memory o
list-renewed memory o = ap (option_and_then (part_of memory.state)) (place-renewed memory.words o)

-- each local object keeps its location
pub memory-renewed : {X : Type 0} (words : List Pointer) (state : RegionState X) → IsMemory words state → IsMemory (map renewed_word words) state
memory-renewed words state is = record { region = is.region; own = own-same (place_of words) (place_of (map renewed_word words)) (part_of state) (part_of state) is.own (place-renewed words) (λ at there. there) (λ at there. there) }

-- each local object has a list at its location
pub list-placed : {X : Type 0} (words : List Pointer) (state : RegionState X) → IsMemory words state → (o : ℕ) → IsSome (place_of words o) → IsSome (option_and_then (part_of state) (place_of words o))
list-placed words state is o there =
    let (at, at-is) = some_of (place_of words o) there in
    rw at-is (is.own.placed o at at-is)

-- the words during the loop: the first i words are renewed
module _ (words : List Pointer) where
  abbrev pub renewed_before : ℕ → List Pointer
  renewed_before i = map renewed_word (take i words) ++ drop i words

pub renewed-read : (words : List Pointer) (i : ℕ) (d : Pointer) → get_or (renewed_before words i) i d ≡ get_or words i d
renewed-read [] zero d = refl
renewed-read [] (suc i) d = refl
renewed-read (word ∷ words) zero d = refl
renewed-read (word ∷ words) (suc i) d = renewed-read words i d

pub renewed-more : (words : List Pointer) (i : ℕ) (d : Pointer) → i < length words → slice_set (renewed_before words i) i (renewed_word (get_or words i d)) ≡ renewed_before words (suc i)
renewed-more [] i d within = absurd (omega (arith, within))
renewed-more (word ∷ words) zero d within = refl
renewed-more (word ∷ words) (suc i) d within = ap (λ l. renewed_word word ∷ l) (renewed-more words i d (omega (arith, within)))

pub renewed-all : (words : List Pointer) (i : ℕ) → length words ≤ i → renewed_before words i ≡ map renewed_word words
renewed-all words i all = rw (take_all i words all, drop_all i words all) (append-nil (map renewed_word words))
