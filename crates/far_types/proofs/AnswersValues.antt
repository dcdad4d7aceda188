-- How the count, the sum, the least and the greatest of values change with the list.
use Rattle.std.proofs.Common.{◌≡◌, ◌+◌, List, [], ◌∷◌, ◌++◌, length, refl, sym, ap, ◌∙◌, arith, length-append}
use Rattle.std.specs.Prelude.{ℤ, pos, ◌+ℤ◌}
use Rattle.std.specs.Int.{int_min, int_max}
use Rattle.std.proofs.lemmas.Int.{ints, int_min_is, int_max_is}
use Rattle.far_types.specs.Answers.{int_sum, picked, count_sum, min_max}
use Rattle.far_types.specs.Effects.{count_sum_with, min_max_with, add_count_sums, join_min_maxes}
use Rattle.far_types.proofs.AnswersGrouping.{if_any}

pub count_sum-cons : (v : ℤ) (vs : List ℤ) → count_sum (v ∷ vs) ≡ count_sum_with v (if_any vs (count_sum vs))
count_sum-cons v [] = let sum : v +ℤ pos 0 ≡ v = omega (arith, ints) in λ i. (1, sum i)
count_sum-cons v (w ∷ ws) =
    let count : length (v ∷ w ∷ ws) ≡ length (w ∷ ws) + 1 = omega arith in
    let sum : v +ℤ int_sum (w ∷ ws) ≡ int_sum (w ∷ ws) +ℤ v = omega (arith, ints) in
    λ i. (count i, sum i)

pub min_max-cons : (v : ℤ) (vs : List ℤ) → min_max (v ∷ vs) ≡ min_max_with v (if_any vs (min_max vs))
min_max-cons v [] = refl
min_max-cons v (w ∷ ws) = refl

int_sum-among : (vs : List ℤ) (v : ℤ) (ws : List ℤ) → int_sum (vs ++ v ∷ ws) ≡ int_sum (v ∷ (vs ++ ws))
int_sum-among [] v ws = refl
int_sum-among (x ∷ vs) v ws = ap (λ s. x +ℤ s) (int_sum-among vs v ws) ∙ swapped (int_sum (vs ++ ws)) where
  swapped : (s : ℤ) → x +ℤ (v +ℤ s) ≡ v +ℤ (x +ℤ s)
  swapped s = omega (arith, ints)

length-among : (vs : List ℤ) (v : ℤ) (ws : List ℤ) → length (vs ++ v ∷ ws) ≡ length (v ∷ (vs ++ ws))
length-among vs v ws = omega (arith, length-append vs (v ∷ ws), length-append vs ws)

pub count_sum-among : (vs : List ℤ) (v : ℤ) (ws : List ℤ) → count_sum (vs ++ v ∷ ws) ≡ count_sum (v ∷ (vs ++ ws))
count_sum-among vs v ws i = (length-among vs v ws i, int_sum-among vs v ws i)

int_sum-append : (vs ws : List ℤ) → int_sum (vs ++ ws) ≡ int_sum vs +ℤ int_sum ws
int_sum-append [] ws = omega (arith, ints)
int_sum-append (v ∷ vs) ws = let rest = int_sum-append vs ws in omega (arith, ints)

pub count_sum-append : (v : ℤ) (vs : List ℤ) (w : ℤ) (ws : List ℤ) → count_sum ((v ∷ vs) ++ (w ∷ ws)) ≡ add_count_sums (count_sum (v ∷ vs)) (count_sum (w ∷ ws))
count_sum-append v vs w ws i = (length-append (v ∷ vs) (w ∷ ws) i, int_sum-append (v ∷ vs) (w ∷ ws) i)

-- the picked value does not depend on the order of the values if `pick` commutes and associates
module _ (pick : ℤ → ℤ → ℤ) (commutes : (a b : ℤ) → pick a b ≡ pick b a) (associates : (a b c : ℤ) → pick (pick a b) c ≡ pick a (pick b c)) where
  swap : (a b : ℤ) (vs : List ℤ) → picked pick (a ∷ b ∷ vs) ≡ picked pick (b ∷ a ∷ vs)
  swap a b [] = commutes a b
  swap a b (v ∷ vs) = let rest = picked pick (v ∷ vs) in sym (associates a b rest) ∙ ap (λ x. pick x rest) (commutes a b) ∙ associates b a rest

  front : (x : ℤ) (vs : List ℤ) (v : ℤ) (ws : List ℤ) → picked pick (x ∷ (vs ++ v ∷ ws)) ≡ pick x (picked pick (vs ++ v ∷ ws))
  front x [] v ws = refl
  front x (w ∷ vs) v ws = refl

  pub picked-among : (vs : List ℤ) (v : ℤ) (ws : List ℤ) → picked pick (vs ++ v ∷ ws) ≡ picked pick (v ∷ (vs ++ ws))
  picked-among [] v ws = refl
  picked-among (x ∷ vs) v ws = front x vs v ws ∙ ap (pick x) (picked-among vs v ws) ∙ swap x v (vs ++ ws)

  pub picked-append : (v : ℤ) (vs : List ℤ) (w : ℤ) (ws : List ℤ) → picked pick ((v ∷ vs) ++ (w ∷ ws)) ≡ pick (picked pick (v ∷ vs)) (picked pick (w ∷ ws))
  picked-append v [] w ws = refl
  picked-append v (x ∷ vs) w ws = ap (pick v) (picked-append x vs w ws) ∙ sym (associates v (picked pick (x ∷ vs)) (picked pick (w ∷ ws)))

min-commutes : (a b : ℤ) → int_min a b ≡ int_min b a
min-commutes a b = omega (arith, ints, int_min_is a b, int_min_is b a)

min-associates : (a b c : ℤ) → int_min (int_min a b) c ≡ int_min a (int_min b c)
min-associates a b c = omega (arith, ints, int_min_is a b, int_min_is b c, int_min_is (int_min a b) c, int_min_is a (int_min b c))

max-commutes : (a b : ℤ) → int_max a b ≡ int_max b a
max-commutes a b = omega (arith, ints, int_max_is a b, int_max_is b a)

max-associates : (a b c : ℤ) → int_max (int_max a b) c ≡ int_max a (int_max b c)
max-associates a b c = omega (arith, ints, int_max_is a b, int_max_is b c, int_max_is (int_max a b) c, int_max_is a (int_max b c))

pub min_max-among : (vs : List ℤ) (v : ℤ) (ws : List ℤ) → min_max (vs ++ v ∷ ws) ≡ min_max (v ∷ (vs ++ ws))
min_max-among vs v ws i = (picked-among int_min min-commutes min-associates vs v ws i, picked-among int_max max-commutes max-associates vs v ws i)

pub min_max-append : (v : ℤ) (vs : List ℤ) (w : ℤ) (ws : List ℤ) → min_max ((v ∷ vs) ++ (w ∷ ws)) ≡ join_min_maxes (min_max (v ∷ vs)) (min_max (w ∷ ws))
min_max-append v vs w ws i = (picked-append int_min min-commutes min-associates v vs w ws i, picked-append int_max max-commutes max-associates v vs w ws i)
