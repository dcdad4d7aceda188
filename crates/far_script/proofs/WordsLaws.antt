-- The words of what is left of a line.
use Rattle.std.proofs.Common.{◌≡◌, ◌<◌, ◌≤◌, ℕ, Bool, true, false, List, [], ◌∷◌, Option, Some, None, length, nat_lt, not, ◌∙◌, refl, sym, ap, arith}
use Rattle.std.specs.List.{position_or_len, slice_split}
use Rattle.std.proofs.lemmas.List.{take_all}
use Rattle.std.proofs.lemmas.List.Splits.{slice_split_first}
use Rattle.std.proofs.lemmas.List.Sums.{prefix_len-le-length}
use Rattle.far_script.specs.Words.{is_space, word_of, rest_of, word_in, after, words_in}
use Rattle.far_script.proofs.PartLaws.{last-part}

-- the first word, and the others
is-below : (n m : ℕ) → nat_lt n m ≡ true → n < m
is-below n m h = grind (arith, h)

is-end : (n m : ℕ) → n ≤ m → nat_lt n m ≡ false → n ≡ m
is-end n m low h = grind (arith, h, low)

text-words-at : (b : Bool) (text : List ℕ) → nat_lt (position_or_len is_space text) (length text) ≡ b → slice_split is_space text ≡ word_of text ∷ words_in (rest_of text)
text-words-at true text h = rw h (slice_split_first is_space text 0 (is-below (position_or_len is_space text) (length text) h))
text-words-at false text h =
    let all = is-end (position_or_len is_space text) (length text) (prefix_len-le-length (λ c. not (is_space c)) text) h in
    rw h (last-part is_space text all ∙ ap (λ (first : List ℕ). first ∷ []) (sym (take_all (position_or_len is_space text) text (omega (arith, all)))))

text-words : (text : List ℕ) → slice_split is_space text ≡ word_of text ∷ words_in (rest_of text)
text-words text = text-words-at (nat_lt (position_or_len is_space text) (length text)) text refl

some-same : (f g : List ℕ) → Some f ≡ Some g → f ≡ g
some-same f g h = cc h

pub some-word : (left : Option (List ℕ)) (word : List ℕ) → word_in left ≡ Some word → words_in left ≡ word ∷ words_in (after left)
some-word None word h = cc h
some-word (Some text) word h = text-words text ∙ ap (λ (first : List ℕ). first ∷ words_in (rest_of text)) (some-same (word_of text) word h)

pub no-word : (left : Option (List ℕ)) → word_in left ≡ None → words_in left ≡ []
no-word None h = refl
no-word (Some text) h = cc h
