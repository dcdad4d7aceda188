-- The last four items of a list, one by one.
use Rattle.std.proofs.Common.{◌≡◌, ℕ, ◌+◌, ◌-◌, ◌<◌, ◌≤◌, suc, zero, List, [], ◌∷◌, length, get_or, length-drop, drop, refl, ap, sym, ◌∙◌, Some, None, Option, arith, nat_lt, if◌then◌else◌}
use Rattle.std.specs.Prelude.{slice_get, ◌++◌}
use Rattle.std.specs.Option.{option_to_list}
use Rattle.std.specs.List.{cons_option}
use Rattle.circular_buffer.specs.Buffer.{keep_last}
use Rattle.far_prefetcher.specs.Strides.{difference, is_stride, next_two, proposed, proposed_after}
use Rattle.std.proofs.lemmas.Bool.Decides.{nat_tests}
use Rattle.std.proofs.Math.ListN.{drop_of_length-le}

module _ {X : Type 0} where
  -- the item that is k before the last one
  abbrev from_back : List X → ℕ → Option X
  from_back xs k = if nat_lt k (length xs) then slice_get xs (length xs - k - 1) else None

  -- the rest of a list from an item on begins with that item
  drop-here : (xs : List X) (i : ℕ) (x : X) → slice_get xs i ≡ Some x → drop i xs ≡ x ∷ drop (suc i) xs
  drop-here [] i x h = cc
  drop-here (y ∷ ys) zero x h = cc
  drop-here (y ∷ ys) (suc i) x h = drop-here ys i x h

  -- only a list that is long enough has such an item
  from_back-within : (xs : List X) (k : ℕ) (x : X) → from_back xs k ≡ Some x → k < length xs
  from_back-within xs k x h = grind (arith, nat_tests)

  -- the item that is k before the last one is at this index
  from_back-get : (xs : List X) (k : ℕ) (x : X) → from_back xs k ≡ Some x → slice_get xs (length xs - k - 1) ≡ Some x
  from_back-get xs k x h = grind (arith, nat_tests)

  -- the last k + 1 items are this item and the k items after it
  from_back-drop : (xs : List X) (k : ℕ) (x : X) → from_back xs k ≡ Some x → keep_last (k + 1) xs ≡ x ∷ keep_last k xs
  from_back-drop xs k x h =
      let within : k < length xs = from_back-within xs k x h in
      let here : length xs - (k + 1) ≡ length xs - k - 1 = omega arith in
      let after : suc (length xs - k - 1) ≡ length xs - k = omega arith in
      ap (λ i. drop i xs) here ∙ drop-here xs (length xs - k - 1) x (from_back-get xs k x h) ∙ ap (λ i. x ∷ drop i xs) after

  -- the four items counted from the back are the last four
  pub last_four : (xs : List X) (a b c d : X) → from_back xs 3 ≡ Some a → from_back xs 2 ≡ Some b → from_back xs 1 ≡ Some c → from_back xs 0 ≡ Some d → (4 ≤ length xs) × (keep_last 4 xs ≡ a ∷ b ∷ c ∷ d ∷ [])
  last_four xs a b c d ha hb hc hd =
      let within : 3 < length xs = from_back-within xs 3 a ha in
      let none_after : keep_last 0 xs ≡ [] = drop_of_length-le xs (omega arith) in (
        omega arith,
        from_back-drop xs 3 a ha
            ∙ ap (λ rest. a ∷ rest) (from_back-drop xs 2 b hb)
            ∙ ap (λ rest. a ∷ b ∷ rest) (from_back-drop xs 1 c hc)
            ∙ ap (λ rest. a ∷ b ∷ c ∷ rest) (from_back-drop xs 0 d hd)
            ∙ ap (λ rest. a ∷ b ∷ c ∷ d ∷ rest) none_after,
      )

-- a list of four items is its items
as_four : (xs : List ℕ) → length xs ≡ 4 → xs ≡ get_or xs 0 0 ∷ get_or xs 1 0 ∷ get_or xs 2 0 ∷ get_or xs 3 0 ∷ []
as_four [] h = absurd (omega arith)
as_four (a ∷ []) h = absurd (omega arith)
as_four (a ∷ b ∷ []) h = absurd (omega arith)
as_four (a ∷ b ∷ c ∷ []) h = absurd (omega arith)
as_four (a ∷ b ∷ c ∷ d ∷ []) h = refl
as_four (a ∷ b ∷ c ∷ d ∷ e ∷ es) h = absurd (omega arith)

-- the proposals, written with the last four groups one by one
pub proposed_by_four :
    (groups : ℕ) (history four : List ℕ) → 4 ≤ length history → keep_last 4 history ≡ four
    → proposed groups history ≡ (if is_stride (difference (get_or four 0 0) (get_or four 1 0)) (difference (get_or four 1 0) (get_or four 2 0)) (difference (get_or four 2 0) (get_or four 3 0)) then next_two groups (get_or four 2 0) (get_or four 3 0) else [])
proposed_by_four groups history four h e =
    let len : length four ≡ 4 = ap length (sym e) ∙ length-drop (length history - 4) history ∙ omega arith in
    ap (proposed_after groups) (e ∙ as_four four len)

-- the items of two options, one after another
pub two_options : (a b : Option ℕ) → ([] ++ option_to_list a) ++ option_to_list b ≡ cons_option a (cons_option b [])
two_options None None = refl
two_options None (Some y) = refl
two_options (Some x) None = refl
two_options (Some x) (Some y) = refl
