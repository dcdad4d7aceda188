-- A number that is not found after a place of a list differs from each number there.
use Rattle.std.proofs.Common.{◌≡◌, ◌≢◌, ℕ, ◌+◌, ◌-◌, ◌<◌, ◌≤◌, List, length, get_or, take, drop, false, eqb, sym, ap, ◌∙◌, arith, length-take, length-drop, get_or-take, get_or-drop}
use Rattle.std.proofs.lemmas.Bool.{eq-eqb, false≢true}
use Rattle.std.proofs.lemmas.List.{get_or_default}

pub not-behind : (xs : List ℕ) (at i j d : ℕ) → at < length xs → i < at + 1 → at ≤ i → i < j → j < length xs
    → ((k e : ℕ) → 0 ≤ k → k < length (take (length xs - (at + 1)) (drop (at + 1) xs)) → eqb (get_or (take (length xs - (at + 1)) (drop (at + 1) xs)) k e) (get_or xs at 0) ≡ false) → get_or xs i d ≢ get_or xs j d
not-behind xs at i j d within lt le distinct end differs same =
    let k : ℕ = j - (at + 1) in
    let here : at + 1 + k ≡ j = omega arith in
    let i-is : i ≡ at = omega arith in
    let read : get_or (take (length xs - (at + 1)) (drop (at + 1) xs)) k d ≡ get_or xs j d = get_or-take (length xs - (at + 1)) (drop (at + 1) xs) k d (omega arith) ∙ get_or-drop (at + 1) xs k d ∙ ap (λ n. get_or xs n d) here in
    let no = differs k d (omega arith) (omega (arith, length-take (length xs - (at + 1)) (drop (at + 1) xs), length-drop (at + 1) xs)) in
    let yes = eq-eqb (get_or (take (length xs - (at + 1)) (drop (at + 1) xs)) k d) (get_or xs at 0) (read ∙ sym same ∙ ap (λ n. get_or xs n d) i-is ∙ get_or_default xs at d 0 within) in
    false≢true (sym no ∙ yes)
