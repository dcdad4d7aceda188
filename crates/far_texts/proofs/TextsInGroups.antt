-- The texts of a row group are the texts that its object's list encodes.
use Rattle.std.proofs.Common.{◌≡◌, ℕ, suc, inl, inr, ◌+◌, ◌*◌, ◌<◌, ◌≤◌, List, [], ◌∷◌, ◌++◌, length, get_or, take, drop, Option, Some, refl, sym, ap, subst, ◌∙◌, arith}
use Rattle.std.specs.Prelude.{slice_get}
use Rattle.std.specs.List.{flat_map}
use Rattle.std.proofs.lemmas.Bool.{cases_eq}
use Rattle.std.proofs.lemmas.List.{append-nil, take-append-le, take_all, drop_all}
use Rattle.std.proofs.lemmas.Option.{slice_get-get_or, slice_get_within}
use Rattle.std.proofs.Math.Seq.{drop-append_seam, take-set-lt}
use Rattle.std.proofs.lemmas.List.{drop-set-add}
use Rattle.std.proofs.lemmas.Nat.{div-add-mod', mod_below}
use Rattle.far_texts.specs.Effects.{group_with, group_with_next, begins_group}
use Rattle.std.proofs.Common.{set, ◌/◌, ◌%◌, ◌-◌, Bool, true, false}
use Rattle.std.specs.Prelude.{slice_set, if◌then◌else◌}
use Rattle.std.proofs.lemmas.Bool.{cases_lt, eqb-true}
use Rattle.std.proofs.lemmas.List.{drop-append-le, length-append, length-drop}
use Rattle.std.proofs.lemmas.Nat.{div_below, le-div}
use Rattle.std.proofs.Math.Nat.{mul-div_cancel}
use Rattle.far_texts.proofs.TextsSpace.{not-full, some-group}
use Rattle.far_types.specs.Table.{in_group}
use Rattle.far_texts.specs.Texts.{Texts, Lists, HasGroups, IsTextColumn, texts_at, texts_in}
use Rattle.far_texts.proofs.Joined.{length-before, joined-changed}
use Rattle.far_texts.proofs.TextsGroups.{group-form, group-full, place-begun, texts-length}

-- list g begins after g lists of one length
cut-out : {X : Type 0} (f : ℕ → List X) (os : List ℕ) (size g : ℕ) → g < length os → ((h : ℕ) → h < g → length (f (get_or os h 0)) ≡ size) → drop (g * size) (flat_map f os) ≡ f (get_or os g 0) ++ flat_map f (drop (suc g) os)
cut-out f os size g within full =
    let front = flat_map f (take g os) in
    let before : length front ≡ g * size = length-before f os size g (omega arith) full in
    ap (λ n. drop n (flat_map f os)) (sym before)
    ∙ ap (drop (length front)) (joined-changed f f os g within (λ k below disjoint. refl))
    ∙ drop-append_seam front (f (get_or os g 0) ++ flat_map f (drop (suc g) os))

-- the first `size` elements are the first list, if it has that length, or if it is shorter and nothing follows
taken-alone : {X : Type 0} (size : ℕ) (list back : List X) → length list ≤ size → back ≡ [] → take size (list ++ back) ≡ list
taken-alone size list back short none = ap (λ l. take size (list ++ l)) none ∙ ap (take size) (append-nil list) ∙ take_all size list short

taken-first : {X : Type 0} (size : ℕ) (list back : List X) → length list ≡ size → take size (list ++ back) ≡ list
taken-first size list back long = take-append-le size list back (omega (arith, long)) ∙ take_all size list (omega (arith, long))

pub texts-of-group : (lists : Lists) (c : Texts) (g o : ℕ) → HasGroups c → IsTextColumn lists c → slice_get c.objects g ≡ Some o → texts_at lists o ≡ in_group c.size g (texts_in lists c)
texts-of-group lists c g o has is here =
    let os = c.objects in
    let f = texts_at lists in
    let within : g < length os = slice_get_within os g o here in
    let same : get_or os g 0 ≡ o = let found = slice_get-get_or os g 0 within in let both = sym found ∙ here in cc in
    let list = f (get_or os g 0) in
    let back = flat_map f (drop (suc g) os) in
    let cut = cut-out f os c.size g within (λ h below. group-full lists c is has h (omega arith)) in
    let count = (group-form lists c is g within).count in
    let first_part : take c.size (list ++ back) ≡ list = elim (cases_eq (suc g) (length os)) [
      | inl last ↦ taken-alone c.size list back (omega (arith, count)) (ap (flat_map f) (drop_all (suc g) os (omega (arith, last))))
      | inr more ↦ taken-first c.size list back (group-full lists c is has g (omega (arith, within, more)))
    ] in
    ap f (sym same) ∙ sym first_part ∙ ap (take c.size) (sym cut)

pub group-with-text : (lists : Lists) (c : Texts) (place : ℕ) (text : Option (List ℕ)) → HasGroups c → IsTextColumn lists c → place < c.len → group_with lists c place text ≡ in_group c.size (place / c.size) (slice_set (texts_in lists c) place text)
group-with-text lists c place text has is below =
    let g = place / c.size in
    let i = place % c.size in
    let o = get_or c.objects g 0 in
    let group = texts-of-group lists c g o has is (slice_get-get_or c.objects g 0 (place-begun lists c is has place below)) in
    ap (λ l. set l i text) group
    ∙ sym (take-set-lt c.size (drop (g * c.size) (texts_in lists c)) i text (mod_below place c.size has.some))
    ∙ ap (take c.size) (sym (drop-set-add (g * c.size) (texts_in lists c) i text))
    ∙ ap (λ n. take c.size (drop (g * c.size) (set (texts_in lists c) n text))) (div-add-mod' place c.size)

chosen : {X : Type 0} (b : Bool) (old : List X) (x : X) (all : List X) → (b ≡ true → x ∷ [] ≡ all) → (b ≡ false → old ++ x ∷ [] ≡ all) → (if b then [] else old) ++ x ∷ [] ≡ all
chosen true old x all first more = first refl
chosen false old x all first more = more refl

pub group-with-next : (lists : Lists) (c : Texts) (text : Option (List ℕ)) → HasGroups c → IsTextColumn lists c → group_with_next lists c text ≡ in_group c.size (c.len / c.size) (texts_in lists c ++ text ∷ [])
group-with-next lists c text has is =
    let os = c.objects in
    let texts = texts_in lists c in
    let long : length texts ≡ c.len = texts-length lists c is has in
    let last = get_or os (length os - 1) 0 in
    chosen (begins_group c) (texts_at lists last) text (in_group c.size (c.len / c.size) (texts ++ text ∷ []))
    (λ begins.
    let full : c.len ≡ length os * c.size = eqb-true c.len (length os * c.size) begins in
    let groups : c.len / c.size ≡ length os = ap (λ n. n / c.size) full ∙ mul-div_cancel (length os) has.some in
    let at : c.len / c.size * c.size ≡ length texts = ap (λ n. n * c.size) groups ∙ sym full ∙ sym long in
    sym (ap (λ n. take c.size (drop n (texts ++ text ∷ []))) at ∙ ap (take c.size) (drop-append_seam texts (text ∷ [])) ∙ take_all c.size (text ∷ []) (omega (arith, has.some))))
    (λ begins.
    let some = some-group c has begins in
    let h = length os - 1 in
    let same : suc h ≡ length os = omega (arith, some) in
    let below : c.len < length os * c.size = elim (cases_lt c.len (length os * c.size)) [
      | inl less ↦ less
      | inr more ↦ absurd (not-full c has begins (omega (arith, more, has.held)))
    ] in
    let begun : suc h * c.size < c.len + c.size = subst (λ n. n * c.size < c.len + c.size) (sym same) has.begun in
    let held : c.len < suc h * c.size = subst (λ n. c.len < n * c.size) (sym same) below in
    let from : h * c.size ≤ c.len = omega (arith, begun) in
    let high = div_below c.len c.size (length os) has.some below in
    let low = le-div h c.len c.size has.some from in
    let group : c.len / c.size ≡ h = omega (arith, high, low, same) in
    let left : length (drop (h * c.size) texts) ≡ length texts - h * c.size = length-drop (h * c.size) texts in
    let first_part = texts-of-group lists c h last has is (slice_get-get_or os h 0 (omega (arith, same))) ∙ take_all c.size (drop (h * c.size) texts) (omega (arith, left, long, held)) in
    ap (λ l. l ++ text ∷ []) first_part
    ∙ sym (take_all c.size (drop (h * c.size) texts ++ text ∷ []) (omega (arith, length-append (drop (h * c.size) texts) (text ∷ []), left, long, held, from)))
    ∙ ap (take c.size) (sym (drop-append-le (h * c.size) texts (text ∷ []) (omega (arith, from, long))))
    ∙ ap (λ n. take c.size (drop (n * c.size) (texts ++ text ∷ []))) (sym group))
