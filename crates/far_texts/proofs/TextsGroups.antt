-- The row groups of a column of texts.
use Rattle.std.proofs.Common.{◌≡◌, ℕ, suc, ◌+◌, ◌*◌, ◌/◌, ◌%◌, ◌<◌, ◌≤◌, List, [], ◌∷◌, ◌++◌, length, get_or, take, Option, None, Some, refl, sym, ap, subst, ◌∙◌, arith, mul-le-mul_right}
use Rattle.std.specs.Prelude.{IsSomeAnd, IfOk, Result, unwrap_or, slice_get}
use Rattle.std.specs.declared.result.Result.TheVariants.{Ok, Err}
use Rattle.std.specs.Borrow.{Bor}
use Rattle.std.specs.Option.{option_and_then, option_or}
use Rattle.far_types.specs.declared.refusal.Refusal.{Refusal}
use Rattle.std.specs.List.{flat_map}
use Rattle.std.proofs.lemmas.List.{length-append, append-nil, take_all, take_more}
use Rattle.std.proofs.lemmas.List.Concat.{flat_map-append}
use Rattle.std.proofs.lemmas.Nat.{div-add-mod', div_below, mod_below}
use Rattle.std.proofs.lemmas.Option.{slice_get-get_or}
use Rattle.far_codec.specs.TextForm.{texts_meaning}
use Rattle.far_texts.specs.Texts.{Texts, Lists, HasGroups, IsTextColumn, IsGroupForm, texts_at, texts_in}
use Rattle.far_texts.proofs.Joined.{length-before, joined-at}

-- a property of an object's list, if the object has one
pub of-list : (list : Option (List ℕ)) (P : List ℕ → Type 0) → IsSomeAnd list P → P (unwrap_or list [])
of-list None P here = absurd here
of-list (Some bytes) P here = here

pub is-list : (list : Option (List ℕ)) (P : List ℕ → Type 0) → IsSomeAnd list P → list ≡ Some (unwrap_or list [])
is-list None P here = absurd here
is-list (Some bytes) P here = refl

module _ (lists : Lists) (c : Texts) (is : IsTextColumn lists c) where
  -- the form of a row group that has been begun
  pub group-form : (g : ℕ) → g < length c.objects → IsGroupForm c g (unwrap_or (lists (get_or c.objects g 0)) [])
  group-form g begun = of-list (lists (get_or c.objects g 0)) (IsGroupForm c g) (is.each g (get_or c.objects g 0) (slice_get-get_or c.objects g 0 begun))

  pub group-list : (g : ℕ) → g < length c.objects → lists (get_or c.objects g 0) ≡ Some (unwrap_or (lists (get_or c.objects g 0)) [])
  group-list g begun = is-list (lists (get_or c.objects g 0)) (IsGroupForm c g) (is.each g (get_or c.objects g 0) (slice_get-get_or c.objects g 0 begun))

  module _ (has : HasGroups c) where
    -- each row group but the last is full
    pub group-full : (g : ℕ) → g + 1 < length c.objects → length (texts_at lists (get_or c.objects g 0)) ≡ c.size
    group-full g more =
        let long = mul-le-mul_right {m = g + 2} {n = length c.objects} c.size (omega arith) in
        let count = (group-form g (omega arith)).count in
        omega (arith, long, count, has.begun)

    -- how many texts the last row group has
    pub group-last : (g : ℕ) → suc g ≡ length c.objects → length (texts_at lists (get_or c.objects g 0)) + g * c.size ≡ c.len
    group-last g last =
        let count = (group-form g (omega arith)).count in
        let held : c.len ≤ suc g * c.size = subst (λ n. c.len ≤ n * c.size) (sym last) has.held in
        let begun : suc g * c.size < c.len + c.size = subst (λ n. n * c.size < c.len + c.size) (sym last) has.begun in
        omega (arith, count, held, begun)

    -- the row group of a place has been begun and has the place's index, and the row groups before it are full
    pub place-begun : (place : ℕ) → place < c.len → place / c.size < length c.objects
    place-begun place below = div_below place c.size (length c.objects) has.some (omega (arith, has.held))

    pub place-inside : (place : ℕ) → place < c.len → place % c.size < length (texts_at lists (get_or c.objects (place / c.size) 0))
    place-inside place below =
        let count = (group-form (place / c.size) (place-begun place below)).count in
        omega (arith, count, div-add-mod' place c.size, mod_below place c.size has.some)

    pub before-full : (place : ℕ) → place < c.len → (h : ℕ) → h < place / c.size → length (texts_at lists (get_or c.objects h 0)) ≡ c.size
    before-full place below h before = group-full h (omega (arith, place-begun place below))

    -- the text of a place
    pub text-at : (place : ℕ) (d : Option (List ℕ)) → place < c.len → get_or (texts_in lists c) place d ≡ get_or (texts_at lists (get_or c.objects (place / c.size) 0)) (place % c.size) d
    text-at place d below =
        ap (λ n. get_or (texts_in lists c) n d) (sym (div-add-mod' place c.size))
        ∙ joined-at (texts_at lists) c.objects c.size (place / c.size) (place % c.size) d (place-begun place below) (before-full place below) (place-inside place below)

-- how many elements joined lists have if all but the last have one length
length-joined : {X : Type 0} (f : ℕ → List X) (os : List ℕ) (size len : ℕ) → len ≤ length os * size → ((h : ℕ) → h + 1 < length os → length (f (get_or os h 0)) ≡ size) → ((h : ℕ) → suc h ≡ length os → length (f (get_or os h 0)) + h * size ≡ len) → length (flat_map f os) ≡ len
length-joined f [] size len held full last = omega (arith, held)
length-joined f (o ∷ os) size len held full last =
    let whole : List ℕ = o ∷ os in
    let end = get_or whole (length os) 0 in
    let parted : whole ≡ take (length os) whole ++ end ∷ [] = sym (take_all (length os + 1) whole (omega arith)) ∙ take_more whole (length os) 0 (omega arith) in
    let joined : flat_map f whole ≡ flat_map f (take (length os) whole) ++ (f end ++ []) = ap (flat_map f) parted ∙ flat_map-append f (take (length os) whole) (end ∷ []) in
    let before = length-before f whole size (length os) (omega arith) (λ h below. full h (omega arith)) in
    omega (arith, ap (λ l. length l) joined, length-append (flat_map f (take (length os) whole)) (f end ++ []), ap (λ l. length l) (append-nil (f end)), before, last (length os) refl)

pub texts-length : (lists : Lists) (c : Texts) (is : IsTextColumn lists c) (has : HasGroups c) → length (texts_in lists c) ≡ c.len
texts-length lists c is has = length-joined (texts_at lists) c.objects c.size c.len has.held (group-full lists c is has) (group-last lists c is has)

-- the text that is lent is the text at the place
pub text-lent : (lists : Lists) (c : Texts) (is : IsTextColumn lists c) (has : HasGroups c) (place : ℕ) (form : List ℕ) (text : Option (List ℕ)) → place < c.len → lists (get_or c.objects (place / c.size) 0) ≡ Some form → text ≡ option_and_then (λ t. t) (slice_get (texts_meaning form) (place % c.size)) → slice_get (texts_in lists c) place ≡ Some text
text-lent lists c is has place form text below lent returned =
    let texts = texts_at lists (get_or c.objects (place / c.size) 0) in
    let same : texts ≡ texts_meaning form = ap (λ l. texts_meaning (unwrap_or l [])) lent in
    let i = place % c.size in
    let there : slice_get texts i ≡ Some (get_or texts i None) = slice_get-get_or texts i None (place-inside lists c is has place below) in
    slice_get-get_or (texts_in lists c) place None (omega (arith, texts-length lists c is has))
    ∙ ap Some (text-at lists c is has place None below)
    ∙ ap (λ o. Some (option_and_then (λ t. t) o)) (sym there)
    ∙ ap (λ l. Some (option_and_then (λ t. t) (slice_get l i))) same
    ∙ ap Some (sym returned)

-- the list that an object lends has each property of the object's list
pub form-lent : (r : Result (Bor (List ℕ)) Refusal) (here rest : ℕ → Option (List ℕ)) (o p : ℕ) (P : List ℕ → Type 0) → o ≡ p → IfOk r (λ form. here o ≡ Some form.now) → P (unwrap_or (option_or (here p) (rest p)) []) → IfOk r (λ form. P form.now)
form-lent (Ok form) here rest o p P same lent holds = subst P (ap (λ l. unwrap_or (option_or l (rest p)) []) (sym (ap here same) ∙ lent)) holds
form-lent (Err refusal) here rest o p P same lent holds = tt
