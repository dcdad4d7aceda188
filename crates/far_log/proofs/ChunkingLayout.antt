-- Where the elements of chunks are.
use Rattle.std.proofs.Common.{◌≡◌, ℕ, zero, suc, ◌+◌, ◌-◌, ◌*◌, ◌<◌, ◌≤◌, ◌^◌, List, [], ◌∷◌, ◌++◌, Some, length, take, drop, refl, sym, ap, ◌∙◌, arith, length-append, pow_mono, pow-suc, lt_of_not-le}
use Rattle.std.proofs.Common.{◌⊎◌, inl, inr, length-take, append-nil}
use Rattle.std.proofs.lemmas.List.{append_assoc, take_all, take-append-le}
use Rattle.std.proofs.lemmas.Bool.{cases_lt}
use Rattle.std.specs.Prelude.{vec_capacity, slice_get, slice_set}
use Rattle.std.specs.declared.vec.Vec.{Vec}
use Rattle.far_log.specs.Chunking.{capacity_at, start_at, items_of, AreChunks, IsPlaceOf}

-- a chunk has the capacity of all chunks before it and one more first chunk
pub start-size : (size number : ℕ) → start_at size number + size ≡ capacity_at size number
start-size size zero = omega arith
start-size size (suc number) = let later = start-size (size + size) number in omega arith

-- a chunk ends where the next begins
pub start-next : (size number : ℕ) → start_at size (suc number) ≡ start_at size number + capacity_at size number
start-next size number = omega (arith, start-size size number, start-size size (suc number), size-next size number)
  where
    size-next : (size number : ℕ) → capacity_at size (suc number) ≡ capacity_at size number + capacity_at size number
    size-next size zero = refl
    size-next size (suc number) = size-next (size + size) number

pub start-last : (size number : ℕ) → 0 < number → start_at size number ≡ start_at size (number - 1) + capacity_at size (number - 1)
start-last size zero some = absurd (omega arith)
start-last size (suc number) some =
    let less : suc number - 1 ≡ number = omega arith in
    rw less (start-next size number)

pub size-is : (level number : ℕ) → capacity_at (2 ^ level) number ≡ 2 ^ (level + number)
size-is level zero = ap (λ n. 2 ^ n) (let e : level ≡ level + 0 = omega arith in e)
size-is level (suc number) =
    let twice : 2 ^ level + 2 ^ level ≡ 2 ^ suc level = omega (arith, pow-suc 2 level) in
    let more : suc level + number ≡ level + suc number = omega arith in
    ap (λ size. capacity_at size number) twice ∙ size-is (suc level) number ∙ ap (λ n. 2 ^ n) more

-- the capacity of a chunk, if the first chunk's is 64
pub size-64 : (number : ℕ) → capacity_at 64 number ≡ 2 ^ (6 + number)
size-64 number = size-is 6 number

-- the highest bit of a number that is neither small nor large
module _ (n top : ℕ) (low : 2 ^ top ≤ n) (high : n < 2 * 2 ^ top) where
  pub top-above : 64 ≤ n → 6 ≤ top
  top-above h = lt_of_not-le (λ (le : top ≤ 5). let p : 2 ^ top ≤ 32 = pow_mono le in omega arith)

  pub top-below : n < 8589934592 → top < 33
  top-below h = lt_of_not-le (λ (le : 33 ≤ top). let p : 8589934592 ≤ 2 ^ top = pow_mono le in omega arith)

  pub place-at : (index : ℕ) → n ≡ index + 64 → IsPlaceOf index (top - 6) (n - 2 ^ top)
  place-at index is =
      let above = top-above (omega (arith, is)) in
      let same : 6 + (top - 6) ≡ top = omega (arith, above) in
      let size : capacity_at 64 (top - 6) ≡ 2 ^ top = size-64 (top - 6) ∙ ap (λ k. 2 ^ k) same in
      record {
        index_is = omega (arith, start-size 64 (top - 6), size, low, is);
        within = omega (arith, size, low, high);
      }

-- a chunk comes after those with lower numbers
pub start-later : (size number later : ℕ) → number < later → start_at size number + capacity_at size number ≤ start_at size later
start-later size number zero lt = absurd (omega arith)
start-later size zero (suc later) lt = omega arith
start-later size (suc number) (suc later) lt = let rest = start-later (size + size) number later (omega arith) in omega arith

module _ {X : Type 0} where
  pub get-front : (xs ys : List X) (i : ℕ) → i < length xs → slice_get (xs ++ ys) i ≡ slice_get xs i
  get-front [] ys i lt = absurd (omega arith)
  get-front (x ∷ xs) ys zero lt = refl
  get-front (x ∷ xs) ys (suc i) lt = get-front xs ys i (omega arith)

  pub get-back : (xs ys : List X) (n i : ℕ) → length xs ≡ n → slice_get (xs ++ ys) (n + i) ≡ slice_get ys i
  get-back [] ys n i long = ap (λ k. slice_get ys k) (let e : n + i ≡ i = omega (arith, long) in e)
  get-back (x ∷ xs) ys zero i long = absurd (omega (arith, long))
  get-back (x ∷ xs) ys (suc n) i long = let next : suc n + i ≡ suc (n + i) = omega arith in rw next (get-back xs ys n i (omega (arith, long)))

  pub get-take : (n : ℕ) (xs : List X) (i : ℕ) → i < n → slice_get (take n xs) i ≡ slice_get xs i
  get-take zero xs i lt = absurd (omega arith)
  get-take (suc n) [] i lt = refl
  get-take (suc n) (x ∷ xs) zero lt = refl
  get-take (suc n) (x ∷ xs) (suc i) lt = get-take n xs i (omega arith)

  pub get-drop : (n : ℕ) (xs : List X) (i : ℕ) → slice_get (drop n xs) i ≡ slice_get xs (n + i)
  get-drop zero xs i = ap (λ k. slice_get xs k) (let e : i ≡ zero + i = omega arith in e)
  get-drop (suc n) [] i = refl
  get-drop (suc n) (x ∷ xs) i = let next : suc n + i ≡ suc (n + i) = omega arith in rw next (get-drop n xs i)

  set-front : (xs ys : List X) (i : ℕ) (x : X) → i < length xs → slice_set xs i x ++ ys ≡ slice_set (xs ++ ys) i x
  set-front [] ys i x lt = absurd (omega arith)
  set-front (y ∷ xs) ys zero x lt = refl
  set-front (y ∷ xs) ys (suc i) x lt = ap (λ zs. y ∷ zs) (set-front xs ys i x (omega arith))

  set-back : (xs ys : List X) (n i : ℕ) (x : X) → length xs ≡ n → xs ++ slice_set ys i x ≡ slice_set (xs ++ ys) (n + i) x
  set-back [] ys n i x long = ap (λ k. slice_set ys k x) (let e : i ≡ n + i = omega (arith, long) in e)
  set-back (y ∷ xs) ys zero i x long = absurd (omega (arith, long))
  set-back (y ∷ xs) ys (suc n) i x long =
      let next : suc n + i ≡ suc (n + i) = omega arith in
      rw next (ap (λ zs. y ∷ zs) (set-back xs ys n i x (omega (arith, long))))

  drop-back : (xs ys : List X) (n s len : ℕ) → length xs ≡ n → n + s ≤ len → drop (n + s) (take len (xs ++ ys)) ≡ drop s (take (len - n) ys)
  drop-back [] ys n s len long le =
      let front : n + s ≡ s = omega (arith, long) in
      let whole : len - n ≡ len = omega (arith, long) in
      rw (front, whole) refl
  drop-back (x ∷ xs) ys zero s len long le = absurd (omega (arith, long))
  drop-back (x ∷ xs) ys (suc n) s zero long le = absurd (omega arith)
  drop-back (x ∷ xs) ys (suc n) s (suc len) long le =
      let next : suc n + s ≡ suc (n + s) = omega arith in
      let less : suc len - suc n ≡ len - n = omega arith in
      rw (next, less) (drop-back xs ys n s len (omega (arith, long)) (omega arith))

  take-front : (xs ys : List X) (n len : ℕ) → length xs ≡ n → n ≤ len → take n (take len (xs ++ ys)) ≡ xs
  take-front [] ys zero len long le = refl
  take-front [] ys (suc n) len long le = absurd (omega (arith, long))
  take-front (x ∷ xs) ys zero len long le = absurd (omega (arith, long))
  take-front (x ∷ xs) ys (suc n) zero long le = absurd (omega arith)
  take-front (x ∷ xs) ys (suc n) (suc len) long le = ap (λ zs. x ∷ zs) (take-front xs ys n len (omega (arith, long)) (omega arith))

  -- the prefix of a list that is cut after a chunk, or within it
  cut-front : (size len : ℕ) (xs ys : List X) → length xs ≤ size → (len ≤ length xs) ⊎ ((length xs ≡ size) × (length xs ≤ len)) → take len xs ≡ take size (take len (xs ++ ys))
  cut-front size len xs ys fits (inl short) =
      rw (take-append-le len xs ys short) (sym (take_all size (take len xs) (omega (arith, length-take len xs, fits))))
  cut-front size len xs ys fits (inr full) =
      take_all len xs full.1 ∙ sym (take-front xs ys size len full.0 (omega (arith, full.0, full.1)))

module _ {X Z : Type 0} where
  -- the chunk of an element exists
  pub chunk-there : (size : ℕ) (cs : List (Vec X Z)) (number : ℕ) → AreChunks size cs → start_at size number < length (items_of cs) → number < length cs
  chunk-there size [] number h lt = absurd (omega arith)
  chunk-there size (c ∷ cs) zero h lt = omega arith
  chunk-there size (c ∷ []) (suc number) h lt = absurd (omega (arith, h.0, length-append c.items []))
  chunk-there size (c ∷ (d ∷ cs)) (suc number) h lt =
      let later = chunk-there (size + size) (d ∷ cs) number h.1 (omega (arith, h.0, length-append c.items (items_of (d ∷ cs)))) in
      omega (arith, later)

  -- the element is in that chunk
  pub in-chunk : (size : ℕ) (cs : List (Vec X Z)) (number at : ℕ) (c : Vec X Z) → AreChunks size cs → slice_get cs number ≡ Some c → at < capacity_at size number
      → start_at size number + at < length (items_of cs) → at < length c.items
  in-chunk size [] number at c h e small lt = absurd (cc)
  in-chunk size (b ∷ []) zero at c h e small lt = let same : b ≡ c = cc in omega (arith, ap (λ (u : Vec X Z). length u.items) same, length-append b.items [])
  in-chunk size (b ∷ (d ∷ cs)) zero at c h e small lt = let same : b ≡ c = cc in omega (arith, ap (λ (u : Vec X Z). length u.items) same, h.0)
  in-chunk size (b ∷ []) (suc number) at c h e small lt = absurd (cc)
  in-chunk size (b ∷ (d ∷ cs)) (suc number) at c h e small lt =
      in-chunk (size + size) (d ∷ cs) number at c h.1 e small (omega (arith, h.0, length-append b.items (items_of (d ∷ cs))))

  -- no chunk ends past the last element
  pub ends-within : (size : ℕ) (cs : List (Vec X Z)) (number : ℕ) (c : Vec X Z) → AreChunks size cs → slice_get cs number ≡ Some c → start_at size number + length c.items ≤ length (items_of cs)
  ends-within size [] number c h e = absurd (cc)
  ends-within size (b ∷ cs) zero c h e = let same : b ≡ c = cc in omega (arith, ap (λ (u : Vec X Z). length u.items) same, length-append b.items (items_of cs))
  ends-within size (b ∷ []) (suc number) c h e = absurd (cc)
  ends-within size (b ∷ (a ∷ cs)) (suc number) c h e =
      let later = ends-within (size + size) (a ∷ cs) number c h.1 e in
      omega (arith, later, h.0, length-append b.items (items_of (a ∷ cs)))

  -- an element of a chunk is the element of the list at its place
  pub read-chunk : (size : ℕ) (cs : List (Vec X Z)) (number at : ℕ) (c : Vec X Z) → AreChunks size cs → slice_get cs number ≡ Some c → at < length c.items
      → slice_get (items_of cs) (start_at size number + at) ≡ slice_get c.items at
  read-chunk size [] number at c h e lt = absurd (cc)
  read-chunk size (b ∷ cs) zero at c h e lt = let same : b ≡ c = cc in let first : 0 + at ≡ at = omega arith in rw (first, same) (get-front c.items (items_of cs) at lt)
  read-chunk size (b ∷ []) (suc number) at c h e lt = absurd (cc)
  read-chunk size (b ∷ (d ∷ cs)) (suc number) at c h e lt =
      let disjoint : size + start_at (size + size) number + at ≡ size + (start_at (size + size) number + at) = omega arith in
      rw disjoint (get-back b.items (items_of (d ∷ cs)) size (start_at (size + size) number + at) h.0 ∙ read-chunk (size + size) (d ∷ cs) number at c h.1 e lt)

  -- writing an element of a chunk writes the element of the list at its place
  pub write-chunk : (size : ℕ) (cs : List (Vec X Z)) (number at : ℕ) (c d : Vec X Z) (x : X) → AreChunks size cs → slice_get cs number ≡ Some c → at < length c.items
      → d.items ≡ slice_set c.items at x → items_of (slice_set cs number d) ≡ slice_set (items_of cs) (start_at size number + at) x
  write-chunk size [] number at c d x h e lt is = absurd (cc)
  write-chunk size (b ∷ cs) zero at c d x h e lt is = let same : b ≡ c = cc in let first : 0 + at ≡ at = omega arith in rw (first, same, is) (set-front c.items (items_of cs) at x lt)
  write-chunk size (b ∷ []) (suc number) at c d x h e lt is = absurd (cc)
  write-chunk size (b ∷ (a ∷ cs)) (suc number) at c d x h e lt is =
      let disjoint : size + start_at (size + size) number + at ≡ size + (start_at (size + size) number + at) = omega arith in
      rw disjoint (ap (λ zs. b.items ++ zs) (write-chunk (size + size) (a ∷ cs) number at c d x h.1 e lt is) ∙ set-back b.items (items_of (a ∷ cs)) size (start_at (size + size) number + at) x h.0)

  -- chunks remain chunks after one of them is written
  pub chunks-set : (size : ℕ) (cs : List (Vec X Z)) (number : ℕ) (c d : Vec X Z) → AreChunks size cs → slice_get cs number ≡ Some c → length d.items ≡ length c.items → vec_capacity d ≡ vec_capacity c
      → AreChunks size (slice_set cs number d)
  chunks-set size [] number c d h e long capacity = absurd (cc)
  chunks-set size (b ∷ []) zero c d h e long capacity =
      let same : b ≡ c = cc in
      (omega (arith, h.0, long, ap (λ (u : Vec X Z). length u.items) same), omega (arith, h.1, capacity, ap (λ (u : Vec X Z). vec_capacity u) same))
  chunks-set size (b ∷ (a ∷ cs)) zero c d h e long capacity =
      let same : b ≡ c = cc in
      (omega (arith, h.0, long, ap (λ (u : Vec X Z). length u.items) same), h.1)
  chunks-set size (b ∷ []) (suc number) c d h e long capacity = absurd (cc)
  chunks-set size (b ∷ (a ∷ cs)) (suc zero) c d h e long capacity = (h.0, chunks-set (size + size) (a ∷ cs) zero c d h.1 e long capacity)
  chunks-set size (b ∷ (a ∷ cs)) (suc (suc number)) c d h e long capacity = (h.0, chunks-set (size + size) (a ∷ cs) (suc number) c d h.1 e long capacity)

  -- the chunks have no more elements than capacity
  pub within-size : (size : ℕ) (cs : List (Vec X Z)) → AreChunks size cs → length (items_of cs) ≤ start_at size (length cs)
  within-size size [] h = omega arith
  within-size size (c ∷ []) h = omega (arith, h.0, length-append c.items [])
  within-size size (c ∷ (d ∷ cs)) h = let later = within-size (size + size) (d ∷ cs) h.1 in omega (arith, later, h.0, length-append c.items (items_of (d ∷ cs)))

  -- a chunk that is not full is the last
  pub last-chunk : (size : ℕ) (cs : List (Vec X Z)) (number : ℕ) (c : Vec X Z) → AreChunks size cs → slice_get cs number ≡ Some c → length c.items < capacity_at size number
      → (length (items_of cs) ≡ start_at size number + length c.items) × (capacity_at size number ≤ vec_capacity c)
  last-chunk size [] number c h e less = absurd (cc)
  last-chunk size (b ∷ []) zero c h e less =
      let same : b ≡ c = cc in
      (omega (arith, ap (λ (u : Vec X Z). length u.items) same, length-append b.items []), omega (arith, h.1, ap (λ (u : Vec X Z). vec_capacity u) same))
  last-chunk size (b ∷ (a ∷ cs)) zero c h e less = let same : b ≡ c = cc in absurd (omega (arith, h.0, ap (λ (u : Vec X Z). length u.items) same))
  last-chunk size (b ∷ []) (suc number) c h e less = absurd (cc)
  last-chunk size (b ∷ (a ∷ cs)) (suc number) c h e less =
      let later = last-chunk (size + size) (a ∷ cs) number c h.1 e less in
      (omega (arith, later.0, h.0, length-append b.items (items_of (a ∷ cs))), later.1)

  -- an element is appended to the last chunk
  pub push-chunk : (size : ℕ) (cs : List (Vec X Z)) (number : ℕ) (c d : Vec X Z) (x : X) → AreChunks size cs → slice_get cs number ≡ Some c → length c.items < capacity_at size number
      → d.items ≡ c.items ++ x ∷ [] → vec_capacity d ≡ vec_capacity c → AreChunks size (slice_set cs number d) × (items_of (slice_set cs number d) ≡ items_of cs ++ x ∷ [])
  push-chunk size [] number c d x h e less is capacity = absurd (cc)
  push-chunk size (b ∷ []) zero c d x h e less is capacity =
      let same : b ≡ c = cc in
      ((omega (arith, less, ap length is, length-append c.items (x ∷ [])), omega (arith, h.1, capacity, ap (λ (u : Vec X Z). vec_capacity u) same)), rw (same, is) (append-nil _ ∙ ap (λ xs. xs ++ x ∷ []) (sym (append-nil c.items))))
  push-chunk size (b ∷ (a ∷ cs)) zero c d x h e less is capacity = let same : b ≡ c = cc in absurd (omega (arith, h.0, less, ap (λ (u : Vec X Z). length u.items) same))
  push-chunk size (b ∷ []) (suc number) c d x h e less is capacity = absurd (cc)
  push-chunk size (b ∷ (a ∷ cs)) (suc zero) c d x h e less is capacity =
      let later = push-chunk (size + size) (a ∷ cs) zero c d x h.1 e less is capacity in
      ((h.0, later.0), ap (λ xs. b.items ++ xs) later.1 ∙ sym (append_assoc b.items (items_of (a ∷ cs)) (x ∷ [])))
  push-chunk size (b ∷ (a ∷ cs)) (suc (suc number)) c d x h e less is capacity =
      let later = push-chunk (size + size) (a ∷ cs) (suc number) c d x h.1 e less is capacity in
      ((h.0, later.0), ap (λ xs. b.items ++ xs) later.1 ∙ sym (append_assoc b.items (items_of (a ∷ cs)) (x ∷ [])))

  -- an empty chunk is appended to full ones
  pub add-chunk : (size : ℕ) (cs : List (Vec X Z)) (c : Vec X Z) → AreChunks size cs → length (items_of cs) ≡ start_at size (length cs) → c.items ≡ [] → capacity_at size (length cs) ≤ vec_capacity c
      → AreChunks size (cs ++ c ∷ [])
  add-chunk size [] c h full none reserved = (omega (arith, ap length none), reserved)
  add-chunk size (b ∷ []) c h full none reserved = (omega (arith, full, length-append b.items []), (omega (arith, ap length none), reserved))
  add-chunk size (b ∷ (a ∷ cs)) c h full none reserved =
      (h.0, add-chunk (size + size) (a ∷ cs) c h.1 (omega (arith, full, h.0, length-append b.items (items_of (a ∷ cs)))) none reserved)

  pub joined-add : (cs : List (Vec X Z)) (c : Vec X Z) → c.items ≡ [] → items_of (cs ++ c ∷ []) ≡ items_of cs
  joined-add [] c none = rw none refl
  joined-add (b ∷ cs) c none = ap (λ xs. b.items ++ xs) (joined-add cs c none)

  -- the chunk for the next element exists, or would be the next one
  pub next-chunk : (cs : List (Vec X Z)) (len number at : ℕ) → AreChunks 64 cs → len ≤ length (items_of cs) → IsPlaceOf len number at → number ≤ length cs
  next-chunk cs len number at h within place = elim (cases_lt (length cs) number) [
    | inl past ↦ absurd (omega (arith, start-later 64 (length cs) number past, start-size 64 (length cs), within-size 64 cs h, within, place.index_is))
    | inr there ↦ there
  ]

  pub all-full : (cs : List (Vec X Z)) (len number at : ℕ) → AreChunks 64 cs → len ≤ length (items_of cs) → IsPlaceOf len number at → number ≡ length cs → length (items_of cs) ≡ start_at 64 (length cs)
  all-full cs len number at h within place is = omega (arith, within-size 64 cs h, within, place.index_is, ap (start_at 64) is)

  -- the elements of one chunk, as a range of the list
  pub cut-chunk : (size len : ℕ) (cs : List (Vec X Z)) (number : ℕ) (c : Vec X Z) → AreChunks size cs → slice_get cs number ≡ Some c → len ≤ length (items_of cs) → start_at size number ≤ len
      → take (len - start_at size number) c.items ≡ take (capacity_at size number) (drop (start_at size number) (take len (items_of cs)))
  cut-chunk size len [] number c h e within le = absurd (cc)
  cut-chunk size len (b ∷ []) zero c h e within le =
      let same : b ≡ c = cc in
      let whole : len - 0 ≡ len = omega arith in
      let short : len ≤ length c.items = omega (arith, within, length-append b.items [], ap (λ (u : Vec X Z). length u.items) same) in
      rw (whole, same) (cut-front size len c.items [] (omega (arith, h.0, ap (λ (u : Vec X Z). length u.items) same)) (inl short))
  cut-chunk size len (b ∷ (a ∷ cs)) zero c h e within le =
      let same : b ≡ c = cc in
      let whole : len - 0 ≡ len = omega arith in
      let full : length c.items ≡ size = omega (arith, h.0, ap (λ (u : Vec X Z). length u.items) same) in
      rw (whole, same) (elim (cases_lt (length c.items) len) [
        | inl past ↦ cut-front size len c.items (items_of (a ∷ cs)) (omega (arith, full)) (inr (full, omega arith))
        | inr short ↦ cut-front size len c.items (items_of (a ∷ cs)) (omega (arith, full)) (inl short)
      ])
  cut-chunk size len (b ∷ []) (suc number) c h e within le = absurd (cc)
  cut-chunk size len (b ∷ (a ∷ cs)) (suc number) c h e within le =
      let later = cut-chunk (size + size) (len - size) (a ∷ cs) number c h.1 e (omega (arith, within, h.0, length-append b.items (items_of (a ∷ cs)))) (omega arith) in
      let less : len - (size + start_at (size + size) number) ≡ len - size - start_at (size + size) number = omega arith in
      rw (less, drop-back b.items (items_of (a ∷ cs)) size (start_at (size + size) number) len h.0 le) later
