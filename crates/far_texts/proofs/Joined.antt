-- Joined lists. All but the last have one length.
use Rattle.std.proofs.Common.{◌≡◌, ◌≢◌, ℕ, zero, suc, ◌+◌, ◌-◌, ◌*◌, ◌<◌, ◌≤◌, List, [], ◌∷◌, ◌++◌, length, get_or, set, take, drop, refl, sym, ap, ◌∙◌, arith, append_assoc}
use Rattle.std.specs.List.{flat_map}
use Rattle.std.proofs.lemmas.List.{length-append, append-nil, set-append_left, set-append_right, drop_all}
use Rattle.std.proofs.lemmas.List.Concat.{get_or-flat_map}

module _ {X : Type 0} where
  -- how many elements come before list g
  pub length-before : (f : ℕ → List X) (os : List ℕ) (size g : ℕ) → g ≤ length os → ((h : ℕ) → h < g → length (f (get_or os h 0)) ≡ size) → length (flat_map f (take g os)) ≡ g * size
  length-before f os size zero within full = omega arith
  length-before f [] size (suc g) within full = absurd (omega arith)
  length-before f (o ∷ os) size (suc g) within full =
      let rest : length (flat_map f (take g os)) ≡ g * size = length-before f os size g (omega arith) (λ h below. full (suc h) (omega arith)) in
      let first : length (f o) ≡ size = full 0 (omega arith) in
      omega (arith, length-append (f o) (flat_map f (take g os)))

  -- element i of list g
  pub joined-at : (f : ℕ → List X) (os : List ℕ) (size g i : ℕ) (d : X) → g < length os → ((h : ℕ) → h < g → length (f (get_or os h 0)) ≡ size) → i < length (f (get_or os g 0)) → get_or (flat_map f os) (g * size + i) d ≡ get_or (f (get_or os g 0)) i d
  joined-at f os size g i d within full inside =
      let front : length (flat_map f (take g os)) ≡ g * size = length-before f os size g (omega arith) full in
      ap (λ n. get_or (flat_map f os) (n + i) d) (sym front) ∙ get_or-flat_map f os g i 0 d within inside

  -- joining equal lists
  pub joined-same : (f h : ℕ → List X) (os : List ℕ) → ((k : ℕ) → k < length os → h (get_or os k 0) ≡ f (get_or os k 0)) → flat_map h os ≡ flat_map f os
  joined-same f h [] same = refl
  joined-same f h (o ∷ os) same =
      let first : h o ≡ f o = same 0 (omega arith) in
      ap (λ l. l ++ flat_map h os) first ∙ ap (λ l. f o ++ l) (joined-same f h os (λ k below. same (suc k) (omega arith)))

  -- joining lists after one changes
  pub joined-changed : (f h : ℕ → List X) (os : List ℕ) (g : ℕ) → g < length os → ((k : ℕ) → k < length os → k ≢ g → h (get_or os k 0) ≡ f (get_or os k 0)) → flat_map h os ≡ flat_map f (take g os) ++ (h (get_or os g 0) ++ flat_map f (drop (suc g) os))
  joined-changed f h [] g within others = absurd (omega arith)
  joined-changed f h (o ∷ os) zero within others = ap (λ l. h o ++ l) (joined-same f h os (λ k below. others (suc k) (omega arith) (λ e. omega arith)))
  joined-changed f h (o ∷ os) (suc g) within others =
      let first : h o ≡ f o = others 0 (omega arith) (λ e. omega arith) in
      let rest = joined-changed f h os g (omega arith) (λ k below disjoint. others (suc k) (omega arith) (λ e. disjoint (omega arith))) in
      ap (λ l. l ++ flat_map h os) first ∙ ap (λ l. f o ++ l) rest
      ∙ sym (append_assoc (f o) (flat_map f (take g os)) (h (get_or os g 0) ++ flat_map f (drop (suc g) os)))

  -- an element set in list g
  pub joined-set : (f h : ℕ → List X) (os : List ℕ) (size g i : ℕ) (x : X) → g < length os → ((k : ℕ) → k < length os → k ≢ g → h (get_or os k 0) ≡ f (get_or os k 0)) → ((k : ℕ) → k < g → length (f (get_or os k 0)) ≡ size) → i < length (f (get_or os g 0)) → h (get_or os g 0) ≡ set (f (get_or os g 0)) i x → flat_map h os ≡ set (flat_map f os) (g * size + i) x
  joined-set f h os size g i x within others full inside here =
      let front = flat_map f (take g os) in
      let list = f (get_or os g 0) in
      let back = flat_map f (drop (suc g) os) in
      let before : length front ≡ g * size = length-before f os size g (omega arith) full in
      let old : flat_map f os ≡ front ++ (list ++ back) = joined-changed f f os g within (λ k below disjoint. refl) in
      let place : g * size + i - g * size ≡ i = omega arith in
      joined-changed f h os g within others
      ∙ ap (λ l. front ++ (l ++ back)) here
      ∙ ap (λ l. front ++ l) (sym (set-append_left list back i x inside))
      ∙ ap (λ n. front ++ set (list ++ back) n x) (sym place)
      ∙ sym (set-append_right front (list ++ back) (g * size) (g * size + i) x before (omega arith))
      ∙ ap (λ l. set l (g * size + i) x) (sym old)

  -- one more element in the last list
  pub joined-push : (f h : ℕ → List X) (os : List ℕ) (g : ℕ) (x : X) → suc g ≡ length os → ((k : ℕ) → k < length os → k ≢ g → h (get_or os k 0) ≡ f (get_or os k 0)) → h (get_or os g 0) ≡ f (get_or os g 0) ++ x ∷ [] → flat_map h os ≡ flat_map f os ++ x ∷ []
  joined-push f h os g x last others here =
      let front = flat_map f (take g os) in
      let list = f (get_or os g 0) in
      let none : drop (suc g) os ≡ [] = drop_all (suc g) os (omega arith) in
      let old : flat_map f os ≡ front ++ (list ++ []) = joined-changed f f os g (omega arith) (λ k below disjoint. refl) ∙ ap (λ l. front ++ (list ++ flat_map f l)) none in
      joined-changed f h os g (omega arith) others
      ∙ ap (λ l. front ++ (h (get_or os g 0) ++ flat_map f l)) none
      ∙ ap (λ l. front ++ (l ++ [])) here
      ∙ ap (λ l. front ++ l) (append-nil (list ++ x ∷ []))
      ∙ sym (append_assoc front list (x ∷ []))
      ∙ ap (λ l. (front ++ l) ++ x ∷ []) (sym (append-nil list))
      ∙ ap (λ l. l ++ x ∷ []) (sym old)
