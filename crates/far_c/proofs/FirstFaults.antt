-- Items that are read one by one, up to the first that cannot be read.
use Rattle.std.proofs.Common.{◌≡◌, ◌∙◌, ℕ, zero, suc, ◌+◌, ◌<◌, ◌++◌, List, [], ◌∷◌, length, take, Option, Some, sym, ap, subst, add-one, arith}
use Rattle.std.specs.Prelude.{slice_get, slice_index_or, IsSomeAnd}
use Rattle.std.specs.List.{All}
use Rattle.std.proofs.lemmas.List.Elements.{All-append}
use Rattle.std.proofs.lemmas.Option.{slice_get-get_or}
use Rattle.far_c.specs.declared.unread.Unread.{Unread}
use Rattle.far_c.specs.Unreadable.{FirstFault}

-- the first k + 1 items are the first k and item k
taken : {A : Type 0} (items : List A) (k : ℕ) (x : A) → slice_get items k ≡ Some x → take (suc k) items ≡ take k items ++ x ∷ []
taken [] k x at = absurd cc
taken (y ∷ ys) zero x at = (let same : y ≡ x = cc in ap (λ z. z ∷ []) same)
taken (y ∷ ys) (suc k) x at = ap (λ l. y ∷ l) (taken ys k x at)

module _ {A : Type 0} (readable : A → Type 0) where
  one-read : (x : A) → readable x → All readable (x ∷ [])
  one-read x is zero d below = is
  one-read x is (suc k) d below = absurd (omega (arith, below))

  -- one more item is read
  pub more-read : (items : List A) (k : ℕ) (x : A) → slice_get items k ≡ Some x → readable x → All readable (take k items) → All readable (take (k + 1) items)
  more-read items k x at is before = subst (λ (l : List A). All readable l) (sym (ap (λ n. take n items) (add-one k) ∙ taken items k x at)) (All-append readable (take k items) (x ∷ []) before (one-read x is))

  pub more-read-at : (items : List A) (k : ℕ) (d : A) → k < length items → readable (slice_index_or items k d) → All readable (take k items) → All readable (take (k + 1) items)
  more-read-at items k d below is before = more-read items k (slice_index_or items k d) (slice_get-get_or items k d below) is before

  -- item k is the first that cannot be read
  pub first-fault : (fault : A → Unread → Type 0) (items : List A) (k : ℕ) (x : A) (why : Unread) → slice_get items k ≡ Some x → fault x why → All readable (take k items) → FirstFault fault readable items why
  first-fault fault items k x why at is before = (k, subst (λ (o : Option A). IsSomeAnd o (λ item. fault item why)) (sym at) is, before)
