-- Changes of the links between a table's live extents.
use Rattle.std.proofs.Common.{◌≡◌, ℕ, zero, suc, ◌+◌, ◌-◌, ◌<◌, ◌≤◌, ◌⊎◌, inl, inr, Bool, true, false, List, [], ◌∷◌, ◌++◌, length, take, Option, None, Some, cond, refl, sym, subst, ap, ◌∙◌, arith, length-take}
use Rattle.std.specs.Prelude.{filter, if◌then◌else◌, slice_get, slice_set, IsSomeAnd}
use Rattle.std.proofs.lemmas.Option.{slice_get_within}
use Rattle.far_log.specs.declared.extents.Extent.{Extent}
use Rattle.far_log.specs.declared.links.Link.{Link}
use Rattle.far_log.specs.Storage.{AreLinked, EndsLive, emptied_at, with_behind, with_before}

pub emptied-is : (ss : List Extent) (i : ℕ) (s : Extent) → slice_get ss i ≡ Some s → slice_set ss i (record s { live = false }) ≡ emptied_at ss i
emptied-is [] i s e = refl
emptied-is (t ∷ ss) zero s e = let same : t ≡ s = cc in rw same refl
emptied-is (t ∷ ss) (suc i) s e = ap (λ ts. t ∷ ts) (emptied-is ss i s e)

pub length-emptied : (ss : List Extent) (i : ℕ) → length (emptied_at ss i) ≡ length ss
length-emptied [] i = refl
length-emptied (s ∷ ss) zero = refl
length-emptied (s ∷ ss) (suc i) = ap suc (length-emptied ss i)

-- as many links as extents
pub as-many : (i b n : ℕ) (ss : List Extent) (ls : List Link) → AreLinked i b n ss ls → length ls ≡ length ss
as-many i b n [] [] h = refl
as-many i b n [] (l ∷ ls) h = absurd h
as-many i b n (s ∷ ss) [] h = absurd h
as-many i b n (s ∷ ss) (l ∷ ls) h = ap suc (as-many _ _ _ ss ls h.1)

-- the prefix of a table
pub linked-take : (m i b n : ℕ) (ss : List Extent) (ls : List Link) → AreLinked i b n ss ls → AreLinked i b n (take m ss) (take m ls)
linked-take zero i b n ss ls h = tt
linked-take (suc m) i b n [] [] h = tt
linked-take (suc m) i b n [] (l ∷ ls) h = absurd h
linked-take (suc m) i b n (s ∷ ss) [] h = absurd h
linked-take (suc m) i b n (s ∷ ss) (l ∷ ls) h = (h.0, linked-take m _ _ _ ss ls h.1)

ends-tail : (s : Extent) (ss : List Extent) → 0 < length ss → EndsLive (s ∷ ss) → EndsLive ss
ends-tail s [] some h = absurd (omega arith)
ends-tail s (t ∷ ss) some h = h

ends-cons : (s : Extent) (ss : List Extent) → 0 < length ss → EndsLive ss → EndsLive (s ∷ ss)
ends-cons s [] some h = absurd (omega arith)
ends-cons s (t ∷ ss) some h = h

dead-more : (s : Extent) (ss : List Extent) → s.live ≡ false → EndsLive (s ∷ ss) → 0 < length ss
dead-more s [] dead h = absurd (cc)
dead-more s (t ∷ ss) dead h = omega arith

-- the live extent before these names one of them as the next
behind-there : (i b n : ℕ) (ss : List Extent) (ls : List Link) → AreLinked i (suc b) n ss ls → EndsLive ss → 0 < length ss → (i ≤ n) × (n < i + length ss)
behind-there i b n [] ls h ends some = absurd (omega arith)
behind-there i b n (s ∷ ss) [] h ends some = absurd h
behind-there i b n (s ∷ ss) (l ∷ ls) h ends some = head s.live refl (λ rest more. behind-there (suc i) b n ss ls rest (ends-tail s ss more ends) more)
  where
    head : (live : Bool) → s.live ≡ live → (AreLinked (suc i) (suc b) n ss ls → 0 < length ss → (suc i ≤ n) × (n < suc i + length ss)) → (i ≤ n) × (n < i + length (s ∷ ss))
    head true e later = let at = (h.0 e).1 (omega arith) in (omega (arith, at), omega (arith, at))
    head false e later =
        let more = dead-more s ss e ends in
        let there = later (rw e at h.1) more in
        (omega (arith, there.0), omega (arith, there.1))

-- the number of the live extent after a live one
pub behind-later : (i b n k : ℕ) (ss : List Extent) (ls : List Link) (s : Extent) (l : Link) → AreLinked i b n ss ls → EndsLive ss
    → slice_get ss k ≡ Some s → s.live ≡ true → slice_get ls k ≡ Some l → suc k < length ss → (i + k < l.behind) × (l.behind < i + length ss)
behind-later i b n k [] ls s l h ends here live there more = absurd (omega arith)
behind-later i b n k (t ∷ ss) [] s l h ends here live there more = absurd h
behind-later i b n zero (t ∷ ss) (m ∷ ls) s l h ends here live there more =
    let extent : t ≡ s = cc in
    let link : m ≡ l = cc in
    let rest : AreLinked (suc i) (suc i) l.behind ss ls = rw (link, ap (λ (u : Extent). u.live) extent ∙ live) at h.1 in
    let later = behind-there (suc i) i l.behind ss ls rest (ends-tail t ss (omega arith) ends) (omega arith) in
    (omega (arith, later.0), omega (arith, later.1))
behind-later i b n (suc k) (t ∷ ss) (m ∷ ls) s l h ends here live there more =
    let later = behind-later _ _ _ k ss ls s l h.1 (ends-tail t ss (omega arith) ends) here live there (omega arith) in
    (omega (arith, later.0), omega (arith, later.1))

-- replacing the link that the first live extent has to the one before it
relinked : (i k b n : ℕ) (ss : List Extent) (ls : List Link) → AreLinked i (suc k) n ss ls → EndsLive ss → 0 < length ss → AreLinked i b n ss (with_before ls (n - i) b)
relinked i k b n [] ls h ends some = absurd (omega arith)
relinked i k b n (s ∷ ss) [] h ends some = absurd h
relinked i k b n (s ∷ ss) (l ∷ ls) h ends some = head s.live refl (λ rest more. relinked (suc i) k b n ss ls rest (ends-tail s ss more ends) more)
  where
    head : (live : Bool) → s.live ≡ live → (AreLinked (suc i) (suc k) n ss ls → 0 < length ss → AreLinked (suc i) b n ss (with_before ls (n - suc i) b)) → AreLinked i b n (s ∷ ss) (with_before (l ∷ ls) (n - i) b)
    head true e later =
        let at : n ≡ i = (h.0 e).1 (omega arith) in
        let here : n - i ≡ 0 = omega (arith, at) in
        let rest : AreLinked (suc i) (suc i) l.behind ss ls = rw e at h.1 in
        rw here (rw e ((λ _. (refl, λ _. at)), rest))
    head false e later =
        let more = dead-more s ss e ends in
        let rest : AreLinked (suc i) (suc k) n ss ls = rw e at h.1 in
        let there = behind-there (suc i) k n ss ls rest (ends-tail s ss more ends) more in
        let next : n - i ≡ suc (n - suc i) = omega (arith, there.0) in
        rw next (rw e (λ live. absurd (cc), later rest more))

-- an extent other than the last is removed: the live extent before it is before these extents, or among them
abbrev Unlinked : ℕ → ℕ → ℕ → ℕ → List Extent → List Link → Link → Type 0
Unlinked i b n k ss ls l =
    ((l.before ≡ b) × AreLinked i b l.behind (emptied_at ss k) (with_before ls (l.behind - i) l.before))
    ⊎ ((i < l.before) × AreLinked i b n (emptied_at ss k) (with_before (with_behind ls (l.before - suc i) l.behind) (l.behind - i) l.before))

unlinked : (i b n k : ℕ) (ss : List Extent) (ls : List Link) (s : Extent) (l : Link) → AreLinked i b n ss ls → EndsLive ss
    → slice_get ss k ≡ Some s → s.live ≡ true → slice_get ls k ≡ Some l → suc k < length ss → i + k < l.behind → Unlinked i b n k ss ls l
unlinked i b n k [] ls s l h ends here live there more far = absurd (omega arith)
unlinked i b n k (t ∷ ss) [] s l h ends here live there more far = absurd h
unlinked i b n zero (t ∷ ss) (m ∷ ls) s l h ends here live there more far =
    let extent : t ≡ s = cc in
    let link : m ≡ l = cc in
    let alive : t.live ≡ true = ap (λ (u : Extent). u.live) extent ∙ live in
    let before : l.before ≡ b = ap (λ (u : Link). u.before) (sym link) ∙ (h.0 alive).0 in
    let rest : AreLinked (suc i) (suc i) l.behind ss ls = rw (link, alive) at h.1 in
    let next : l.behind - i ≡ suc (l.behind - suc i) = omega (arith, far) in
    inl (before, rw (next, before) (λ no. absurd (cc), relinked (suc i) i b l.behind ss ls rest (ends-tail t ss (omega arith) ends) (omega arith)))
unlinked i b n (suc k) (t ∷ ss) (m ∷ ls) s l h ends here live there more far =
    let next : l.behind - i ≡ suc (l.behind - suc i) = omega (arith, far) in
    let later = unlinked _ _ _ k ss ls s l h.1 (ends-tail t ss (omega arith) ends) here live there (omega arith) (omega (arith, far)) in
    head t.live refl next later
  where
    head : (alive : Bool) → t.live ≡ alive → l.behind - i ≡ suc (l.behind - suc i)
        → Unlinked (suc i) (if t.live then suc i else b) (if t.live then m.behind else n) k ss ls l → Unlinked i b n (suc k) (t ∷ ss) (m ∷ ls) l
    head true e next (inl r) =
        let before : l.before ≡ suc i = rw e at r.0 in
        let first : l.before - suc i ≡ 0 = omega (arith, before) in
        inr (omega (arith, before), rw (first, next) (h.0, rw e (rw e at r.1)))
    head true e next (inr r) =
        let more : l.before - suc i ≡ suc (l.before - suc (suc i)) = omega (arith, r.0) in
        inr (omega (arith, r.0), rw (more, next) (h.0, r.1))
    head false e next (inl r) =
        inl (rw e at r.0, rw next (λ alive. absurd (cc), rw e (rw e at r.1)))
    head false e next (inr r) =
        let more : l.before - suc i ≡ suc (l.before - suc (suc i)) = omega (arith, r.0) in
        inr (omega (arith, r.0), rw (more, next) (h.0, r.1))

-- the last extent is removed: the extents up to the live one before it remain
abbrev LeftOf : ℕ → ℕ → ℕ → List Extent → Link → Type 0
LeftOf i b k ss l =
    ((l.before ≡ b) × (filter (λ u. u.live) (emptied_at ss k) ≡ []))
    ⊎ ((i < l.before) × (l.before ≤ i + k) × (filter (λ u. u.live) (take (l.before - i) (emptied_at ss k)) ≡ filter (λ u. u.live) (emptied_at ss k)) × EndsLive (take (l.before - i) (emptied_at ss k)))

left-of : (i b n k : ℕ) (ss : List Extent) (ls : List Link) (s : Extent) (l : Link) → AreLinked i b n ss ls
    → slice_get ss k ≡ Some s → s.live ≡ true → slice_get ls k ≡ Some l → length ss ≡ suc k → LeftOf i b k ss l
left-of i b n k [] ls s l h here live there long = absurd (omega arith)
left-of i b n k (t ∷ ss) [] s l h here live there long = absurd h
left-of i b n zero (t ∷ []) (m ∷ ls) s l h here live there long =
    let extent : t ≡ s = cc in
    let link : m ≡ l = cc in
    inl (ap (λ (u : Link). u.before) (sym link) ∙ (h.0 (ap (λ (u : Extent). u.live) extent ∙ live)).0, refl)
left-of i b n zero (t ∷ (u ∷ ss)) (m ∷ ls) s l h here live there long = absurd (omega arith)
left-of i b n (suc k) (t ∷ ss) (m ∷ ls) s l h here live there long =
    head t.live refl (left-of _ _ _ k ss ls s l h.1 here live there (omega arith))
  where
    head : (alive : Bool) → t.live ≡ alive → LeftOf (suc i) (if t.live then suc i else b) k ss l → LeftOf i b (suc k) (t ∷ ss) l
    head true e (inl r) =
        let before : l.before ≡ suc i = rw e at r.0 in
        let first : l.before - i ≡ suc 0 = omega (arith, before) in
        inr (omega (arith, before), omega (arith, before), rw first (ap (λ ts. cond t.live (t ∷ ts) ts) (sym r.1)), rw first e)
    head true e (inr r) =
        let more : l.before - i ≡ suc (l.before - suc i) = omega (arith, r.0) in
        let some : 0 < length (take (l.before - suc i) (emptied_at ss k)) = omega (arith, r.0, r.1, length-take (l.before - suc i) (emptied_at ss k), length-emptied ss k, long) in
        inr (omega (arith, r.0), omega (arith, r.1), rw more (ap (λ ts. cond t.live (t ∷ ts) ts) r.2), rw more (ends-cons t _ some r.3))
    head false e (inl r) = inl (rw e at r.0, rw e r.1)
    head false e (inr r) =
        let more : l.before - i ≡ suc (l.before - suc i) = omega (arith, r.0) in
        let some : 0 < length (take (l.before - suc i) (emptied_at ss k)) = omega (arith, r.0, r.1, length-take (l.before - suc i) (emptied_at ss k), length-emptied ss k, long) in
        inr (omega (arith, r.0), omega (arith, r.1), rw more (ap (λ ts. cond t.live (t ∷ ts) ts) r.2), rw more (ends-cons t _ some r.3))

-- a link of the prefix
behind-append : (ls ms : List Link) (i n : ℕ) → i < length ls → with_behind (ls ++ ms) i n ≡ with_behind ls i n ++ ms
behind-append [] ms i n lt = absurd (omega arith)
behind-append (l ∷ ls) ms zero n lt = refl
behind-append (l ∷ ls) ms (suc i) n lt = ap (λ ks. l ∷ ks) (behind-append ls ms i n (omega arith))

-- an extent is appended
linked-behind : (i b n k : ℕ) (s t : Extent) (ss : List Extent) (l : Link) (ls : List Link) → AreLinked i b n (s ∷ ss) (l ∷ ls) → EndsLive (s ∷ ss) → length ls ≡ k
    → AreLinked i b n ((s ∷ ss) ++ t ∷ []) (with_behind (l ∷ ls) k (i + suc k) ++ record { before = i + suc k; behind = 0 } ∷ [])
linked-behind i b n zero s t [] l [] h ends long =
    let one : i + suc 0 ≡ suc i = omega arith in
    rw one (h.0, ((λ _. (rw ends refl, λ _. rw ends refl)), tt))
linked-behind i b n zero s t (u ∷ ss) l [] h ends long = absurd (h.1)
linked-behind i b n k s t [] l (m ∷ ls) h ends long = absurd (h.1)
linked-behind i b n zero s t (u ∷ ss) l (m ∷ ls) h ends long = absurd (omega arith)
linked-behind i b n (suc k) s t ss l [] h ends long = absurd (omega arith)
linked-behind i b n (suc k) s t (u ∷ ss) l (m ∷ ls) h ends long =
    let further : i + suc (suc k) ≡ suc i + suc k = omega arith in
    rw further (h.0, linked-behind (suc i) _ _ k u t ss m ls h.1 ends (omega arith))

-- emptying an extent does not change the extents before it
pub take-emptied : (m k : ℕ) (ss : List Extent) → m ≤ k → take m (emptied_at ss k) ≡ take m ss
take-emptied zero k ss le = refl
take-emptied (suc m) k [] le = refl
take-emptied (suc m) zero (s ∷ ss) le = absurd (omega arith)
take-emptied (suc m) (suc k) (s ∷ ss) le = ap (λ ts. s ∷ ts) (take-emptied m k ss (omega arith))

pub ends-emptied : (k : ℕ) (ss : List Extent) → suc k < length ss → EndsLive ss → EndsLive (emptied_at ss k)
ends-emptied k [] more h = absurd (omega arith)
ends-emptied k (s ∷ []) more h = absurd (omega arith)
ends-emptied zero (s ∷ (t ∷ ss)) more h = h
ends-emptied (suc k) (s ∷ (t ∷ ss)) more h = ends-cons s (emptied_at (t ∷ ss) k) (omega (arith, length-emptied (t ∷ ss) k)) (ends-emptied k (t ∷ ss) (omega arith) h)

pub length-behind : (ls : List Link) (i n : ℕ) → length (with_behind ls i n) ≡ length ls
length-behind [] i n = refl
length-behind (l ∷ ls) zero n = refl
length-behind (l ∷ ls) (suc i) n = ap suc (length-behind ls i n)

-- the live extent before another has a lower number
pub before-le : (i b n k : ℕ) (ss : List Extent) (ls : List Link) (s : Extent) (l : Link) → AreLinked i b n ss ls → b ≤ i
    → slice_get ss k ≡ Some s → s.live ≡ true → slice_get ls k ≡ Some l → l.before ≤ i + k
before-le i b n k [] ls s l h le here live there = absurd (cc)
before-le i b n k (t ∷ ss) [] s l h le here live there = absurd h
before-le i b n zero (t ∷ ss) (m ∷ ls) s l h le here live there =
    let extent : t ≡ s = cc in
    let link : m ≡ l = cc in
    omega (arith, ap (λ (u : Link). u.before) (sym link), (h.0 (ap (λ (u : Extent). u.live) extent ∙ live)).0)
before-le i b n (suc k) (t ∷ ss) (m ∷ ls) s l h le here live there =
    let later = before-le _ _ _ k ss ls s l h.1 (at-most t.live) here live there in omega (arith, later)
  where
    at-most : (alive : Bool) → (if alive then suc i else b) ≤ suc i
    at-most true = omega arith
    at-most false = omega arith

-- if no extent before is live, the number of the live one before does not matter
named-by-none : (i n m : ℕ) (ss : List Extent) (ls : List Link) → AreLinked i 0 n ss ls → AreLinked i 0 m ss ls
named-by-none i n m [] [] h = tt
named-by-none i n m [] (l ∷ ls) h = absurd h
named-by-none i n m (s ∷ ss) [] h = absurd h
named-by-none i n m (s ∷ ss) (l ∷ ls) h = head s.live refl (λ rest. named-by-none (suc i) n m ss ls rest)
  where
    head : (alive : Bool) → s.live ≡ alive → (AreLinked (suc i) 0 n ss ls → AreLinked (suc i) 0 m ss ls) → AreLinked i 0 m (s ∷ ss) (l ∷ ls)
    head true e later = let rest : AreLinked (suc i) (suc i) l.behind ss ls = rw e at h.1 in rw e (λ live. ((h.0 e).0, λ no. absurd (omega arith)), rest)
    head false e later = let rest : AreLinked (suc i) 0 n ss ls = rw e at h.1 in rw e (λ live. absurd (cc), later rest)

-- a live extent, and its link
pub live-extent : (ss : List Extent) (k : ℕ) → IsSomeAnd (slice_get ss k) (λ s. s.live ≡ true) → (s : Extent) × ((slice_get ss k ≡ Some s) × (s.live ≡ true))
live-extent ss k h = of-option (slice_get ss k) refl h
  where
    of-option : (o : Option Extent) → slice_get ss k ≡ o → IsSomeAnd o (λ s. s.live ≡ true) → (s : Extent) × ((slice_get ss k ≡ Some s) × (s.live ≡ true))
    of-option None e h = absurd h
    of-option (Some s) e h = (s, (e, h))

module _ (ss : List Extent) (ls : List Link) (k : ℕ) (link : Link) (linked : AreLinked 0 0 0 ss ls) (there : IsSomeAnd (slice_get ss k) (λ s. s.live ≡ true)) (named : slice_get ls k ≡ Some link) where
  pub within-extents : k < length ss
  within-extents = let s = live-extent ss k there in slice_get_within ss k s.0 s.1.0

  pub before-within : link.before ≤ k
  before-within = let s = live-extent ss k there in let le = before-le 0 0 0 k ss ls s.0 link linked (omega arith) s.1.0 s.1.1 named in omega (arith, le)

  pub behind-within : EndsLive ss → suc k < length ss → (k < link.behind) × (link.behind < length ls)
  behind-within ends more =
      let s = live-extent ss k there in
      let later = behind-later 0 0 0 k ss ls s.0 link linked ends s.1.0 s.1.1 named more in
      (omega (arith, later.0), omega (arith, later.1, as-many 0 0 0 ss ls linked))

  pub last-left : length ss ≡ suc k → (filter (λ s. s.live) (take link.before (emptied_at ss k)) ≡ filter (λ s. s.live) (emptied_at ss k)) × EndsLive (take link.before (emptied_at ss k))
  last-left long =
      let s = live-extent ss k there in
      let whole : link.before - 0 ≡ link.before = omega arith in
      elim (left-of 0 0 0 k ss ls s.0 link linked s.1.0 s.1.1 named long) [
        | inl r ↦ (ap (λ n. filter (λ u. u.live) (take n (emptied_at ss k))) r.0 ∙ sym r.1, subst (λ n. EndsLive (take n (emptied_at ss k))) (sym r.0) tt)
        | inr r ↦ (rw whole at r.2, rw whole at r.3)
      ]

  pub last-linked : AreLinked 0 0 0 (take link.before (emptied_at ss k)) (take link.before ls)
  last-linked = rw (take-emptied link.before k ss before-within) (linked-take link.before 0 0 0 ss ls linked)

  -- the links after both neighbours are linked to each other
  pub rest-linked : (now : List Link) → EndsLive ss → suc k < length ss → (0 < link.before → now ≡ with_behind ls (link.before - 1) link.behind) → (link.before ≡ 0 → now ≡ ls)
      → AreLinked 0 0 0 (emptied_at ss k) (with_before now link.behind link.before)
  rest-linked now ends more some none =
      let s = live-extent ss k there in
      let far = behind-within ends more in
      let whole : link.behind - 0 ≡ link.behind = omega arith in
      elim (unlinked 0 0 0 k ss ls s.0 link linked ends s.1.0 s.1.1 named more (omega (arith, far.0))) [
        | inl r ↦ rw (none r.0) (named-by-none 0 link.behind 0 (emptied_at ss k) _ (rw whole at r.1))
        | inr r ↦ rw (some r.0) (rw whole at r.1)
      ]

-- a live extent is appended, and the last live one is linked to it
pub last-named : (ss : List Extent) (t : Extent) (ls : List Link) → AreLinked 0 0 0 ss ls → EndsLive ss → 0 < length ls
    → AreLinked 0 0 0 (ss ++ t ∷ []) (with_behind (ls ++ record { before = length ls; behind = 0 } ∷ []) (length ls - 1) (length ls))
last-named [] t [] h ends some = absurd (omega arith)
last-named [] t (l ∷ ls) h ends some = absurd h
last-named (s ∷ ss) t [] h ends some = absurd h
last-named (s ∷ ss) t (l ∷ ls) h ends some =
    let place : length (l ∷ ls) - 1 ≡ length ls = omega arith in
    let one : 0 + suc (length ls) ≡ suc (length ls) = omega arith in
    rw place (rw (behind-append (l ∷ ls) (record { before = length (l ∷ ls); behind = 0 } ∷ []) (length ls) (length (l ∷ ls)) (omega arith)) (rw one at (linked-behind 0 0 0 (length ls) s t ss l ls h ends refl)))

pub first-linked : (ss : List Extent) (t : Extent) (ls : List Link) → AreLinked 0 0 0 ss ls → length ls ≡ 0 → AreLinked 0 0 0 (ss ++ t ∷ []) (ls ++ record { before = length ls; behind = 0 } ∷ [])
first-linked [] t [] h none = ((λ _. (refl, λ no. absurd (omega arith))), tt)
first-linked [] t (l ∷ ls) h none = absurd h
first-linked (s ∷ ss) t [] h none = absurd h
first-linked (s ∷ ss) t (l ∷ ls) h none = absurd (omega arith)
