-- Searches for space, which skip segments that are known to lack it.
use Rattle.std.proofs.Common.{◌≡◌, ◌⊎◌, ℕ, zero, suc, ◌+◌, ◌-◌, ◌<◌, ◌≤◌, true, false, List, [], ◌∷◌, length, map, drop, Some, None, refl, sym, ap, subst, ◌∙◌, inl, inr, arith, get_or-set_same, get_or-set_other}
use Rattle.std.specs.Prelude.{nat_le}
use Rattle.std.specs.List.{list_all}
use Rattle.std.specs.Option.{option_map_or}
use Rattle.std.proofs.lemmas.Bool.{le-leb, lt-leb, cases_eq, cases_lt}
use Rattle.std.proofs.lemmas.List.{drop_all}
use Rattle.far_log.specs.declared.skip.Skip.{Skip}
use Rattle.far_log.specs.RegionState.{SegmentState, RegionState, space_in, segment_of, target_of}
use Rattle.far_log.specs.Effects.{with_segment, after_write}
use Rattle.far_log.specs.Fitting.{after_fill, waiting_fit}
use Rattle.far_log.specs.Skipping.{IsSkip, IsSpaced}
use Rattle.far_log.proofs.FittingLaws.{lowest-first, lowest-later, after_fill-first}
use Rattle.far_log.proofs.RegionStateLayouts.{space-after_write}

-- each length is 0, for a list that was placed, or at least `len`
abbrev pub AreLong : ℕ → List ℕ → Type 0
AreLong len [] = Unit {0}
AreLong len (w ∷ ws) = ((w ≡ 0) ⊎ (len ≤ w)) × AreLong len ws

pub long-all : (len : ℕ) (ws : List ℕ) → list_all (λ n. nat_le len n) ws ≡ true → AreLong len ws
long-all len [] all = tt
long-all len (w ∷ ws) all = elim (cases_lt w len) [
  | inl less ↦ let short : nat_le len w ≡ false = lt-leb len w less in absurd (let never = rw short at all in cc)
  | inr long ↦ let enough : nat_le len w ≡ true = le-leb len w long in (inr long, long-all len ws (rw enough at all))
]

pub long-any : (ws : List ℕ) → AreLong 0 ws
long-any [] = tt
long-any (w ∷ ws) = (inr (omega arith), long-any ws)

-- this remains true after a segment takes some lists
pub long-after_fill : (f len : ℕ) (ws : List ℕ) → AreLong len ws → AreLong len (after_fill f ws)
long-after_fill f len [] h = tt
long-after_fill f len (w ∷ ws) h = elim (cases_lt f w) [
  | inl less ↦ let refuses : nat_le w f ≡ false = lt-leb w f less in rw refuses (h.0, long-after_fill f len ws h.1)
  | inr fits ↦ let takes : nat_le w f ≡ true = le-leb w f fits in rw takes (inl refl, long-after_fill (f - w) len ws h.1)
]

-- lists that do not fit a segment keep waiting
unfilled : (f len : ℕ) (ws : List ℕ) → f < len → AreLong len ws → after_fill f ws ≡ ws
unfilled f len [] lt h = refl
unfilled f len (w ∷ ws) lt h = elim h.0 [
  | inl none ↦
      let takes : nat_le w f ≡ true = le-leb w f (omega (arith, none)) in
      let same : f - w ≡ f = omega (arith, none) in
      rw (takes, same) (ap (λ l. 0 ∷ l) (unfilled f len ws lt h.1) ∙ ap (λ n. n ∷ ws) (sym none))
  | inr long ↦
      let refuses : nat_le w f ≡ false = lt-leb w f (omega (arith, lt, long)) in
      rw refuses (ap (λ l. w ∷ l) (unfilled f len ws lt h.1))
]

module _ {X : Type 0} where
  -- no segment below this one has the space for n elements
  abbrev pub HasNoSpace : RegionState X → ℕ → ℕ → Type 0
  HasNoSpace state below len = (k : ℕ) → k < below → space_in (segment_of state k) < len

  -- the first segment that is found is the lowest
  pub lowest-is : (state : RegionState X) (n len : ℕ) → HasNoSpace state n len → n < length state → len ≤ space_in (segment_of state n) → target_of state len ≡ Some n
  lowest-is [] n len none lt takes = absurd (omega (arith, lt))
  lowest-is (s ∷ state) zero len none lt takes = lowest-first (space_in s) (map space_in state) len (le-leb len (space_in s) takes)
  lowest-is (s ∷ state) (suc n) len none lt takes =
      let first : space_in s < len = none 0 (omega arith) in
      lowest-later (space_in s) (map space_in state) len (lt-leb len (space_in s) first)
      ∙ ap (λ o. option_map_or (λ i. Some (suc i)) o None) (lowest-is state n len (λ k less. none (suc k) (omega (arith, less))) (omega (arith, lt)) takes)

  -- if the search finds no segment, no segment has the space
  pub none-takes : (state : RegionState X) (n len : ℕ) → HasNoSpace state n len → length state ≤ n → target_of state len ≡ None
  none-takes [] n len none le = refl
  none-takes (s ∷ state) zero len none le = absurd (omega (arith, le))
  none-takes (s ∷ state) (suc n) len none le =
      let first : space_in s < len = none 0 (omega arith) in
      lowest-later (space_in s) (map space_in state) len (lt-leb len (space_in s) first)
      ∙ ap (λ o. option_map_or (λ i. Some (suc i)) o None) (none-takes state n len (λ k less. none (suc k) (omega (arith, less))) (omega (arith, le)))

  -- a search for several lists, none of them shorter than `len`, may begin after segments that lack the space
  pub skipped-fit : (state : RegionState X) (from to len : ℕ) (ws : List ℕ) → ((k : ℕ) → from ≤ k → k < to → space_in (segment_of state k) < len) → from ≤ to → AreLong len ws
      → waiting_fit (map space_in (drop from state)) ws ≡ waiting_fit (map space_in (drop to state)) ws
  skipped-fit [] from to len ws none le long = ap (λ l. waiting_fit (map space_in l) ws) (drop_all from [] (omega arith) ∙ sym (drop_all to [] (omega arith)))
  skipped-fit (s ∷ state) (suc from) zero len ws none le long = absurd (omega (arith, le))
  skipped-fit (s ∷ state) (suc from) (suc to) len ws none le long = skipped-fit state from to len ws (λ k least less. none (suc k) (omega (arith, least)) (omega (arith, less))) (omega (arith, le)) long
  skipped-fit (s ∷ state) zero zero len ws none le long = refl
  skipped-fit (s ∷ state) zero (suc to) len ws none le long =
      after_fill-first (space_in s) (map space_in state) ws
      ∙ ap (waiting_fit (map space_in state)) (unfilled (space_in s) len ws (none 0 (omega arith) (omega arith)) long)
      ∙ skipped-fit state zero to len ws (λ k least less. none (suc k) (omega arith) (omega (arith, less))) (omega arith) long

  -- a segment without space for a list has none for a longer list
  pub no-space-longer : (state : RegionState X) (below len more : ℕ) → HasNoSpace state below len → len ≤ more → HasNoSpace state below more
  no-space-longer state below len more none le = λ k lt. let less = none k lt in omega (arith, less, le)

  -- the skip that skips nothing
  pub skip-nothing : (state : RegionState X) → IsSkip state record { first = 0; next = 0; len = 0 }
  skip-nothing state = record { ordered = omega arith; full = λ k lt ne. absurd (omega (arith, lt)) }

  module _ (state : RegionState X) (known : Skip) (skip : IsSkip state known) where
    -- the segments before the first that is tried lack the space
    pub before-first : HasNoSpace state known.first known.len
    before-first k lt = skip.full k (omega (arith, lt, skip.ordered)) (λ e. omega (arith, lt, e))

    -- the segments that were passed, with one more that lacks the space
    pub passed-more : (number more after : ℕ) → known.first ≤ number → known.len ≤ more → HasNoSpace state number more → (after ≤ number + 1) ⊎ (after ≤ known.next) → (to : ℕ) → more ≤ to → space_in (segment_of state number) < to → HasNoSpace state after to
    passed-more number more after first less none reach to le space k lt = elim (cases_lt k number) [
      | inl before ↦ let h = none k before in omega (arith, h, le)
      | inr behind ↦ elim (cases_eq k number) [
        | inl same ↦ rw same space
        | inr other ↦ elim reach [
          | inl near ↦ absurd (omega (arith, lt, near, behind, other))
          | inr far ↦ let h = skip.full k (omega (arith, lt, far)) (λ e. omega (arith, e, first, behind, other)) in omega (arith, h, less, le)
        ]
      ]
    ]

    -- the skip that a search returns
    pub skip-found : (number more next : ℕ) → known.first ≤ number → known.len ≤ more → HasNoSpace state number more → number ≤ next → (next ≤ number) ⊎ (next ≤ known.next) → IsSkip state record { first = number; next = next; len = more }
    skip-found number more next first less none ordered reach = record {
      ordered = ordered;
      full = λ k lt ne. elim (cases_lt k number) [
        | inl before ↦ none k before
        | inr behind ↦ elim reach [
          | inl near ↦ absurd (omega (arith, lt, near, behind))
          | inr far ↦ let h = skip.full k (omega (arith, lt, far)) (λ e. omega (arith, e, first, behind, ne)) in omega (arith, h, less)
        ]
      ];
    }

    -- another segment under a number
    pub skip-set : (number : ℕ) (s : SegmentState X) (new : Skip) → number < length state → IsSpaced known new number (space_in s) → IsSkip (with_segment state number s) new
    skip-set number s new within spaced = record {
      ordered = spaced.ordered;
      full = λ k lt ne. elim (cases_eq k number) [
        | inl same ↦ rw (same, get_or-set_same state number s record { parts = []; size = 0 } within) (let h = spaced.here (subst (λ i. i < new.next) same lt) (λ e. ne (same ∙ e)) in omega (arith, h, spaced.len))
        | inr other ↦ rw (get_or-set_other state number k s record { parts = []; size = 0 } other) (let kept = spaced.kept k lt ne other in let h = skip.full k kept.0 kept.1 in omega (arith, h, spaced.len))
      ];
    }

    -- a segment that has no more space than before
    pub skip-less : (number : ℕ) (s : SegmentState X) → number < length state → space_in s ≤ space_in (segment_of state number) → IsSkip (with_segment state number s) known
    skip-less number s within less = record {
      ordered = skip.ordered;
      full = λ k lt ne. elim (cases_eq k number) [
        | inl same ↦ rw (same, get_or-set_same state number s record { parts = []; size = 0 } within) (let h = skip.full number (subst (λ i. i < known.next) same lt) (λ e. ne (same ∙ e)) in omega (arith, h, less))
        | inr other ↦ rw (get_or-set_other state number k s record { parts = []; size = 0 } other) (skip.full k lt ne)
      ];
    }

    -- a segment that was written to
    pub skip-after_write : (number at : ℕ) (ws : List X) → number < length state → IsSkip (with_segment state number (after_write (segment_of state number) at ws)) known
    skip-after_write number at ws within = skip-less number (after_write (segment_of state number) at ws) within (omega (arith, space-after_write (segment_of state number) at ws))

  -- the skip is one of two
  pub skip-either : (state : RegionState X) (one other skip : Skip) → IsSkip state one → IsSkip state other → (skip ≡ one) ⊎ (skip ≡ other) → IsSkip state skip
  skip-either state one other skip h h' is = elim is [
    | inl same ↦ subst (IsSkip state) (sym same) h
    | inr same ↦ subst (IsSkip state) (sym same) h'
  ]

  -- the skip that a search uses
  pub skip-known : (items state : RegionState X) → items ≡ state → (known skip : Skip) → IsSkip items known → (skip ≡ known) ⊎ (skip ≡ record { first = 0; next = 0; len = 0 }) → IsSkip state skip
  skip-known items state same known skip h is = skip-either state known record { first = 0; next = 0; len = 0 } skip (subst (λ r. IsSkip r known) same h) (skip-nothing state) is
