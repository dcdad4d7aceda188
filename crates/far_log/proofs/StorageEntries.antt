-- The extents and links of a table's entries.
use Rattle.std.proofs.Common.{◌≡◌, ℕ, zero, suc, ◌+◌, ◌-◌, ◌<◌, ◌≤◌, false, List, [], ◌∷◌, Some, length, get_or, take, drop, refl, sym, ap, ◌∙◌, arith, subst}
use Rattle.std.specs.Prelude.{slice_get, slice_set, option_map}
use Rattle.std.proofs.lemmas.List.{take-map, drop-map, map-set, get_or-take, get_or-drop}
use Rattle.std.proofs.lemmas.Option.{slice_get-map, slice_get-get_or}
use Rattle.far_log.specs.declared.extents.Extent.{Extent}
use Rattle.far_log.specs.declared.links.Link.{Link}
use Rattle.far_log.specs.declared.part_entry.PartEntry.{PartEntry}
use Rattle.far_log.specs.Storage.{extents_of, links_of, with_behind, with_before, emptied_at, IsSorted}
use Rattle.far_log.proofs.ChunkingLayout.{get-take, get-drop}
use Rattle.far_log.proofs.StorageParts.{at-or-behind, before}
use Rattle.far_log.proofs.StorageLinks.{emptied-is}

module _ (es : List PartEntry) where
  pub extent-is : (i : ℕ) (e : PartEntry) → slice_get es i ≡ Some e → slice_get (extents_of es) i ≡ Some e.extent
  extent-is i e h = slice_get-map (λ (u : PartEntry). u.extent) es i ∙ ap (option_map (λ (u : PartEntry). u.extent)) h

  pub link-is : (i : ℕ) (e : PartEntry) → slice_get es i ≡ Some e → slice_get (links_of es) i ≡ Some e.link
  link-is i e h = slice_get-map (λ (u : PartEntry). u.link) es i ∙ ap (option_map (λ (u : PartEntry). u.link)) h

-- comparing the offsets of two extents says which comes first
module _ (es : List PartEntry) (m k o : ℕ) (s : Extent) (d : PartEntry) (sorted : IsSorted (extents_of es)) (there : m < length es) where
  pub entry-behind : (get_or es m d).extent.offset ≤ o → slice_get (extents_of es) k ≡ Some s → s.offset ≡ o → m ≤ k
  entry-behind le e at = at-or-behind (extents_of es) m k o s (get_or es m d).extent sorted (extent-is es m (get_or es m d) (slice_get-get_or es m d there)) le e at

  pub entry-before : o < (get_or es m d).extent.offset → slice_get (extents_of es) k ≡ Some s → s.offset ≡ o → k < m
  entry-before lt e at = before (extents_of es) m k o s (get_or es m d).extent sorted (extent-is es m (get_or es m d) (slice_get-get_or es m d there)) lt e at

-- replacing a link changes no extent
pub extents-relinked : (es : List PartEntry) (i : ℕ) (e : PartEntry) (l : Link) → slice_get es i ≡ Some e → extents_of (slice_set es i record { extent = e.extent; link = l }) ≡ extents_of es
extents-relinked [] i e l h = refl
extents-relinked (d ∷ es) zero e l h = let same : d ≡ e = cc in rw same refl
extents-relinked (d ∷ es) (suc i) e l h = ap (λ ss. d.extent ∷ ss) (extents-relinked es i e l h)

pub links-behind : (es : List PartEntry) (i behind : ℕ) (e : PartEntry) → slice_get es i ≡ Some e → links_of (slice_set es i record { extent = e.extent; link = record (e.link) { behind = behind } }) ≡ with_behind (links_of es) i behind
links-behind [] i behind e h = refl
links-behind (d ∷ es) zero behind e h = let same : d ≡ e = cc in rw same refl
links-behind (d ∷ es) (suc i) behind e h = ap (λ ls. d.link ∷ ls) (links-behind es i behind e h)

pub links-before : (es : List PartEntry) (i before : ℕ) (e : PartEntry) → slice_get es i ≡ Some e → links_of (slice_set es i record { extent = e.extent; link = record (e.link) { before = before } }) ≡ with_before (links_of es) i before
links-before [] i before e h = refl
links-before (d ∷ es) zero before e h = let same : d ≡ e = cc in rw same refl
links-before (d ∷ es) (suc i) before e h = ap (λ ls. d.link ∷ ls) (links-before es i before e h)

-- an extent loses its part, and the extents past the last part are cut off
pub extents-emptied : (es : List PartEntry) (i n : ℕ) (e : PartEntry) → slice_get es i ≡ Some e → extents_of (take n (slice_set es i record { extent = record (e.extent) { live = false }; link = e.link })) ≡ take n (emptied_at (extents_of es) i)
extents-emptied es i n e h =
    sym (take-map (λ (u : PartEntry). u.extent) n _) ∙ ap (take n) (map-set (λ (u : PartEntry). u.extent) es i _ ∙ emptied-is (extents_of es) i e.extent (extent-is es i e h))

pub links-unchanged : (es : List PartEntry) (i n : ℕ) (e : PartEntry) (s : Extent) → slice_get es i ≡ Some e → links_of (take n (slice_set es i record { extent = s; link = e.link })) ≡ take n (links_of es)
links-unchanged es i n e s h = sym (take-map (λ (u : PartEntry). u.link) n _) ∙ ap (take n) (same_links es i h)
  where
    same_links : (es : List PartEntry) (i : ℕ) → slice_get es i ≡ Some e → links_of (slice_set es i record { extent = s; link = e.link }) ≡ links_of es
    same_links [] i h = refl
    same_links (d ∷ es) zero h = let same : d ≡ e = cc in rw same refl
    same_links (d ∷ es) (suc i) h = ap (λ ls. d.link ∷ ls) (same_links es i h)

module _ {X : Type 0} where
  within_take : (n : ℕ) (xs : List X) (i : ℕ) (x : X) → slice_get (take n xs) i ≡ Some x → slice_get xs i ≡ Some x
  within_take zero xs i x h = absurd (cc)
  within_take (suc n) [] i x h = absurd (cc)
  within_take (suc n) (y ∷ xs) zero x h = h
  within_take (suc n) (y ∷ xs) (suc i) x h = within_take n xs i x h

-- the extents of one chunk
module _ (es : List PartEntry) (from state : ℕ) where
  abbrev chunk : List PartEntry
  chunk = take state (drop from es)

  pub in-table : (i : ℕ) (s : Extent) → slice_get (extents_of chunk) i ≡ Some s → slice_get (extents_of es) (from + i) ≡ Some s
  in-table i s h =
      let here : slice_get (drop from (extents_of es)) i ≡ Some s = within_take state (drop from (extents_of es)) i s (subst (λ ss. slice_get ss i ≡ Some s) (sym (take-map (λ (u : PartEntry). u.extent) state (drop from es)) ∙ ap (take state) (sym (drop-map (λ (u : PartEntry). u.extent) from es))) h) in
      sym (get-drop from (extents_of es) i) ∙ here

  pub among : (part : List PartEntry) (i : ℕ) (d : PartEntry) → part ≡ chunk → i < length part → slice_get (extents_of es) (from + i) ≡ Some (get_or part i d).extent
  among part i d is lt = in-table i (get_or part i d).extent (subst (λ p. slice_get (extents_of p) i ≡ Some (get_or part i d).extent) is (extent-is part i (get_or part i d) (slice_get-get_or part i d lt)))

  pub in-part : (k : ℕ) (s : Extent) → slice_get (extents_of es) k ≡ Some s → from ≤ k → k < from + state → slice_get (extents_of chunk) (k - from) ≡ Some s
  in-part k s h le lt =
      let back : from + (k - from) ≡ k = omega (arith, le) in
      ap (λ ss. slice_get ss (k - from)) (sym (take-map (λ (u : PartEntry). u.extent) state (drop from es)) ∙ ap (take state) (sym (drop-map (λ (u : PartEntry). u.extent) from es)))
      ∙ get-take state (drop from (extents_of es)) (k - from) (omega (arith, le, lt)) ∙ get-drop from (extents_of es) (k - from) ∙ ap (slice_get (extents_of es)) back ∙ h

  pub part-sorted : IsSorted (extents_of es) → IsSorted (extents_of chunk)
  part-sorted h = λ j k s t e f lt. h (from + j) (from + k) s t (in-table j s e) (in-table k t f) (omega (arith, lt))

  -- the offset of a chunk's first extent says whether another extent is before that chunk
  module _ (d : PartEntry) (sorted : IsSorted (extents_of es)) (there : from < length es) (some : 0 < state) where
    first-is : get_or chunk 0 d ≡ get_or es from d
    first-is =
        let first : from + 0 ≡ from = omega arith in
        get_or-take state (drop from es) 0 d some ∙ get_or-drop from es 0 d ∙ ap (λ i. get_or es i d) first

    pub chunk-behind : (k o : ℕ) (s : Extent) → (get_or chunk 0 d).extent.offset ≤ o → slice_get (extents_of es) k ≡ Some s → s.offset ≡ o → from ≤ k
    chunk-behind k o s le e at = entry-behind es from k o s d sorted there (subst (λ (u : PartEntry). u.extent.offset ≤ o) first-is le) e at

    pub chunk-before : (k o : ℕ) (s : Extent) → o < (get_or chunk 0 d).extent.offset → slice_get (extents_of es) k ≡ Some s → s.offset ≡ o → k < from
    chunk-before k o s lt e at = entry-before es from k o s d sorted there (subst (λ (u : PartEntry). o < u.extent.offset) first-is lt) e at
