-- What a write to a range of a segment's elements changes in its parts.
use Rattle.std.proofs.Common.{◌≡◌, ℕ, ◌+◌, ◌-◌, ◌<◌, ◌≤◌, true, false, List, [], ◌∷◌, ◌++◌, length, get_or, take, drop, map, cond, refl, sym, ap, ◌∙◌, inl, inr, arith, length-take, length-drop, length-append, get_or-take, get_or-drop}
use Rattle.std.specs.Prelude.{filter, sum_by, slice_range, IsSome, IsSomeAnd, Option, Some, None}
use Rattle.std.proofs.lemmas.Bool.{cases_lt}
use Rattle.std.proofs.lemmas.List.{get_or_append_left, get_or-append_right, same_lists, drop-take, take-take, take-append-le, drop-drop}
use Rattle.std.proofs.lemmas.List.Sums.{sum_by-cons}
use Rattle.far_log.specs.declared.extents.Extent.{Extent}
use Rattle.far_log.specs.RegionState.{Part, SegmentState, list_at}
use Rattle.far_log.specs.Effects.{after_write, written_over, after_overwrite}
use Rattle.far_log.specs.Storage.{AreAdjacent, extents_end, part_in, parts_in, IsStored}
use Rattle.far_log.proofs.StorageParts.{head-within, length-part}
use Rattle.far_log.proofs.StoragePartChanges.{shown}
use Rattle.far_log.proofs.StorageExtents.{some-extent, extent-within}

module _ {X : Type 0} where
  -- the elements of a prefix followed by another list
  at-first : (xs ys : List X) (i k : ℕ) (d : X) → k < i → k < length xs → get_or (take i xs ++ ys) k d ≡ get_or xs k d
  at-first xs ys i k d lt within = get_or_append_left (take i xs) ys d k (omega (arith, length-take i xs)) ∙ get_or-take i xs k d lt

  at-second : (xs ws rest : List X) (i k : ℕ) (d : X) → i ≤ length xs → i ≤ k → k < i + length ws → get_or (take i xs ++ (ws ++ rest)) k d ≡ get_or ws (k - i) d
  at-second xs ws rest i k d within from to =
      get_or-append_right (take i xs) (ws ++ rest) i k d (omega (arith, length-take i xs)) from ∙ get_or_append_left ws rest d (k - i) (omega arith)

  at-third : (xs ws rest : List X) (i k : ℕ) (d : X) → i ≤ length xs → i + length ws ≤ k → get_or (take i xs ++ (ws ++ rest)) k d ≡ get_or rest (k - (i + length ws)) d
  at-third xs ws rest i k d within from =
      let same : k - i - length ws ≡ k - (i + length ws) = omega arith in
      get_or-append_right (take i xs) (ws ++ rest) i k d (omega (arith, length-take i xs)) (omega arith)
      ∙ get_or-append_right ws rest (length ws) (k - i) d refl (omega arith) ∙ ap (λ n. get_or rest n d) same

  -- a block after ws is written over its elements from an index on
  abbrev over : List X → ℕ → List X → List X
  over items from ws = take from items ++ (ws ++ drop (length ws) (drop from items))

  abbrev pub block_over : List X → ℕ → List X → List X
  block_over items from ws = take (length items) (over items from ws ++ drop (length (over items from ws)) items)

  over-long : (items : List X) (from : ℕ) (ws : List X) → from ≤ length items → length items ≤ length (over items from ws)
  over-long items from ws le =
      omega (arith, length-append (take from items) (ws ++ drop (length ws) (drop from items)), length-append ws (drop (length ws) (drop from items)), length-take from items, length-drop (length ws) (drop from items), length-drop from items)

  pub length-block_over : (items : List X) (from : ℕ) (ws : List X) → from ≤ length items → length (block_over items from ws) ≡ length items
  length-block_over items from ws le =
      omega (arith, over-long items from ws le, length-take (length items) (over items from ws ++ drop (length (over items from ws)) items), length-append (over items from ws) (drop (length (over items from ws)) items))

  block-at : (items : List X) (from : ℕ) (ws : List X) (k : ℕ) (d : X) → from ≤ length items → k < length items → get_or (block_over items from ws) k d ≡ get_or (over items from ws) k d
  block-at items from ws k d le lt =
      get_or-take (length items) (over items from ws ++ drop (length (over items from ws)) items) k d lt
      ∙ get_or_append_left (over items from ws) (drop (length (over items from ws)) items) d k (omega (arith, over-long items from ws le))

  pub length-written_over : (xs : List X) (i : ℕ) (ws : List X) → length (written_over xs i ws) ≡ length xs
  length-written_over xs i ws =
      omega (arith, length-take (length xs) (take i xs ++ (ws ++ drop (i + length ws) xs)), length-append (take i xs) (ws ++ drop (i + length ws) xs), length-append ws (drop (i + length ws) xs), length-take i xs, length-drop (i + length ws) xs)

  -- the same element of a part, read from the block and from the part
  module _ (items : List X) (from : ℕ) (ws : List X) (o n k : ℕ) (d : X) (le : from ≤ length items) (within : o + n ≤ length items) (lt : k < n) where
    abbrev xs : List X
    xs = take n (drop o items)

    abbrev vs : List X
    vs = drop (o - from) ws

    length-xs : length xs ≡ n
    length-xs = omega (arith, length-take n (drop o items), length-drop o items)

    xs-at : get_or xs k d ≡ get_or items (o + k) d
    xs-at = get_or-take n (drop o items) k d lt ∙ get_or-drop o items k d

    in-block : get_or (take n (drop o (block_over items from ws))) k d ≡ get_or (over items from ws) (o + k) d
    in-block = get_or-take n (drop o (block_over items from ws)) k d lt ∙ get_or-drop o (block_over items from ws) k d ∙ block-at items from ws (o + k) d le (omega arith)

    in-part : get_or (written_over xs (from - o) vs) k d ≡ get_or (take (from - o) xs ++ (vs ++ drop ((from - o) + length vs) xs)) k d
    in-part = get_or-take (length xs) (take (from - o) xs ++ (vs ++ drop ((from - o) + length vs) xs)) k d (omega (arith, length-xs))

    pub same-at : get_or (take n (drop o (block_over items from ws))) k d ≡ get_or (written_over xs (from - o) vs) k d
    same-at =
        let long = length-xs in let rest = length-drop (o - from) ws in
        elim (cases_lt (o + k) from) [
          | inl before ↦ in-block ∙ at-first items (ws ++ drop (length ws) (drop from items)) from (o + k) d before (omega arith)
              ∙ sym (in-part ∙ at-first xs (vs ++ drop ((from - o) + length vs) xs) (from - o) k d (omega arith) (omega arith) ∙ xs-at)
          | inr behind ↦ elim (cases_lt (o + k) (from + length ws)) [
            | inl inside ↦
                let place : (o - from) + (k - (from - o)) ≡ o + k - from = omega arith in
                in-block ∙ at-second items ws (drop (length ws) (drop from items)) from (o + k) d le behind inside
                ∙ sym (in-part ∙ at-second xs vs (drop ((from - o) + length vs) xs) (from - o) k d (omega arith) (omega arith) (omega arith) ∙ get_or-drop (o - from) ws (k - (from - o)) d ∙ ap (λ j. get_or ws j d) place)
            | inr past ↦
                let here : from + (length ws + (o + k - (from + length ws))) ≡ o + k = omega arith in
                let there : (from - o) + length vs + (k - ((from - o) + length vs)) ≡ k = omega arith in
                in-block ∙ at-third items ws (drop (length ws) (drop from items)) from (o + k) d le past
                ∙ get_or-drop (length ws) (drop from items) (o + k - (from + length ws)) d ∙ get_or-drop from items (length ws + (o + k - (from + length ws))) d ∙ ap (λ j. get_or items j d) here
                ∙ sym (in-part ∙ at-third xs vs (drop ((from - o) + length vs) xs) (from - o) k d (omega arith) (omega arith) ∙ get_or-drop ((from - o) + length vs) xs (k - ((from - o) + length vs)) d ∙ ap (λ j. get_or xs j d) there ∙ xs-at)
          ]
        ]

  -- a part after a write to the block
  pub part-after_write : (items : List X) (from : ℕ) (ws : List X) (s : Extent) → from ≤ length items → s.offset + s.len ≤ length items → part_in (block_over items from ws) s ≡ after_overwrite from ws (part_in items s)
  part-after_write items from ws s le within =
      let old = length-part items s within in
      let new = length-part (block_over items from ws) s (omega (arith, length-block_over items from ws le)) in
      ap (λ xs. let p : Part X = record { offset = s.offset; list = xs } in p)
      (same_lists (take s.len (drop s.offset (block_over items from ws))) (written_over (take s.len (drop s.offset items)) (from - s.offset) (drop (s.offset - from) ws))
      (omega (arith, old, new, length-written_over (take s.len (drop s.offset items)) (from - s.offset) (drop (s.offset - from) ws)))
      (λ k d lt. same-at items from ws s.offset s.len k d le within (omega (arith, new))))

  pub parts-after_write : (items : List X) (at : ℕ) (ws : List X) (from : ℕ) (ss : List Extent) → at ≤ length items → AreAdjacent from ss → extents_end from ss ≤ length items
      → parts_in (block_over items at ws) ss ≡ map (after_overwrite at ws) (parts_in items ss)
  parts-after_write items at ws from [] le h end = refl
  parts-after_write items at ws from (s ∷ ss) le h end =
      let one = part-after_write items at ws s le (head-within items from s ss h end) in
      let later = parts-after_write items at ws (from + s.len) ss le h.2 end in
      elim s.live as (λ b. map (part_in (block_over items at ws)) (cond b (s ∷ filter (λ u. u.live) ss) (filter (λ u. u.live) ss)) ≡ map (after_overwrite at ws) (map (part_in items) (cond b (s ∷ filter (λ u. u.live) ss) (filter (λ u. u.live) ss)))) [
        | true ↦ rw (one, later) refl
        | false ↦ later
      ]

  -- a write over a stack is a write over a block that ends with the stack
  over-is : (items : List X) (at : ℕ) (ws : List X) → at ≤ length items → written_over items at ws ≡ block_over items at ws
  over-is items at ws le =
      ap (λ ys. take (length items) (take at items ++ (ws ++ ys))) (sym (drop-drop (length ws) at items))
      ∙ sym (take-append-le (length items) (over items at ws) (drop (length (over items at ws)) items) (over-long items at ws le))

  parts-over : (items : List X) (at : ℕ) (ws : List X) (ss : List Extent) → at ≤ length items → AreAdjacent 0 ss → extents_end 0 ss ≤ length items → parts_in (written_over items at ws) ss ≡ map (after_overwrite at ws) (parts_in items ss)
  parts-over items at ws ss le h end = ap (λ ys. parts_in ys ss) (over-is items at ws le) ∙ parts-after_write items at ws 0 ss le h end

  -- a range of a part, read from the block
  pub range-at : (items : List X) (o n from to : ℕ) → from ≤ to → to ≤ length (take n (drop o items)) → take (to - from) (drop from (take n (drop o items))) ≡ take (to - from) (drop (o + from) items)
  range-at items o n from to le within =
      let sum : from + (n - from) ≡ n = omega (arith, length-take n (drop o items)) in
      ap (λ m. take (to - from) (drop from (take m (drop o items)))) (sym sum)
      ∙ ap (take (to - from)) (drop-take from (n - from) (drop o items))
      ∙ take-take (to - from) (n - from) (drop from (drop o items)) (omega (arith, length-take n (drop o items)))
      ∙ ap (take (to - from)) (drop-drop from o items)

  pub record IsRange (items : List X) (ss : List Extent) (o from to : ℕ) : Type 0 where
    pub within : o + to ≤ length items
    pub value : IsSomeAnd (list_at (parts_in items ss) o) (λ list. take (to - from) (drop (o + from) items) ≡ slice_range list from to)

  pub range-of : (items : List X) (ss : List Extent) (o from to : ℕ) → AreAdjacent 0 ss → extents_end 0 ss ≤ length items → from ≤ to → IsSomeAnd (list_at (parts_in items ss) o) (λ list. to ≤ length list) → IsRange items ss o from to
  range-of items ss o from to h end le some =
      let found = some-extent items ss o (some-from (λ (list : List X). to ≤ length list) (list_at (parts_in items ss) o) some) in
      let s : Extent = found.1.0 in
      let shows = found.1.1.shows in
      let long : to ≤ length (take s.len (drop s.offset items)) = rw shows at some in
      let value : take (to - from) (drop (s.offset + from) items) ≡ slice_range (take s.len (drop s.offset items)) from to = sym (range-at items s.offset s.len from to le long) in
      let begins : s.offset ≡ o = found.1.1.begins in
      record {
        within = omega (arith, extent-within 0 ss found.0 s h found.1.1.here, long, length-take s.len (drop s.offset items), begins);
        value = rw shows (ap (λ n. take (to - from) (drop (n + from) items)) (sym begins) ∙ value);
      }
    where
      some-from : {A : Type 0} (P : A → Type 0) (o : Option A) → IsSomeAnd o P → IsSome o
      some-from P (Some x) h = refl
      some-from P None h = absurd h

  -- a write keeps the lengths of lists
  sum-after_overwrite : (at : ℕ) (ws : List X) (ps : List (Part X)) → sum_by (λ p. length p.list) (map (after_overwrite at ws) ps) ≡ sum_by (λ p. length p.list) ps
  sum-after_overwrite at ws [] = refl
  sum-after_overwrite at ws (p ∷ ps) =
      let same : length (after_overwrite at ws p).list ≡ length p.list = length-written_over p.list (at - p.offset) (drop (p.offset - at) ws) in
      omega (arith, same, sum-after_overwrite at ws ps, sum_by-cons (λ (q : Part X). length q.list) (after_overwrite at ws p) (map (after_overwrite at ws) ps), sum_by-cons (λ (q : Part X). length q.list) p ps)

  -- a stack after a range of it was borrowed
  pub stored-after_write : (items : List X) (ss : List Extent) (used size at : ℕ) (ws : List X) → IsStored items ss used size → at ≤ length items → IsStored (written_over items at ws) ss used size
  stored-after_write items ss used size at ws h le =
      let long = length-written_over items at ws in
      let parts = parts-over items at ws ss le h.adjacent (omega (arith, h.end)) in
      record {
        adjacent = h.adjacent;
        end = omega (arith, long, h.end);
        live = h.live;
        sum = omega (arith, h.sum, ap (sum_by (λ (p : Part X). length p.list)) parts, sum-after_overwrite at ws (parts_in items ss));
        enough = omega (arith, h.enough, long);
        small = h.small;
      }

  pub shown-after_write : (items : List X) (ss : List Extent) (used size at : ℕ) (ws : List X) → IsStored items ss used size → at ≤ length items → shown (written_over items at ws) ss size ≡ after_write (shown items ss size) at ws
  shown-after_write items ss used size at ws h le =
      ap (λ ps. let r : SegmentState X = record { parts = ps; size = size } in r) (parts-over items at ws ss le h.adjacent (omega (arith, h.end)))
