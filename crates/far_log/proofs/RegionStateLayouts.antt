-- Parts do not overlap after each change, and which list is at which offset.
use Rattle.std.proofs.Common.{◌≡◌, ◌≢◌, ℕ, ◌+◌, ◌-◌, ◌<◌, ◌≤◌, Bool, true, false, List, [], ◌∷◌, ◌++◌, length, take, drop, map, Option, Some, None, IsSome, cond, eqb, refl, sym, ap, ◌∙◌, inl, inr, arith, length-take, length-drop, length-append}
use Rattle.std.specs.Prelude.{filter, not, slice_range, IsSomeAnd}
use Rattle.std.proofs.lemmas.Bool.{eq-eqb, ne_eqb, cases_eq, cases_lt}
use Rattle.std.proofs.lemmas.Option.{same_Some, none-some}
use Rattle.std.proofs.lemmas.List.{take_all, take_at, drop_all}
use Rattle.far_log.specs.RegionState.{Part, SegmentState, end_of, fill_from, fill_of, space_in, IsLayoutFrom, IsLayout, list_at}
use Rattle.far_log.specs.Effects.{with_part, without_part, with_list, after_write, written_over, after_overwrite, replaced}

module _ {X : Type 0} where
  -- a layout from an offset on is a layout from any lower offset on
  pub layout-before : (f from size : ℕ) (ps : List (Part X)) → f ≤ from → IsLayoutFrom from ps size → IsLayoutFrom f ps size
  layout-before f from size [] le h = omega arith
  layout-before f from size (p ∷ ps) le h = (omega (arith, h.0), h.1, h.2)

  -- the fill is within the size, and the parts begin before it
  pub from-le-fill : (from size : ℕ) (ps : List (Part X)) → IsLayoutFrom from ps size → from ≤ fill_from from ps
  from-le-fill from size [] h = omega arith
  from-le-fill from size (p ∷ ps) h = let later = from-le-fill (end_of p) size ps h.2 in omega (arith, h.0)

  pub fill-le-size : (from size : ℕ) (ps : List (Part X)) → IsLayoutFrom from ps size → fill_from from ps ≤ size
  fill-le-size from size [] h = h
  fill-le-size from size (p ∷ ps) h = fill-le-size (end_of p) size ps h.2

  -- with one more part
  pub fill-push : (from : ℕ) (ps : List (Part X)) (q : Part X) → fill_from from (ps ++ q ∷ []) ≡ end_of q
  fill-push from [] q = refl
  fill-push from (p ∷ ps) q = fill-push (end_of p) ps q

  layout-push : (from size : ℕ) (ps : List (Part X)) (q : Part X) → IsLayoutFrom from ps size → fill_from from ps ≤ q.offset → 0 < length q.list → end_of q ≤ size → IsLayoutFrom from (ps ++ q ∷ []) size
  layout-push from size [] q h le some within = (le, some, within)
  layout-push from size (p ∷ ps) q h le some within = (h.0, h.1, layout-push (end_of p) size ps q h.2 le some within)

  pub layout-with_part : (s : SegmentState X) (list : List X) → IsLayout s → 0 < length list → length list ≤ space_in s → IsLayout (with_part s list)
  layout-with_part s list h some fits =
      layout-push 0 s.size s.parts record { offset = fill_of s; list = list } h (omega arith) some (omega (arith, fill-le-size 0 s.size s.parts h))

  pub space-with_part : (s : SegmentState X) (list : List X) → space_in (with_part s list) ≡ space_in s - length list
  space-with_part s list = omega (arith, fill-push 0 s.parts record { offset = fill_of s; list = list })

  -- without a part
  layout-filter : (from size : ℕ) (ps : List (Part X)) (test : Part X → Bool) → IsLayoutFrom from ps size → IsLayoutFrom from (filter test ps) size
  layout-filter from size [] test h = h
  layout-filter from size (p ∷ ps) test h =
      let later = layout-filter (end_of p) size ps test h.2 in
      elim (test p) as (λ b. IsLayoutFrom from (cond b (p ∷ filter test ps) (filter test ps)) size) [
        | true ↦ (h.0, h.1, later)
        | false ↦ layout-before from (end_of p) size (filter test ps) (omega (arith, h.0)) later
      ]

  pub layout-without_part : (s : SegmentState X) (offset : ℕ) → IsLayout s → IsLayout (without_part s offset)
  layout-without_part s offset h = layout-filter 0 s.size s.parts (λ p. not (eqb p.offset offset)) h

  -- after a write
  length-over : (xs : List X) (i : ℕ) (ws : List X) → length (written_over xs i ws) ≡ length xs
  length-over xs i ws =
      omega (arith, length-take (length xs) (take i xs ++ (ws ++ drop (i + length ws) xs)), length-append (take i xs) (ws ++ drop (i + length ws) xs), length-append ws (drop (i + length ws) xs), length-take i xs, length-drop (i + length ws) xs)

  layout-after_overwrite : (from size at : ℕ) (ws : List X) (ps : List (Part X)) → IsLayoutFrom from ps size → IsLayoutFrom from (map (after_overwrite at ws) ps) size
  layout-after_overwrite from size at ws [] h = h
  layout-after_overwrite from size at ws (p ∷ ps) h =
      let long : length (written_over p.list (at - p.offset) (drop (p.offset - at) ws)) ≡ length p.list = length-over p.list (at - p.offset) (drop (p.offset - at) ws) in
      let later = layout-after_overwrite (end_of p) size at ws ps h.2 in
      (h.0, omega (arith, h.1, long), layout-before (p.offset + length (written_over p.list (at - p.offset) (drop (p.offset - at) ws))) (end_of p) size (map (after_overwrite at ws) ps) (omega (arith, long)) later)

  fill-after_overwrite : (from at : ℕ) (ws : List X) (ps : List (Part X)) → fill_from from (map (after_overwrite at ws) ps) ≡ fill_from from ps
  fill-after_overwrite from at ws [] = refl
  fill-after_overwrite from at ws (p ∷ ps) =
      let long : length (written_over p.list (at - p.offset) (drop (p.offset - at) ws)) ≡ length p.list = length-over p.list (at - p.offset) (drop (p.offset - at) ws) in
      ap (λ n. fill_from (p.offset + n) (map (after_overwrite at ws) ps)) long ∙ fill-after_overwrite (end_of p) at ws ps

  pub space-after_write : (s : SegmentState X) (at : ℕ) (ws : List X) → space_in (after_write s at ws) ≡ space_in s
  space-after_write s at ws = ap (λ n. s.size - n) (fill-after_overwrite 0 at ws s.parts)

  pub layout-after_write : (s : SegmentState X) (at : ℕ) (ws : List X) → IsLayout s → IsLayout (after_write s at ws)
  layout-after_write s at ws h = layout-after_overwrite 0 s.size at ws s.parts h

  -- the list at an offset
  pub no-list-before : (from size : ℕ) (ps : List (Part X)) (offset : ℕ) → IsLayoutFrom from ps size → offset < from → list_at ps offset ≡ None
  no-list-before from size [] offset h lt = refl
  no-list-before from size (p ∷ ps) offset h lt =
      rw (ne_eqb p.offset offset (λ e. omega (arith, h.0))) (no-list-before (end_of p) size ps offset h.2 (omega (arith, h.0)))

  pub no-list-at-fill : (from size : ℕ) (ps : List (Part X)) → IsLayoutFrom from ps size → list_at ps (fill_from from ps) ≡ None
  no-list-at-fill from size [] h = refl
  no-list-at-fill from size (p ∷ ps) h =
      let le = from-le-fill (end_of p) size ps h.2 in
      rw (ne_eqb p.offset (fill_from (end_of p) ps) (λ e. omega (arith, h.1))) (no-list-at-fill (end_of p) size ps h.2)

  list-push-other : (ps : List (Part X)) (q : Part X) (offset : ℕ) → q.offset ≢ offset → list_at (ps ++ q ∷ []) offset ≡ list_at ps offset
  list-push-other [] q offset ne = rw (ne_eqb q.offset offset ne) refl
  list-push-other (p ∷ ps) q offset ne = ap (cond (eqb p.offset offset) (Some p.list)) (list-push-other ps q offset ne)

  list-push-same : (ps : List (Part X)) (q : Part X) → list_at ps q.offset ≡ None → list_at (ps ++ q ∷ []) q.offset ≡ Some q.list
  list-push-same [] q none = rw (eq-eqb q.offset q.offset refl) refl
  list-push-same (p ∷ ps) q none =
      elim (cases_eq p.offset q.offset) [
        | inl same ↦ absurd (let yes = eq-eqb p.offset q.offset same in let no : Some p.list ≡ None = rw yes at none in cc)
        | inr other ↦ let no = ne_eqb p.offset q.offset other in rw no (list-push-same ps q (rw no at none))
      ]

  pub list-others : (ps : List (Part X)) (offset q : ℕ) → q ≢ offset → list_at (filter (λ p. not (eqb p.offset offset)) ps) q ≡ list_at ps q
  list-others [] offset q ne = refl
  list-others (p ∷ ps) offset q ne =
      elim (cases_eq p.offset offset) [
        | inl same ↦ rw (eq-eqb p.offset offset same, ne_eqb p.offset q (λ e. ne (sym e ∙ same))) (list-others ps offset q ne)
        | inr other ↦ rw (ne_eqb p.offset offset other) (ap (cond (eqb p.offset q) (Some p.list)) (list-others ps offset q ne))
      ]

  list-gone : (ps : List (Part X)) (offset : ℕ) → list_at (filter (λ p. not (eqb p.offset offset)) ps) offset ≡ None
  list-gone [] offset = refl
  list-gone (p ∷ ps) offset =
      elim (cases_eq p.offset offset) [
        | inl same ↦ rw (eq-eqb p.offset offset same) (list-gone ps offset)
        | inr other ↦ let no = ne_eqb p.offset offset other in rw (no, no) (list-gone ps offset)
      ]

  list-replaced-other : (ps : List (Part X)) (offset q : ℕ) (list : List X) → q ≢ offset → list_at (map (replaced offset list) ps) q ≡ list_at ps q
  list-replaced-other [] offset q list ne = refl
  list-replaced-other (p ∷ ps) offset q list ne =
      elim (cases_eq p.offset offset) [
        | inl same ↦ let no = ne_eqb p.offset q (λ e. ne (sym e ∙ same)) in rw (eq-eqb p.offset offset same, no) (list-replaced-other ps offset q list ne)
        | inr other ↦ rw (ne_eqb p.offset offset other) (ap (cond (eqb p.offset q) (Some p.list)) (list-replaced-other ps offset q list ne))
      ]

  list-replaced-same : (ps : List (Part X)) (offset : ℕ) (list : List X) → IsSome (list_at ps offset) → list_at (map (replaced offset list) ps) offset ≡ Some list
  list-replaced-same [] offset list some = absurd (cc)
  list-replaced-same (p ∷ ps) offset list some =
      elim (cases_eq p.offset offset) [
        | inl same ↦ let yes = eq-eqb p.offset offset same in rw (yes, yes) refl
        | inr other ↦ let no = ne_eqb p.offset offset other in rw (no, no) (list-replaced-same ps offset list (rw no at some))
      ]

-- the parts of a segment are unchanged, except that the list at an offset is `now`
pub record ChangesList {X : Type 0} (old new : SegmentState X) (offset : ℕ) (now : Option (List X)) : Type 0 where
  pub here : list_at new.parts offset ≡ now
  pub others : (q : ℕ) → q ≢ offset → list_at new.parts q ≡ list_at old.parts q

module _ {X : Type 0} (s : SegmentState X) where
  pub changes-placed : (list : List X) → IsLayout s → ChangesList s (with_part s list) (fill_of s) (Some list)
  changes-placed list h = record {
    here = list-push-same s.parts record { offset = fill_of s; list = list } (no-list-at-fill 0 s.size s.parts h);
    others = λ q ne. list-push-other s.parts record { offset = fill_of s; list = list } q (λ e. ne (sym e));
  }

  pub changes-dropped : (offset : ℕ) → ChangesList s (without_part s offset) offset None
  changes-dropped offset = record { here = list-gone s.parts offset; others = list-others s.parts offset }

  pub changes-replaced : (offset : ℕ) (list : List X) → IsSome (list_at s.parts offset) → ChangesList s (with_list s offset list) offset (Some list)
  changes-replaced offset list some = record { here = list-replaced-same s.parts offset list some; others = λ q ne. list-replaced-other s.parts offset q list ne }

module _ {X : Type 0} where
  -- a write that does not reach a part does not change it
  pub written-before : (xs ws : List X) (i : ℕ) → length xs ≤ i → written_over xs i ws ≡ xs
  written-before xs ws i le = ap (λ ys. take (length xs) (ys ++ (ws ++ drop (i + length ws) xs))) (take_all i xs le) ∙ take_at xs (ws ++ drop (i + length ws) xs) (length xs) refl

  pub written-none : (xs ws : List X) (i n : ℕ) → i ≡ 0 → length ws ≤ n → written_over xs i (drop n ws) ≡ xs
  written-none xs ws i n z le = rw (z, drop_all n ws le) (take_all (length xs) xs (omega arith))

  later-same : (f size o i : ℕ) (ws list : List X) (ps : List (Part X)) → IsLayoutFrom f ps size → o + i + length ws ≤ f → o < f → map (after_overwrite (o + i) ws) ps ≡ map (replaced o list) ps
  later-same f size o i ws list [] h le lt = refl
  later-same f size o i ws list (p ∷ ps) h le lt =
      let same : written_over p.list (o + i - p.offset) (drop (p.offset - (o + i)) ws) ≡ p.list = written-none p.list ws (o + i - p.offset) (p.offset - (o + i)) (omega (arith, h.0)) (omega (arith, h.0)) in
      let no = ne_eqb p.offset o (λ e. omega (arith, h.0)) in
      let later = later-same (end_of p) size o i ws list ps h.2 (omega (arith, h.0)) (omega (arith, h.0)) in
      rw (same, no, later) refl

  -- a write within a part changes only that part
  parts-after_write-one : (f size o i : ℕ) (ws xs : List X) (ps : List (Part X)) → IsLayoutFrom f ps size → list_at ps o ≡ Some xs → i + length ws ≤ length xs
      → map (after_overwrite (o + i) ws) ps ≡ map (replaced o (written_over xs i ws)) ps
  parts-after_write-one f size o i ws xs [] h e le = absurd (cc)
  parts-after_write-one f size o i ws xs (p ∷ ps) h e le =
      elim (cases_eq p.offset o) [
        | inl same ↦
            let yes = eq-eqb p.offset o same in
            let list : p.list ≡ xs = same_Some p.list xs (rw yes at e) in
            let long : length p.list ≡ length xs = ap (λ (ys : List X). length ys) list in
            let front : o + i - p.offset ≡ i = omega arith in
            let none : p.offset - (o + i) ≡ 0 = omega arith in
            let later = later-same (end_of p) size o i ws (written_over xs i ws) ps h.2 (omega arith) (omega (arith, h.1)) in
            rw (yes, front, none, list, later) refl
        | inr other ↦
            let no = ne_eqb p.offset o other in
            let rest : list_at ps o ≡ Some xs = rw no at e in
            let behind : end_of p ≤ o = elim (cases_lt o (end_of p)) [ inl under ↦ absurd (let none = no-list-before (end_of p) size ps o h.2 under in none-some xs (sym none ∙ rest)) | inr over ↦ over ] in
            let none : p.offset - (o + i) ≡ 0 = omega arith in
            let same : written_over p.list (o + i - p.offset) ws ≡ p.list = written-before p.list ws (o + i - p.offset) (omega arith) in
            let later = parts-after_write-one (end_of p) size o i ws xs ps h.2 rest le in
            rw (no, none, same, later) refl
      ]

  pub after_write-one : (s : SegmentState X) (o i : ℕ) (ws xs : List X) → IsLayout s → list_at s.parts o ≡ Some xs → i + length ws ≤ length xs → after_write s (o + i) ws ≡ with_list s o (take i xs ++ (ws ++ drop (i + length ws) xs))
  after_write-one s o i ws xs h e le =
      let whole : written_over xs i ws ≡ take i xs ++ (ws ++ drop (i + length ws) xs) =
      take_all (length xs) (take i xs ++ (ws ++ drop (i + length ws) xs))
      (omega (arith, length-append (take i xs) (ws ++ drop (i + length ws) xs), length-append ws (drop (i + length ws) xs), length-take i xs, length-drop (i + length ws) xs)) in
      ap (λ ps. let r : SegmentState X = record { parts = ps; size = s.size } in r) (parts-after_write-one 0 s.size o i ws xs s.parts h e le ∙ ap (λ ys. map (replaced o ys) s.parts) whole)

  -- the range of a list from its beginning to its end
  pub whole-range : (o : Option (List X)) (xs lent : List X) → o ≡ Some xs → IsSomeAnd o (λ list. lent ≡ slice_range list 0 (length xs)) → o ≡ Some lent
  whole-range o xs lent e h =
      let is : lent ≡ slice_range xs 0 (length xs) = rw e at h in
      e ∙ ap Some (sym (is ∙ take_all (length xs - 0) xs (omega arith)))

  -- no part begins past the segment's end
  pub no-list-behind : (from size : ℕ) (ps : List (Part X)) (offset : ℕ) → IsLayoutFrom from ps size → size ≤ offset → list_at ps offset ≡ None
  no-list-behind from size [] offset h le = refl
  no-list-behind from size (p ∷ ps) offset h le =
      let within = from-le-fill (end_of p) size ps h.2 in
      rw (ne_eqb p.offset offset (λ e. omega (arith, within, fill-le-size (end_of p) size ps h.2, h.1))) (no-list-behind (end_of p) size ps offset h.2 le)
