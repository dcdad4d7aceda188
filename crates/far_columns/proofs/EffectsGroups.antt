-- One more row group, and one less.
use Rattle.std.proofs.Common.{◌≡◌, ◌≢◌, ℕ, suc, ◌+◌, ◌-◌, ◌*◌, ◌/◌, ◌<◌, ◌^◌, List, [], ◌∷◌, ◌++◌, length, take, drop, set, get_or, replicate, Option, Some, refl, sym, ap, subst, ◌∙◌, arith, length-append}
use Rattle.std.specs.Prelude.{All, IsSomeAnd, slice_get, slice_index}
use Rattle.std.proofs.lemmas.List.{length-take-le, append-nil, length-replicate, take_all, take-take, drop_all, get_or-take, get_or_at}
use Rattle.std.proofs.lemmas.Nat.{div-mul-add}
use Rattle.std.proofs.lemmas.List.Elements.{All-push, All-take}
use Rattle.std.proofs.lemmas.List.Quantifiers.{all_pairs_push}
use Rattle.far_columns.specs.Vector.{Vector, IsShaped, IsVector, IsUntouched, AreDisjoint, KeepsOthers, places, elements}
use Rattle.far_columns.specs.Effects.{next_group, after_unpush}
use Rattle.far_columns.proofs.VectorPlaces.{list_at, places-append, places-unchanged, places-split, before-disjoint, length-before}
use Rattle.far_columns.proofs.VectorLaws.{length-all}
use Rattle.far_columns.proofs.VectorWrites.{take-after, drop-after}
use Rattle.far_columns.proofs.VectorDisjointness.{vector-unchanged, elements-unchanged, untouched}

module _ {X : Type 0} (v : Vector X) (o : ℕ) where
  -- a vector with one more row group, which has one element and object o
  abbrev pub begun : Vector X
  begun = record v { objects = v.objects ++ o ∷ []; len = v.len + 1 }

  pub shaped-begun : IsShaped v → v.len ≡ length v.objects * v.size → All (λ p. p < o) v.objects → length v.objects < 2 ^ 28 → IsShaped begun
  shaped-begun shaped full below few =
      let long = length-append v.objects (o ∷ []) in
      record {
        some = shaped.some;
        short = shaped.short;
        few = omega (arith, long, few);
        sorted = all_pairs_push (λ p q. p < q) v.objects o shaped.sorted below;
        enough = rw long (omega (arith, full, shaped.some));
        needed = rw long (omega (arith, full));
      }

  pub object-begun : IsShaped v → v.len ≡ length v.objects * v.size → slice_index (v.objects ++ o ∷ []) (v.len / v.size) ≡ o
  object-begun shaped full =
      let whole : v.len ≡ length v.objects * v.size + 0 = omega (arith, full) in
      let g : v.len / v.size ≡ length v.objects = ap (λ n. n / v.size) whole ∙ div-mul-add (length v.objects) v.size 0 shaped.some in
      ap (λ n. get_or (v.objects ++ o ∷ []) n 0) g ∙ get_or_at v.objects o [] 0 (length v.objects) refl

-- the list from which a row group is made, with the row group's first element
pub layout-first : {X : Type 0} (next : List X) (x default_value : X) (size : ℕ) → 0 < size → length next ≡ size → drop 1 next ≡ replicate (size - 1) default_value → set next 0 x ≡ x ∷ replicate (size - 1) default_value
layout-first [] x default_value size some long rest = absurd (omega (arith, some, long))
layout-first (y ∷ next) x default_value size some long rest = ap (λ l. x ∷ l) rest

module _ {X : Type 0} (old new : ℕ → Option (List X)) (v : Vector X) (shaped : IsShaped v) (is : IsVector old v) (full : v.len ≡ length v.objects * v.size) (o : ℕ) (others : KeepsOthers old new o) (x : X) (has : new o ≡ Some (next_group v x)) (below : All (λ p. p < o) v.objects) where
  same-lists : All (λ p. new p ≡ old p) v.objects
  same-lists k d within = others (get_or v.objects k d) (λ e. omega (arith, below k d within, e))

  all-begun : places new (v.objects ++ o ∷ []) ≡ places old v.objects ++ next_group v x
  all-begun = places-append new v.objects o ∙ ap (λ l. l ++ list_at new o) (places-unchanged old new v.objects same-lists) ∙ (rw has refl)

  all-long : length (places old v.objects) ≡ v.len
  all-long = length-all old v shaped is ∙ sym full

  pub elements-begun : elements new (begun v o) ≡ elements old v ++ x ∷ []
  elements-begun =
      ap (take (v.len + 1)) all-begun
      ∙ take-after (places old v.objects) (next_group v x) 1 (v.len + 1) (omega (arith, all-long))
      ∙ ap (λ l. l ++ x ∷ []) (sym (take_all v.len (places old v.objects) (omega (arith, all-long))))

  pub vector-begun : IsVector new (begun v o)
  vector-begun = record {
    whole = All-push (λ p. IsSomeAnd (new p) (λ list. length list ≡ v.size)) v.objects o (vector-unchanged old new v same-lists is).whole (rw has (let n = length-replicate (v.size - 1) v.default_value in omega (arith, n, shaped.some)));
    unused =
        ap (drop (v.len + 1)) all-begun
        ∙ drop-after (places old v.objects) (next_group v x) 1 (v.len + 1) (omega (arith, all-long))
        ∙ ap (λ n. replicate n v.default_value) (let long = length-append v.objects (o ∷ []) in let e : v.size - 1 ≡ length (v.objects ++ o ∷ []) * v.size - (v.len + 1) = rw long (omega (arith, full)) in e);
  }

  pub untouched-begun : (w : Vector X) → IsVector old w → All (λ p. p < o) w.objects → AreDisjoint v w → IsUntouched old new (begun v o) w
  untouched-begun w is-w below-w disjoint =
      let same : All (λ p. new p ≡ old p) w.objects = λ k d within. others (get_or w.objects k d) (λ e. omega (arith, below-w k d within, e)) in
      record {
        is = vector-unchanged old new w same is-w;
        elements = elements-unchanged old new w same;
        disjoint = All-push (λ q. All (λ p. q ≢ p) w.objects) v.objects o disjoint (λ k d within e. omega (arith, below-w k d within, e));
      }

-- the last row group, which has one element, is removed
module _ {X : Type 0} (old new : ℕ → Option (List X)) (v : Vector X) (shaped : IsShaped v) (is : IsVector old v) (alone : v.len ≡ (length v.objects - 1) * v.size + 1) (o : ℕ) (last : slice_get v.objects (length v.objects - 1) ≡ Some o) (others : KeepsOthers old new o) where
  abbrev others_of : List ℕ
  others_of = take (length v.objects - 1) v.objects

  rest-long : length others_of ≡ length v.objects - 1
  rest-long = length-take-le (length v.objects - 1) v.objects (omega arith)

  rest-lists : All (λ p. new p ≡ old p) others_of
  rest-lists k d within = others (get_or others_of k d) (before-disjoint v.objects shaped.sorted (length v.objects - 1) o last k d within)

  used-long : length (places old others_of) ≡ v.len - 1
  used-long = length-before old v.size v.objects is.whole (length v.objects - 1) o last ∙ (let e : (length v.objects - 1) * v.size ≡ v.len - 1 = omega (arith, alone) in e)

  pub elements-unpushed : elements new (after_unpush v) ≡ take (v.len - 1) (elements old v)
  elements-unpushed =
      ap (take (v.len - 1)) (places-unchanged old new others_of rest-lists)
      ∙ take_all (v.len - 1) (places old others_of) (omega (arith, used-long))
      ∙ sym (take-take (v.len - 1) v.len (places old v.objects) (omega arith)
      ∙ ap (take (v.len - 1)) (places-split old v.objects (length v.objects - 1) o last)
      ∙ take-after (places old others_of) (list_at old o ++ places old (drop (suc (length v.objects - 1)) v.objects)) 0 (v.len - 1) (omega (arith, used-long))
      ∙ append-nil (places old others_of))

  pub vector-unpushed : IsVector new (after_unpush v)
  vector-unpushed = record {
    whole = λ k d within. subst (λ list. IsSomeAnd list (λ l. length l ≡ v.size)) (sym (rest-lists k d within)) (All-take (λ p. IsSomeAnd (old p) (λ list. length list ≡ v.size)) (length v.objects - 1) v.objects is.whole k d within);
    unused =
        ap (drop (v.len - 1)) (places-unchanged old new others_of rest-lists)
        ∙ drop_all (v.len - 1) (places old others_of) (omega (arith, used-long))
        ∙ ap (λ n. replicate n v.default_value) (let e : 0 ≡ length others_of * v.size - (v.len - 1) = rw rest-long (omega (arith, alone)) in e);
  }

  pub untouched-unpushed : (w : Vector X) → IsVector old w → AreDisjoint v w → IsUntouched old new (after_unpush v) w
  untouched-unpushed w is-w disjoint =
      untouched old new v w is-w disjoint o others (length v.objects - 1) last (after_unpush v) (All-take (λ q. All (λ p. q ≢ p) w.objects) (length v.objects - 1) v.objects disjoint)

pub shaped-unpushed : {X : Type 0} (v : Vector X) → IsShaped v → 0 < length v.objects → v.len ≡ (length v.objects - 1) * v.size + 1 → IsShaped (after_unpush v)
shaped-unpushed v shaped some alone =
    let long : length (take (length v.objects - 1) v.objects) ≡ length v.objects - 1 = length-take-le (length v.objects - 1) v.objects (omega arith) in
    record {
      some = shaped.some;
      short = shaped.short;
      few = omega (arith, long, shaped.few);
      sorted = λ i j d less within. rw (get_or-take (length v.objects - 1) v.objects i d (omega (arith, less, within, long)), get_or-take (length v.objects - 1) v.objects j d (omega (arith, within, long))) (shaped.sorted i j d less (omega (arith, within, long)));
      enough = rw long (omega (arith, alone));
      needed = rw long (omega (arith, alone, shaped.some));
    }
