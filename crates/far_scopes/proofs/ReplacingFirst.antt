-- When the lists of several objects are replaced, the first new list is placed before the others.
use Rattle.std.proofs.Common.{◌≡◌, ◌≢◌, ℕ, ◌<◌, ◌-◌, true, false, inl, inr, List, ◌∷◌, length, Some, None, IsSome, refl, sym, ap, subst, ◌∙◌, arith}
use Rattle.std.specs.Prelude.{All, slice_index_or}
use Rattle.std.specs.Option.{option_and_then}
use Rattle.std.proofs.lemmas.Bool.{cases_eq}
use Rattle.std.proofs.lemmas.List.Elements.{All-head, All-tail, All-cons}
use Rattle.far_pointer.specs.declared.pointer.Pointer.{Pointer}
use Rattle.far_pointer.specs.declared.pointer.Pointer.TheVariants.{Local}
use Rattle.far_log.specs.RegionState.{part_of}
use Rattle.far_scopes.specs.declared.replacement.Replacement.{Replacement}
use Rattle.far_scopes.specs.Memory.{Memory, place_of, list_in, ChangesList}
use Rattle.far_scopes.specs.Placing.{spot, with_object}
use Rattle.far_scopes.specs.Replacing.{AreListedOnce, ChangesLists, IsUnlisted, replaced_all, after_take_over}
use Rattle.far_scopes.proofs.MemoryWordPlaces.{place-push_other, place-within, place-end}
use Rattle.far_scopes.proofs.ReplacingPlaces.{length-moved, last-between, place-last, place-first, after_take_over-is}
use Rattle.far_scopes.proofs.ReplacingRecords.{once-head, once-tail}

module _ {X : Type 0} (m : Memory X) (r : Replacement X) (rs lists : List (Replacement X)) (is : lists ≡ r ∷ rs)
    (local : All (λ s. IsSome (place_of m.words s.object)) lists) (once : AreListedOnce lists) (between : Memory X) (placed : between ≡ with_object m r.list.items) where
  abbrev IsPlaced : Replacement X → Type 0
  IsPlaced s = IsSome (place_of m.words s.object)

  locals : All IsPlaced (r ∷ rs)
  locals = subst (λ l. All IsPlaced l) is local

  onces : AreListedOnce (r ∷ rs)
  onces = subst (λ l. AreListedOnce l) is once

  within : All (λ s. s.object < length m.words) rs
  within k d lt = place-within m.words (slice_index_or rs k d).object (All-tail IsPlaced r rs locals k d lt)

  first-within : r.object < length m.words
  first-within = place-within m.words r.object (All-head IsPlaced r rs locals)

  disjoint : IsUnlisted rs r.object
  disjoint = once-head r rs onces

  pub once-rest : AreListedOnce rs
  once-rest = once-tail r rs onces

  pub local-rest : All (λ s. IsSome (place_of between.words s.object)) rs
  local-rest k d lt =
      let o : ℕ = (slice_index_or rs k d).object in
      let further : Pointer = Local (spot m.state (length r.list.items)) true true false in
      subst IsSome (sym (ap (λ w. place_of w.words o) placed ∙ place-push_other m.words further o (λ e. omega (arith, within k d lt, e)))) (All-tail IsPlaced r rs locals k d lt)

  module _ (done : Memory X) (all : done ≡ replaced_all between rs) where
    done-is : done ≡ replaced_all (with_object m r.list.items) rs
    done-is = all ∙ ap (λ w. replaced_all w rs) placed

    last-is : length done.words - 1 ≡ length m.words
    last-is = ap (λ w. length w.words - 1) done-is ∙ last-between m.words m.state r rs within

    pub first-other : r.object < length done.words - 1
    first-other = omega (arith, first-within, last-is)

    pub local-first : IsSome (place_of done.words r.object)
    local-first = subst IsSome (sym (ap (λ w. place_of w.words r.object) done-is ∙ place-first m.words m.state r rs within disjoint first-within)) (All-head IsPlaced r rs locals)

    pub local-last : IsSome (place_of done.words (length done.words - 1))
    local-last = subst IsSome (sym (ap (λ w. place_of w.words (length w.words - 1)) done-is ∙ place-last m.words m.state r rs within)) refl

    module _ (new : Memory X) (moved : new ≡ after_take_over done r.object) where
      pub replaced-is : new ≡ replaced_all m lists
      replaced-is = moved ∙ ap (λ w. after_take_over w r.object) done-is ∙ after_take_over-is m.words m.state r rs within disjoint first-within ∙ ap (replaced_all m) (sym is)

      none-past : (w : Memory X) → length w.words ≡ length m.words → list_in w (length m.words) ≡ None
      none-past w long = ap (λ n. option_and_then (part_of w.state) (place_of w.words n)) (sym long) ∙ ap (option_and_then (part_of w.state)) (place-end w.words)

      pub lists-replaced : ChangesList (list_in m) (list_in between) (length m.words) (Some r.list.items) → ChangesLists (list_in between) (list_in done) rs
          → list_in new r.object ≡ list_in done (length done.words - 1) → ((p : ℕ) → p ≢ r.object → p ≢ length done.words - 1 → list_in new p ≡ list_in done p) → ChangesLists (list_in m) (list_in new) lists
      lists-replaced first rest here others =
          let last-disjoint : IsUnlisted rs (length m.words) = λ k d lt e. omega (arith, within k d lt, e) in
          let long : length new.words ≡ length m.words = ap (λ w. length w.words) replaced-is ∙ length-moved m.state m.words lists in
          let head : list_in new r.object ≡ Some r.list.items = here ∙ ap (list_in done) last-is ∙ rest.others (length m.words) last-disjoint ∙ first.here in
          let tail : All (λ (s : Replacement X). list_in new s.object ≡ Some s.list.items) rs =
          λ k d lt. others (slice_index_or rs k d).object (λ e. disjoint k d lt (sym e)) (λ e. omega (arith, within k d lt, last-is, e)) ∙ rest.here k d lt in
          record {
            here = subst (λ l. All (λ (s : Replacement X). list_in new s.object ≡ Some s.list.items) l) (sym is) (All-cons (λ (s : Replacement X). list_in new s.object ≡ Some s.list.items) r rs head tail);
            others = λ p un.
                let un' : IsUnlisted (r ∷ rs) p = subst (λ l. IsUnlisted l p) is un in
                elim (cases_eq p (length m.words)) [
                  | inl same ↦ ap (list_in new) same ∙ none-past new long ∙ sym (none-past m refl) ∙ ap (list_in m) (sym same)
                  | inr ne ↦ others p (All-head (λ (s : Replacement X). p ≢ s.object) r rs un') (λ e. ne (e ∙ last-is)) ∙ rest.others p (All-tail (λ (s : Replacement X). p ≢ s.object) r rs un') ∙ first.others p ne
                ];
          }
