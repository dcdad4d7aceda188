-- An aggregate that is not refused over a schema has few tests, and needs only columns of the schema.
use Rattle.std.proofs.Common.{inl, inr, ◌≡◌, ℕ, ◌<◌, ◌≤◌, Bool, true, false, ◌||◌, ◌&&◌, cond, List, [], ◌∷◌, length, Option, None, Some, refl, subst, arith}
use Rattle.std.specs.Prelude.{◌==◌, not, nat_lt}
use Rattle.std.specs.List.{list_any, list_all}
use Rattle.std.specs.Option.{option_map_or}
use Rattle.std.proofs.lemmas.Bool.{eqb-true}
use Rattle.std.proofs.lemmas.Bool.Decides.{nat_tests}
use Rattle.far_types.specs.declared.cell.Kind.{Kind}
use Rattle.far_types.specs.declared.filter.Test.{Test}
use Rattle.far_types.specs.declared.refusal.Refusal.{Refusal}
use Rattle.far_types.specs.declared.spec.Spec.{Spec}
use Rattle.far_types.specs.Bounds.{column_of, has_long_constant, needs, is_within, spec_refusal}
use Rattle.far_aggregates.specs.Lending.{IsServed}
use Rattle.far_aggregates.proofs.LendingLaws.{or-cases}

-- if no refusal of a list is due, the first is not due and none of the rest is
not-first : (b : Bool) (r : Refusal) (rest : Option Refusal) → cond b (Some r) rest ≡ None → (b ≡ false) × (rest ≡ None)
not-first true r rest h = cc
not-first false r rest h = (refl, h)

or-false : (a b : Bool) → (a || b) ≡ false → a ≡ false
or-false true b h = cc
or-false false b h = refl

not-false : (b : Bool) → not b ≡ false → b ≡ true
not-false true h = refl
not-false false h = cc

and-left : (a b : Bool) → (a && b) ≡ true → a ≡ true
and-left true b h = refl
and-left false b h = cc

and-right : (a b : Bool) → (a && b) ≡ true → b ≡ true
and-right true b h = h
and-right false b h = cc

few-tests : (n : ℕ) → nat_lt 4 n ≡ false → n ≤ 4
few-tests n h = grind (arith, nat_tests)

below : (c n : ℕ) → nat_lt c n ≡ true → c < n
below c n h = grind (arith, nat_tests)

tested-within : (tests : List Test) (n c : ℕ) → list_all (λ test. nat_lt (column_of test) n) tests ≡ true → list_any (λ test. column_of test == c) tests ≡ true → c < n
tested-within [] n c h k = cc
tested-within (test ∷ tests) n c h k =
    let all = list_all (λ (t : Test). nat_lt (column_of t) n) tests in
    elim (or-cases (column_of test == c) (list_any (λ t. column_of t == c) tests) k) [
      | inl e ↦ subst (λ m. m < n) (eqb-true (column_of test) c e) (below (column_of test) n (and-left (nat_lt (column_of test) n) all h))
      | inr e ↦ tested-within tests n c (and-right (nat_lt (column_of test) n) all h) e
    ]

keyed-within : (key : Option ℕ) (n c : ℕ) → option_map_or (λ k. nat_lt k n) key true ≡ true → option_map_or (λ k. k == c) key false ≡ true → c < n
keyed-within None n c h k = cc
keyed-within (Some key) n c h k = subst (λ m. m < n) (eqb-true key c k) (below key n h)

needed-within : (spec : Spec) (n c : ℕ) → is_within n spec ≡ true → needs spec c ≡ true → c < n
needed-within spec n c h needed =
    let tests = list_all (λ (t : Test). nat_lt (column_of t) n) spec.filter in
    let key = option_map_or (λ k. nat_lt k n) spec.key true in
    let tested = list_any (λ t. column_of t == c) spec.filter in
    let keyed = option_map_or (λ k. k == c) spec.key false in
    let both = and-left (tests && key) (nat_lt spec.value n) h in
    elim (or-cases (tested || keyed) (spec.value == c) needed) [
      | inl e ↦ elim (or-cases tested keyed e) [
        | inl t ↦ tested-within spec.filter n c (and-left tests key both) t
        | inr k ↦ keyed-within spec.key n c (and-right tests key both) k
      ]
      | inr e ↦ subst (λ m. m < n) (eqb-true spec.value c e) (below spec.value n (and-right (tests && key) (nat_lt spec.value n) h))
    ]

pub served : (schema : List Kind) (spec : Spec) (has : ℕ → Bool) → spec_refusal schema spec ≡ None → ((c : ℕ) → c < length schema → has c ≡ true) → IsServed has spec
served schema spec has h all =
    let long = list_any has_long_constant spec.filter in
    let first = not-first (nat_lt 4 (length spec.filter) || long) _ _ h in
    let second = not-first (not (is_within (length schema) spec)) _ _ first.1 in
    let within = not-false (is_within (length schema) spec) second.0 in
    record {
      tests = few-tests (length spec.filter) (or-false (nat_lt 4 (length spec.filter)) long first.0);
      at_hand = λ c needed. all c (needed-within spec (length schema) c within needed);
    }
