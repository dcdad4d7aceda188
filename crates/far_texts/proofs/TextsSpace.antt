-- A column whose last row group has space for one more text.
use Rattle.std.proofs.Common.{◌≡◌, ◌≢◌, inl, inr, ◌*◌, ◌<◌, ◌≤◌, false, length, sym, ap, subst, ◌∙◌, arith}
use Rattle.std.proofs.lemmas.Bool.{eqb-false, cases_lt}
use Rattle.far_texts.specs.Texts.{Texts, HasGroups}
use Rattle.far_texts.specs.Effects.{begins_group}

module _ (c : Texts) (has : HasGroups c) (begins : begins_group c ≡ false) where
  pub not-full : c.len ≢ length c.objects * c.size
  not-full full = eqb-false c.len (length c.objects * c.size) begins full

  -- there is a row group
  pub some-group : 0 < length c.objects
  some-group = elim (cases_lt 0 (length c.objects)) [
    | inl some ↦ some
    | inr none ↦ absurd (not-full (let zero_groups : length c.objects ≡ 0 = omega (arith, none) in let held : c.len ≤ 0 * c.size = subst (λ n. c.len ≤ n * c.size) zero_groups has.held in let empty : c.len ≡ 0 * c.size = omega (arith, held) in empty ∙ ap (λ n. n * c.size) (sym zero_groups)))
  ]
