use Rattle.std.proofs.Common.{◌≡◌, ◌<◌, List, Option, length, refl, Some, None, sym, ap, ◌∙◌, subst}
use Rattle.std.specs.Prelude.{ℤ, ◌≤ℤ◌, IfSome}
use Rattle.std.proofs.lemmas.Int.{to_z-of_z}
use Rattle.std.specs.FinMap as fin
use Rattle.far_types.specs.Answers.{Extrema}
use Rattle.far_types.specs.Effects.{with_observed, min_max_with}
use Rattle.far_extrema.specs.Live.{ExtremaState, group_at}
use Rattle.far_aggregates.specs.Known.{AreKnown}
use Rattle.far_aggregates.proofs.AccumulatorsExtrema.{observed-within}
use Rattle.far_aggregates.proofs.KnownLaws.{known-at, known-noted, known-same, observed-plain}
use Rattle.far_aggregates.proofs.known.KnownExtrema.observe_plain.Goals as goal

pub observe_noted-requires-clause-noted : goal.observe_noted-requires-clause-noted
observe_noted-requires-clause-noted c =
    let same = c.as_slice.ensures.value in
    known-at c.as_slice.result.now c.self.inside.live.groups c.args.group c.noted_in-noted.result (subst (λ plain. AreKnown plain c.self.inside.live.groups) (sym same) c.self.invariant) c.noted_in-noted.ensures

pub invariant_of-self : goal.invariant_of-self
invariant_of-self c =
    let groups = c.self.inside.live.groups in
    let known = subst (λ plain. AreKnown plain groups) (sym c.make_place.ensures) c.self.invariant in
    known-same c.make_place.new.plain.items groups c.observe_noted.new.live.groups (ap (λ (live : ExtremaState). live.groups) c.in_err-previous.ensures.err) known

pub invariant_of-self-2 : goal.invariant_of-self-2
invariant_of-self-2 c =
    let fits = c.ranges.value in
    let plain = c.make_place.new.plain.items in
    let groups = c.self.inside.live.groups in
    let m = group_at groups c.args.group in
    let value = c.args.value in
    let reserved : c.args.group < length groups = subst (λ (live : ExtremaState). c.args.group < length live.groups) (sym c.self.view_is) c.requires in
    let new = simp to_z-of_z at c.in_ok-previous.ensures.ok in
    let is = ap (λ (live : ExtremaState). live.groups) new in
    let wide : c.wider.result ≡ min_max_with value c.in_ok-previous.previous = simp to_z-of_z at c.wider.ensures in
    let known = subst (λ plain. AreKnown plain groups) (sym c.make_place.ensures) c.self.invariant in
    let noted = ap Some wide ∙ observed-plain m None value c.in_ok-previous.previous refl c.in_ok-previous.ensures.previous in
    subst (AreKnown c.note.new.plain.items) (sym is) (known-noted plain c.note.new.plain.items groups c.args.group (with_observed m (None, value)) (Some c.wider.result) reserved noted known c.note.ensures)

pub returns-then-is_within_noted-clause-ok : goal.returns-then-is_within_noted-clause-ok
returns-then-is_within_noted-clause-ok c =
    let fits = c.ranges.value in
    let groups = c.args.self.now.groups in
    let inside = c.self.inside.live.groups in
    let within : (s : ℤ × ℤ) × (c.noted_in-noted.result ≡ Some s) × (s.0 ≤ℤ c.args.value) × (c.args.value ≤ℤ s.1) = simp to_z-of_z at c.if-is_within_noted.ensures refl in
    let known = known-at c.as_slice.result.now inside c.args.group c.noted_in-noted.result (subst (λ plain. AreKnown plain inside) (sym c.as_slice.ensures.value) c.self.invariant) c.noted_in-noted.ensures in
    let there = subst (λ (o : Option (ℤ × ℤ)). IfSome o (λ min_max. fin.get (group_at inside c.args.group) None ≡ Some min_max)) within.1 known in
    let found = ap (λ (live : ExtremaState). fin.get (group_at live.groups c.args.group) None) (sym c.self.view_is) ∙ there in
    ap (λ (gs : List Extrema). record c.args.self.now { groups = gs }) (observed-within c.args.group groups None c.args.value within.0 found within.2 within.3)

pub returns-then-is_within_noted-clause-previous : goal.returns-then-is_within_noted-clause-previous
returns-then-is_within_noted-clause-previous c =
    let fits = c.ranges.value in
    let inside = c.self.inside.live.groups in
    let within : (s : ℤ × ℤ) × (c.noted_in-noted.result ≡ Some s) × (s.0 ≤ℤ c.args.value) × (c.args.value ≤ℤ s.1) = simp to_z-of_z at c.if-is_within_noted.ensures refl in
    let known = known-at c.as_slice.result.now inside c.args.group c.noted_in-noted.result (subst (λ plain. AreKnown plain inside) (sym c.as_slice.ensures.value) c.self.invariant) c.noted_in-noted.ensures in
    let there = subst (λ (o : Option (ℤ × ℤ)). IfSome o (λ min_max. fin.get (group_at inside c.args.group) None ≡ Some min_max)) within.1 known in
    let found = ap (λ (live : ExtremaState). fin.get (group_at live.groups c.args.group) None) (sym c.self.view_is) ∙ there in
    within.1 ∙ sym found
