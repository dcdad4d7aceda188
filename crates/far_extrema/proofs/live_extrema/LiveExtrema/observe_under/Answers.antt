use Rattle.std.proofs.Common.{◌≡◌, ◌<◌, length, Option, refl, sym, ap, ◌∙◌, subst, arith, Some, None}
use Rattle.std.specs.Prelude.{ℤ, IfOk, slice_set}
use Rattle.std.specs.FinMap as fin
use Rattle.std.proofs.lemmas.Int.{to_z-of_z}
use Rattle.far_types.specs.Effects.{with_observed, min_max_with}
use Rattle.far_extrema.specs.Live.{ExtremaState, group_at}
use Rattle.far_extrema.specs.Holders.{min_max_at, AreReserved, IsPut, HaveSameReserved, AreAlike}
use Rattle.far_extrema.proofs.HoldersLaws.{same-groups, get-group_at, length-groups_in, observed-in, reserved-put, same-reserved}
use Rattle.far_extrema.proofs.HoldersReserve.{either, both_ok, on_err}
use Rattle.far_extrema.proofs.live_extrema.LiveExtrema.observe_under.Goals as goal

pub invariant_of-self : goal.invariant_of-self
invariant_of-self c =
    let m = c.self.inside.holders in
    let n = c.observe_in.new.holders in
    let fits = c.ranges.value in
    let groups = ap (λ (live : ExtremaState). live.groups) c.self.view_is in
    let less : c.args.group < c.self.inside.reserved_groups = omega (arith, ap length groups, length-groups_in m c.self.inside.reserved_groups, c.requires) in
    let wide = min_max_with c.args.value (min_max_at m c.args.group c.args.key.now) in
    either c.observe_in.result {Q = AreReserved c.self.inside.reserved_groups n}
    (λ put. reserved-put m n c.self.inside.reserved_groups c.args.group c.args.key.now (Some wide) c.self.invariant less put)
    (λ (alike : AreAlike m n) g key past. alike.0 g key ∙ c.self.invariant g key past) (simp to_z-of_z at c.observe_in.ensures.ok) c.observe_in.ensures.err

pub returns-clause-previous : goal.returns-clause-previous
returns-clause-previous c =
    let m = c.self.inside.holders in
    let groups = ap (λ (live : ExtremaState). live.groups) c.self.view_is in
    let there = sym (get-group_at m c.self.inside.reserved_groups c.args.group c.args.key.now c.self.invariant) ∙ ap (λ gs. fin.get (group_at gs c.args.group) c.args.key.now) groups in
    subst (λ (o : Option (ℤ × ℤ)). IfOk c.observe_in.result (λ (previous : Option (ℤ × ℤ)). previous ≡ o)) there c.observe_in.ensures.previous

pub returns-clause-ok : goal.returns-clause-ok
returns-clause-ok c =
    let m = c.self.inside.holders in
    let n = c.observe_in.new.holders in
    let fits = c.ranges.value in
    let left = ap (λ (live : ExtremaState). live.left) c.self.view_is in
    let groups = ap (λ (live : ExtremaState). live.groups) c.self.view_is in
    let less : c.args.group < c.self.inside.reserved_groups = omega (arith, ap length groups, length-groups_in m c.self.inside.reserved_groups, c.requires) in
    let previous = min_max_at m c.args.group c.args.key.now in
    both_ok c.observe_in.result (λ (put : IsPut m c.args.group c.args.key.now (Some (min_max_with c.args.value previous)) n) (own : HaveSameReserved m n).
    let new =
    observed-in m n c.self.inside.reserved_groups c.args.group c.args.key.now c.args.value previous c.self.invariant refl less put
    ∙ ap (λ gs. slice_set gs c.args.group (with_observed (group_at gs c.args.group) (c.args.key.now, c.args.value))) groups in
    let reserved = same-reserved m n own ∙ ap (λ (live : ExtremaState). live.reserved) c.self.view_is in
    λ i. record { left = left i; groups = new i; reserved = reserved i }) (simp to_z-of_z at c.observe_in.ensures.ok) c.observe_in.ensures.reserved

pub returns-clause-only_new : goal.returns-clause-only_new
returns-clause-only_new c =
    let m = c.self.inside.holders in
    let groups = ap (λ (live : ExtremaState). live.groups) c.self.view_is in
    let there = sym (get-group_at m c.self.inside.reserved_groups c.args.group c.args.key.now c.self.invariant) ∙ ap (λ gs. fin.get (group_at gs c.args.group) c.args.key.now) groups in
    on_err c.observe_in.result (λ (none : min_max_at m c.args.group c.args.key.now ≡ None). sym there ∙ none) c.observe_in.ensures.only_new

pub returns-clause-err : goal.returns-clause-err
returns-clause-err c =
    let m = c.self.inside.holders in
    let n = c.observe_in.new.holders in
    let left = ap (λ (live : ExtremaState). live.left) c.self.view_is in
    on_err c.observe_in.result (λ (alike : AreAlike m n).
    let groups = same-groups m n c.self.inside.reserved_groups alike.0 ∙ ap (λ (live : ExtremaState). live.groups) c.self.view_is in
    let reserved = same-reserved m n alike.1 ∙ ap (λ (live : ExtremaState). live.reserved) c.self.view_is in
    λ i. record { left = left i; groups = groups i; reserved = reserved i }) c.observe_in.ensures.err
