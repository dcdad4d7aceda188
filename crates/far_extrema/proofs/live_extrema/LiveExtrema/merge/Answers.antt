use Rattle.std.proofs.Common.{◌<◌, length, sym, ap, ◌∙◌, subst, arith}
use Rattle.std.specs.Prelude.{slice_set}
use Rattle.std.specs.FinMap as fin
use Rattle.far_types.specs.Keys.{line_cmp}
use Rattle.far_extrema.specs.Live.{ExtremaState, group_at}
use Rattle.far_extrema.specs.Holders.{IsGroup}
use Rattle.far_extrema.proofs.HoldersLaws.{get-group_at, get-reserved, length-groups_in, put-group}
use Rattle.far_extrema.proofs.HoldersReserve.{reserved-group}
use Rattle.far_extrema.proofs.live_extrema.LiveExtrema.merge.Goals as goal

pub fill_all-requires-clause-reserved : goal.fill_all-requires-clause-reserved
fill_all-requires-clause-reserved c = λ q there none. c.requires.keys q (λ n. there (ap (λ e. fin.get e q) c.min_maxes.ensures ∙ n))
    (ap (λ (live : ExtremaState). fin.get live.reserved q) (sym c.self.view_is) ∙ get-reserved c.self.inside.holders q ∙ none)

pub fill_all-requires-clause-new : goal.fill_all-requires-clause-new
fill_all-requires-clause-new c = λ q.
    sym (get-group_at c.self.inside.holders c.self.inside.reserved_groups c.args.group q c.self.invariant)
    ∙ ap (λ (live : ExtremaState). fin.get (group_at live.groups c.args.group) q) c.self.view_is
    ∙ ap (λ e. fin.get e q) c.requires.new
    ∙ fin.get-empty line_cmp q

pub invariant_of-self : goal.invariant_of-self
invariant_of-self c =
    let m = c.self.inside.holders in
    let n = c.fill_all.new.holders in
    let less : c.args.group < c.self.inside.reserved_groups = omega (arith, ap (λ (live : ExtremaState). length live.groups) c.self.view_is, length-groups_in m c.self.inside.reserved_groups, c.requires.reserved) in
    reserved-group m n c.self.inside.reserved_groups c.args.group c.args.extrema c.self.invariant less (subst (λ e. IsGroup m c.args.group e n) c.min_maxes.ensures c.fill_all.ensures)

pub returns-clause-groups : goal.returns-clause-groups
returns-clause-groups c =
    let m = c.self.inside.holders in
    let n = c.fill_all.new.holders in
    let less : c.args.group < c.self.inside.reserved_groups = omega (arith, ap (λ (live : ExtremaState). length live.groups) c.self.view_is, length-groups_in m c.self.inside.reserved_groups, c.requires.reserved) in
    put-group m n c.self.inside.reserved_groups c.args.group c.args.extrema less (subst (λ e. IsGroup m c.args.group e n) c.min_maxes.ensures c.fill_all.ensures)
    ∙ ap (λ (live : ExtremaState). slice_set live.groups c.args.group c.args.extrema) c.self.view_is
