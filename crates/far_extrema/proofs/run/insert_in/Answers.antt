use Rattle.std.proofs.Common.{sym, ◌∙◌, subst, Some}
use Rattle.std.specs.List.{insert}
use Rattle.far_extrema.specs.Spreads.{IsSet}
use Rattle.far_extrema.specs.Runs.{paired, AreInOrder, IsAt, IsGap}
use Rattle.far_extrema.proofs.RunsLaws.{not_new, inserted, taken}
use Rattle.far_extrema.proofs.run.insert_in.Goals as goal

pub unreachable-requires : goal.unreachable-requires
unreachable-requires c =
    let place = subst (λ gs. IsAt gs c.args.group c.in-Ok.field-0) c.deref.ensures.value c.in-Ok.ensures.found in
    not_new c.args.groups.now.items c.args.values.now.items c.args.group c.in-Ok.field-0 c.requires.order place c.requires.new

edit : (c : goal.Else-is_err-2) → AreInOrder c.insert.new.self.items c.insert-else-is_err.new.self.items × IsSet (paired c.args.groups.now.items c.args.values.now.items) c.args.group (Some c.args.min_max) (paired c.insert.new.self.items c.insert-else-is_err.new.self.items)
edit c =
    let gs = c.args.groups.now.items in
    let xs = c.args.values.now.items in
    let gap = subst (λ gs. IsGap gs c.args.group c.in-Err.place) c.deref.ensures.value c.in-Err.ensures.absent in
    let groups = taken c.insert.result _ _ _ (sym c.is_err.ensures.value ∙ c.if-is_err.false) c.insert.ensures.items in
    let values = taken c.insert-else-is_err.result _ _ _ (sym c.is_err-else-is_err.ensures.value ∙ c.if-is_err-2.false) c.insert-else-is_err.ensures.items in
    subst (λ gs'. AreInOrder gs' c.insert-else-is_err.new.self.items × IsSet (paired gs xs) c.args.group (Some c.args.min_max) (paired gs' c.insert-else-is_err.new.self.items)) (sym groups)
    (subst (λ xs'. AreInOrder (insert gs c.in-Err.place c.args.group) xs' × IsSet (paired gs xs) c.args.group (Some c.args.min_max) (paired (insert gs c.in-Err.place c.args.group) xs')) (sym values)
    (inserted gs xs c.args.group c.in-Err.place c.args.min_max c.requires.order gap))

pub returns-clause-order : goal.returns-clause-order
returns-clause-order c = (edit c).0

pub returns-clause-set : goal.returns-clause-set
returns-clause-set c = (edit c).1
