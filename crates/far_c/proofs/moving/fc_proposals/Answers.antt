use Rattle.std.proofs.Common.{◌≡◌, ◌∙◌, ℕ, List, Option, Some, length, min, take, ap, subst, sym}
use Rattle.far_c.specs.Outcomes.{Behind}
use Rattle.far_c.specs.Proposals.{AreProposed, groups_in}
use Rattle.far_c.specs.Replies.{IsNext}
use Rattle.far_c.specs.TableState.{TableState}
use Rattle.far_c.proofs.Proposed.{groups-written}
use Rattle.far_c.proofs.moving.fc_proposals.Goals as goal

pub returns-in-Ok-clause-served : goal.returns-in-Ok-clause-served
returns-in-Ok-clause-served c = λ zero.
    let given = c.in-Ok.ensures.ok in
    let two = c.if-groups-ne2.false in
    let items : groups_in c.serve.result ≡ c.deref.result.now = ap groups_in given ∙ sym c.deref.ensures.value in
    let counted : c.write_groups.result ≡ min (length (groups_in c.serve.result)) 2 = c.write_groups.ensures.count ∙ ap (λ (l : List ℕ). min (length l) (length c.args.groups.now)) (sym items) ∙ ap (λ (n : ℕ). min (length (groups_in c.serve.result)) n) two in
    let taken : take c.write_groups.result c.write_groups.new.groups ≡ take 2 (groups_in c.serve.result) = c.write_groups.ensures.groups ∙ ap (λ (n : ℕ). take n c.deref.result.now) two ∙ ap (λ (l : List ℕ). take 2 l) (sym items) in
    subst (λ (t : Option TableState). Behind (AreProposed c.args.column c.write_groups.new.groups c.write_groups.result) t (Some c.serve.new.self)) (sym c.in-Some.ensures.value)
    (groups-written c.args.column c.in-Some.table.now c.serve.new.self c.serve.result c.write_groups.new.groups c.write_groups.result c.serve.ensures.served (subst IsNext (sym given) tt) counted taken)
