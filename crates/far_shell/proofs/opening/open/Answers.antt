use Rattle.std.proofs.Common.{◌≡◌, [], append-nil, ◌∙◌, refl, rules, sym, subst}
use Rattle.std.proofs.lemmas.Result.{IfOk-weaker, IfErr-weaker, IfErr-at_err}
use Rattle.far_script.specs.declared.fault.ShellFault.TheVariants as fault
use Rattle.far_shell.specs.LineFaults.{IsRefused, Rejection}
use Rattle.far_script.specs.Openings.{Opened}
use Rattle.far_shell.specs.Scripts.{IsNew}
use Rattle.far_commands.specs.WorldRules.{both_rules, world_rules}
use Rattle.far_shell.proofs.SeenLaws.{both-new}
use Rattle.far_shell.proofs.SaidLaws.{kept-as, said-then, unsaid}
use Rattle.far_shell.proofs.opening.open.Goals as goal

pub returns-in-Ok-clause-ok : goal.returns-in-Ok-clause-ok
returns-in-Ok-clause-ok g c =
    let opened : Opened = (c.args.opening.kinds.items, c.args.opening.limits) in
    let new : IsNew (world_rules g.S.FarTickets) opened c.new.result = search rules in
    kept-as (IsNew (both_rules g.S.FarTickets) opened) c.once_said.result c.new.result _ c.once_said.ensures.ok (both-new g.S.FarTickets opened c.new.result new)

pub returns-in-Ok-clause-said : goal.returns-in-Ok-clause-said
returns-in-Ok-clause-said g c = said-then c.once_said.result c.add_text-said.result _ _ c.once_said.ensures.ok c.add_text-said.ensures.ok

pub returns-in-Ok-clause-err : goal.returns-in-Ok-clause-err
returns-in-Ok-clause-err g c =
    IfErr-weaker c.once_said.result _ _
    (λ why is. ([], IfErr-at_err (λ _. c.add_text-said.new.self.page ≡ c.args.output.now.page) is (unsaid c.add_text-said.result _ c.add_text-said.ensures.err) ∙ sym (append-nil c.args.output.now.page), subst (λ f. Rejection f (IsRefused (c.args.opening.kinds.items, c.args.opening.limits)) []) (sym (IfErr-at_err (λ f. f ≡ fault.Memory) is c.add_text-said.ensures.memory)) refl))
    c.once_said.ensures.err

pub returns-in-Ok-clause-unwritten : goal.returns-in-Ok-clause-unwritten
returns-in-Ok-clause-unwritten g c =
    IfErr-weaker c.once_said.result _ _
    (λ why is same. let memory : fault.Memory ≡ fault.Output = sym (IfErr-at_err (λ f. f ≡ fault.Memory) is c.add_text-said.ensures.memory) ∙ same in absurd (cc memory))
    c.once_said.ensures.err
