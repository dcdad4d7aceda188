use Rattle.std.specs.Prelude.{option_map}
use Rattle.far_scopes.specs.Memory.{list_in}
use Rattle.far_scopes.specs.Movement.{meant, ticket_of}
use Rattle.far_texts.specs.Texts.{IsGroupForm}
use Rattle.far_texts.proofs.TextsGroups.{group-form, form-lent}
use Rattle.far_texts.proofs.text_column.TextColumn.form.Goals as goal

pub returns-clause-form : goal.returns-clause-form
returns-clause-form g c =
    let m = c.args.objects.now in
    form-lent c.lend.result (list_in m.memory) (λ o. option_map (meant (λ bytes. bytes) g.S.FarTickets.content) (ticket_of m o)) _ _ (IsGroupForm c.args.self.now c.args.group)
    c.object_in_use-o.ensures.object c.lend.ensures.lent (group-form _ c.args.self.now c.requires.is c.args.group c.requires.begun)
