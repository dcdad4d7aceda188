use Rattle.std.proofs.Common.{◌≤◌, sym, subst, ◌∙◌}
use Rattle.far_scopes.proofs.Outcomes.{by-outcome, on-ok}
use Rattle.far_texts.proofs.EffectsAppend.{push-short}
use Rattle.far_texts.proofs.EffectsPush.{same, begun-pushed, begun-changed, extended-pushed, extended-changed}
use Rattle.far_texts.proofs.text_column.TextColumn.push.Goals as goal

pub returns-then-begins_group-clause-pushed : goal.returns-then-begins_group-clause-pushed
returns-then-begins_group-clause-pushed g c =
    let begins = sym c.begins_group.ensures ∙ c.if-begins_group.true in
    let short = subst (λ n. n ≤ c.args.self.now.limit) (sym c.in_ok-form.ensures.length) (push-short g.S.FarTickets.content c.args.objects.now c.args.self.now c.args.text.now c.in_ok-may_push.ensures) in
    on-ok c.begin_group.result c.begin_group.ensures.begun (begun-pushed g.S.FarTickets.content c.args.objects.now c.args.self.now c.requires.is c.next_object_is_unused.ensures.groups c.next_object_is_unused.ensures.fresh
    c.args.text.now c.in_ok-form.form.items c.in_ok-form.ensures.form c.in_ok-form.ensures.texts short c.deref.result.now c.deref.ensures.value begins c.begin_group.new.objects c.begin_group.new.self)

pub returns-then-begins_group-clause-changes : goal.returns-then-begins_group-clause-changes
returns-then-begins_group-clause-changes g c =
    let begins = sym c.begins_group.ensures ∙ c.if-begins_group.true in
    let short = subst (λ n. n ≤ c.args.self.now.limit) (sym c.in_ok-form.ensures.length) (push-short g.S.FarTickets.content c.args.objects.now c.args.self.now c.args.text.now c.in_ok-may_push.ensures) in
    by-outcome c.begin_group.result c.begin_group.ensures.begun c.begin_group.ensures.err
    (begun-changed g.S.FarTickets.content c.args.objects.now c.args.self.now c.requires.is c.next_object_is_unused.ensures.groups c.next_object_is_unused.ensures.fresh
    c.args.text.now c.in_ok-form.form.items c.in_ok-form.ensures.form c.in_ok-form.ensures.texts short c.deref.result.now c.deref.ensures.value begins c.begin_group.new.objects c.begin_group.new.self)
    (same g.S.FarTickets.content c.args.objects.now c.args.self.now c.requires.is c.next_object_is_unused.ensures.groups c.next_object_is_unused.ensures.fresh c.begin_group.new.objects c.begin_group.new.self)

pub returns-clause-pushed : goal.returns-clause-pushed
returns-clause-pushed g c =
    let begins = sym c.begins_group.ensures ∙ c.if-begins_group.false in
    let short = subst (λ n. n ≤ c.args.self.now.limit) (sym c.in_ok-form.ensures.length) (push-short g.S.FarTickets.content c.args.objects.now c.args.self.now c.args.text.now c.in_ok-may_push.ensures) in
    on-ok c.extend_group.result c.extend_group.ensures.extended (extended-pushed g.S.FarTickets.content c.args.objects.now c.args.self.now c.requires.is c.next_object_is_unused.ensures.groups c.next_object_is_unused.ensures.fresh
    c.args.text.now c.in_ok-form.form.items c.in_ok-form.ensures.form c.in_ok-form.ensures.texts short c.deref-else-begins_group.result.now c.deref-else-begins_group.ensures.value begins c.extend_group.new.objects c.extend_group.new.self)

pub returns-clause-changes : goal.returns-clause-changes
returns-clause-changes g c =
    let begins = sym c.begins_group.ensures ∙ c.if-begins_group.false in
    let short = subst (λ n. n ≤ c.args.self.now.limit) (sym c.in_ok-form.ensures.length) (push-short g.S.FarTickets.content c.args.objects.now c.args.self.now c.args.text.now c.in_ok-may_push.ensures) in
    by-outcome c.extend_group.result c.extend_group.ensures.extended c.extend_group.ensures.err
    (extended-changed g.S.FarTickets.content c.args.objects.now c.args.self.now c.requires.is c.next_object_is_unused.ensures.groups c.next_object_is_unused.ensures.fresh
    c.args.text.now c.in_ok-form.form.items c.in_ok-form.ensures.form c.in_ok-form.ensures.texts short c.deref-else-begins_group.result.now c.deref-else-begins_group.ensures.value begins c.extend_group.new.objects c.extend_group.new.self)
    (same g.S.FarTickets.content c.args.objects.now c.args.self.now c.requires.is c.next_object_is_unused.ensures.groups c.next_object_is_unused.ensures.fresh c.extend_group.new.objects c.extend_group.new.self)
