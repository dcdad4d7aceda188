use Rattle.std.proofs.Common.{◌≡◌, ◌/◌, ◌≤◌, Some, sym, ap, subst, ◌∙◌}
use Rattle.std.specs.Prelude.{slice_index}
use Rattle.far_scopes.specs.Effects.{after_replace}
use Rattle.far_scopes.specs.Memory.{ChangesList}
use Rattle.far_texts.specs.Texts.{lists_of, object_at, HasGroups}
use Rattle.far_scopes.proofs.Outcomes.{by-outcome, on-ok}
use Rattle.far_texts.proofs.EffectsSet.{set-short, set-done, set-changed, set-same}
use Rattle.far_texts.proofs.text_column.TextColumn.set_accepted.Goals as goal

pub returns-clause-set : goal.returns-clause-set
returns-clause-set g c =
    let content = g.S.FarTickets.content in
    let m = c.args.objects.now in
    let column = c.args.self.now in
    let place = c.args.place in
    let bytes = c.in_ok-form.form.items in
    let now = c.replace.new.self in
    let o : c.object_in_use-o.result ≡ object_at column place = c.object_in_use-o.ensures.object ∙ ap (λ t. slice_index column.objects (place / t.size)) c.self.view_is in
    let short = subst (λ n. n ≤ column.limit) (sym c.in_ok-form.ensures.length) (set-short content m column place c.args.text.now (sym c.requires.free)) in
    on-ok c.replace.result c.replace.ensures.replaced
    (λ done. set-done content m column place c.args.text.now (sym c.requires.free) c.requires.is (subst HasGroups c.self.view_is c.self.invariant) bytes c.in_ok-form.ensures.form c.in_ok-form.ensures.texts short now
    (done.state ∙ ap (λ p. after_replace m p c.deref.result.now) o ∙ ap (after_replace m (object_at column place)) c.deref.ensures.value)
    (subst (λ b. ChangesList (lists_of content m) (lists_of content now) (object_at column place) (Some b)) c.deref.ensures.value (subst (λ p. ChangesList (lists_of content m) (lists_of content now) p (Some c.deref.result.now)) o done.list)))

pub returns-clause-changes : goal.returns-clause-changes
returns-clause-changes g c =
    let content = g.S.FarTickets.content in
    let m = c.args.objects.now in
    let column = c.args.self.now in
    let place = c.args.place in
    let bytes = c.in_ok-form.form.items in
    let now = c.replace.new.self in
    let o : c.object_in_use-o.result ≡ object_at column place = c.object_in_use-o.ensures.object ∙ ap (λ t. slice_index column.objects (place / t.size)) c.self.view_is in
    let short = subst (λ n. n ≤ column.limit) (sym c.in_ok-form.ensures.length) (set-short content m column place c.args.text.now (sym c.requires.free)) in
    let has = subst HasGroups c.self.view_is c.self.invariant in
    by-outcome c.replace.result c.replace.ensures.replaced c.replace.ensures.err
    (λ done. set-changed content m column place c.args.text.now (sym c.requires.free) c.requires.is has bytes c.in_ok-form.ensures.form c.in_ok-form.ensures.texts short now
    (subst (λ b. ChangesList (lists_of content m) (lists_of content now) (object_at column place) (Some b)) c.deref.ensures.value (subst (λ p. ChangesList (lists_of content m) (lists_of content now) p (Some c.deref.result.now)) o done.list)))
    (set-same content m column place c.args.text.now (sym c.requires.free) c.requires.is has bytes c.in_ok-form.ensures.form c.in_ok-form.ensures.texts short now)
