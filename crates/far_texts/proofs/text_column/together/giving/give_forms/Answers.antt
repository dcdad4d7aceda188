use Rattle.std.proofs.Common.{sym, ◌∙◌}
use Rattle.std.proofs.lemmas.List.Sums.{AllPass-from_list_all}
use Rattle.far_texts.specs.Effects.{begins_group}
use Rattle.far_scopes.proofs.Outcomes.{by-outcome, on-ok}
use Rattle.far_texts.proofs.TogetherStored.{as-many, none-empty, same, numbered, begun-pushed, begun-changed, begun-accepted, begun-refused, none-begins, within, once, extended-pushed, extended-changed, extended-accepted, extended-refused}
use Rattle.far_texts.proofs.text_column.together.giving.give_forms.Goals as goal

pub begin_groups-requires-clause-begin : goal.begin_groups-requires-clause-begin
begin_groups-requires-clause-begin g c κs _ =
    AllPass-from_list_all begins_group c.args.columns.now (sym c.all_begin.ensures ∙ c.if-all_begin.true)

pub begin_groups-requires-clause-few : goal.begin_groups-requires-clause-few
begin_groups-requires-clause-few g c κs _ = c.requires.made.few (sym c.all_begin.ensures ∙ c.if-all_begin.true)

pub begin_groups-requires-clause-groups : goal.begin_groups-requires-clause-groups
begin_groups-requires-clause-groups g c κs _ = c.requires.made.objects

pub begin_groups-requires-clause-same_length : goal.begin_groups-requires-clause-same_length
begin_groups-requires-clause-same_length g c κs _ = as-many g.S.FarTickets.content c.args.objects.now c.args.columns.now c.args.forms.now c.args.texts.now c.requires.made

pub begin_groups-requires-clause-some : goal.begin_groups-requires-clause-some
begin_groups-requires-clause-some g c κs _ = none-empty g.S.FarTickets.content c.args.objects.now c.args.columns.now c.args.forms.now c.args.texts.now c.requires.made

pub begin_groups-requires-clause-numbered : goal.begin_groups-requires-clause-numbered
begin_groups-requires-clause-numbered g c κs _ =
    numbered g.S.FarTickets.content c.args.objects.now c.args.columns.now c.args.forms.now c.args.texts.now c.requires.made (sym c.all_begin.ensures ∙ c.if-all_begin.true)

pub extend_groups-requires-clause-begun : goal.extend_groups-requires-clause-begun
extend_groups-requires-clause-begun g c κs _ =
    none-begins g.S.FarTickets.content c.args.objects.now c.args.columns.now c.args.forms.now c.args.texts.now c.requires.made (sym c.all_begin.ensures ∙ c.if-all_begin.false)

pub extend_groups-requires-clause-some : goal.extend_groups-requires-clause-some
extend_groups-requires-clause-some g c κs _ = none-empty g.S.FarTickets.content c.args.objects.now c.args.columns.now c.args.forms.now c.args.texts.now c.requires.made

pub extend_groups-requires-clause-within : goal.extend_groups-requires-clause-within
extend_groups-requires-clause-within g c κs _ =
    within g.S.FarTickets.content c.args.objects.now c.args.columns.now c.args.forms.now c.args.texts.now c.requires.made (sym c.all_begin.ensures ∙ c.if-all_begin.false)

pub extend_groups-requires-clause-once : goal.extend_groups-requires-clause-once
extend_groups-requires-clause-once g c κs _ =
    once g.S.FarTickets.content c.args.objects.now c.args.columns.now c.args.forms.now c.args.texts.now c.requires.made (sym c.all_begin.ensures ∙ c.if-all_begin.false)

pub returns-then-all_begin-clause-pushed : goal.returns-then-all_begin-clause-pushed
returns-then-all_begin-clause-pushed g c =
    let begins = sym c.all_begin.ensures ∙ c.if-all_begin.true in
    on-ok c.begin_groups.result c.begin_groups.ensures.begun
    (begun-pushed g.S.FarTickets.content c.args.objects.now c.args.columns.now c.args.forms.now c.args.texts.now c.requires.made begins c.begin_groups.new.objects c.begin_groups.new.columns)

pub returns-then-all_begin-clause-changes : goal.returns-then-all_begin-clause-changes
returns-then-all_begin-clause-changes g c =
    let content = g.S.FarTickets.content in
    let begins = sym c.all_begin.ensures ∙ c.if-all_begin.true in
    let now = c.begin_groups.new.objects in
    let columns = c.begin_groups.new.columns in
    let copies = c.begin_groups.ensures.copies in
    by-outcome c.begin_groups.result c.begin_groups.ensures.begun c.begin_groups.ensures.err
    (λ begun. begun-changed content c.args.objects.now c.args.columns.now c.args.forms.now c.args.texts.now c.requires.made begins now columns begun g.S.FarTickets.is_of copies)
    (same content c.args.objects.now c.args.columns.now c.args.forms.now c.args.texts.now c.requires.made g.S.FarTickets.is_of now columns copies)

pub returns-then-all_begin-clause-free : goal.returns-then-all_begin-clause-free
returns-then-all_begin-clause-free g c =
    let begins = sym c.all_begin.ensures ∙ c.if-all_begin.true in
    on-ok c.begin_groups.result c.begin_groups.ensures.begun
    (begun-accepted g.S.FarTickets.content c.args.objects.now c.args.columns.now c.args.forms.now c.args.texts.now c.requires.made begins c.begin_groups.new.objects c.begin_groups.new.columns)

pub returns-then-all_begin-clause-refused : goal.returns-then-all_begin-clause-refused
returns-then-all_begin-clause-refused g c =
    let begins = sym c.all_begin.ensures ∙ c.if-all_begin.true in
    begun-refused g.S.FarTickets.content c.args.objects.now c.args.columns.now c.args.forms.now c.args.texts.now c.requires.made begins c.begin_groups.result c.begin_groups.ensures.refused

pub returns-else-all_begin-clause-pushed : goal.returns-else-all_begin-clause-pushed
returns-else-all_begin-clause-pushed g c =
    let begins = sym c.all_begin.ensures ∙ c.if-all_begin.false in
    on-ok c.extend_groups.result c.extend_groups.ensures.extended
    (extended-pushed g.S.FarTickets.content c.args.objects.now c.args.columns.now c.args.forms.now c.args.texts.now c.requires.made begins c.extend_groups.new.objects c.extend_groups.new.columns)

pub returns-else-all_begin-clause-changes : goal.returns-else-all_begin-clause-changes
returns-else-all_begin-clause-changes g c =
    let content = g.S.FarTickets.content in
    let begins = sym c.all_begin.ensures ∙ c.if-all_begin.false in
    let now = c.extend_groups.new.objects in
    let columns = c.extend_groups.new.columns in
    let copies = c.extend_groups.ensures.copies in
    by-outcome c.extend_groups.result c.extend_groups.ensures.extended c.extend_groups.ensures.err
    (λ extended. extended-changed content c.args.objects.now c.args.columns.now c.args.forms.now c.args.texts.now c.requires.made begins now columns extended g.S.FarTickets.is_of copies)
    (same content c.args.objects.now c.args.columns.now c.args.forms.now c.args.texts.now c.requires.made g.S.FarTickets.is_of now columns copies)

pub returns-else-all_begin-clause-free : goal.returns-else-all_begin-clause-free
returns-else-all_begin-clause-free g c =
    let begins = sym c.all_begin.ensures ∙ c.if-all_begin.false in
    on-ok c.extend_groups.result c.extend_groups.ensures.extended
    (extended-accepted g.S.FarTickets.content c.args.objects.now c.args.columns.now c.args.forms.now c.args.texts.now c.requires.made begins c.extend_groups.new.objects c.extend_groups.new.columns)

pub returns-else-all_begin-clause-refused : goal.returns-else-all_begin-clause-refused
returns-else-all_begin-clause-refused g c =
    let begins = sym c.all_begin.ensures ∙ c.if-all_begin.false in
    extended-refused g.S.FarTickets.content c.args.objects.now c.args.columns.now c.args.forms.now c.args.texts.now c.requires.made begins c.extend_groups.result c.extend_groups.ensures.refused
