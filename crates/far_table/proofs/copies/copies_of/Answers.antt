use Rattle.std.proofs.Common.{◌+◌, ◌≤◌, length, None, sym, ap, subst, arith}
use Rattle.std.specs.Prelude.{cond, option_map}
use Rattle.far_types.specs.Bounds.{needs}
use Rattle.far_codec.specs.Lent.{IsForm}
use Rattle.far_offload.specs.Jobs.{AreForms}
use Rattle.far_rows.specs.Copies.{copy_of}
use Rattle.far_table.specs.Offloading.{AreTicketsOf}
use Rattle.far_table.proofs.OffloadingTickets.{AreTicketsBelow, one-more, all-below, all-with, no-needed, with-found, if-mapped}
use Rattle.far_table.proofs.copies.copies_of.Goals as goal

pub loop-column-preserved : goal.loop-column-preserved
loop-column-preserved g c =
    let content = g.S.FarTickets.content in
    let is_of = g.S.FarTickets.is_of in
    let id = g.S.FarTickets.store_id c.args.store.now in
    let k = c.loop-column.column in
    let tickets = c.loop-column.tickets.items in
    let found = c.needed_copy-copy.result in
    let copy = option_map (λ t. t.now) found in
    let new = with-found (λ t. t.now) tickets _ k found c.in_ok-add.ensures.added in
    record {
      tickets = subst (AreTicketsBelow (λ n. cond (needs c.args.spec.now n) (copy_of c.args.rows.now n c.args.group) None) (k + 1)) (sym new) (one-more _ k tickets copy c.loop-column.invariant.tickets c.needed_copy-copy.ensures.ticket);
      forms = subst (AreForms content) (sym new) (all-with (λ t. IsForm (content t.1)) tickets k copy c.loop-column.invariant.forms (if-mapped (λ t. t.now) found (λ t. IsForm (content t)) c.needed_copy-copy.ensures.form));
      here = subst (AreTicketsOf is_of id) (sym new) (all-with (λ t. is_of t.1 id) tickets k copy c.loop-column.invariant.here (if-mapped (λ t. t.now) found (λ t. is_of t id) (c.needed_copy-copy.ensures.here id c.requires.here)));
    }

pub returns-clause-tickets : goal.returns-clause-tickets
returns-clause-tickets g c =
    let r = c.args.rows.now in
    let registry = ap length c.column_indexes-column-end.ensures in
    let past : length r.column_indexes ≤ c.loop-column.column = omega (arith, c.loop-column-test.false, registry) in
    all-below _ c.loop-column.column c.loop-column.tickets.items c.loop-column.invariant.tickets (λ n above. no-needed r c.args.spec.now c.args.group n (omega (arith, past, above)))
