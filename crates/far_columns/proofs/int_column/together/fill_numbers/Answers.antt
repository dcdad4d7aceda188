use Rattle.std.proofs.Common.{◌≡◌, length, sym, subst}
use Rattle.std.specs.Prelude.{AllPairs}
use Rattle.far_columns.specs.Numbers.{number_lists}
use Rattle.far_columns.proofs.NumbersTogether.{none-begin, same_length-pushed, all-free}
use Rattle.far_columns.proofs.NumbersChanges.{pushed-filled}
use Rattle.far_columns.proofs.int_column.together.fill_numbers.Goals as goal

pub fill_places-requires-clause-begun : goal.fill_places-requires-clause-begun
fill_places-requires-clause-begun g c κs within = none-begin (number_lists g.S.FarTickets.content c.args.objects.now) c.args.columns.now c.requires.are c.all_are_shaped.ensures c.requires.begun

pub fill_places-requires-clause-free : goal.fill_places-requires-clause-free
fill_places-requires-clause-free g c κs within =
    let each = none-begin (number_lists g.S.FarTickets.content c.args.objects.now) c.args.columns.now c.requires.are c.all_are_shaped.ensures c.requires.begun in
    all-free c.args.objects.now c.args.columns.now each c.requires.begun c.requires.free

pub returns-clause-are : goal.returns-clause-are
returns-clause-are g c = record {
  all_disjoint = c.fill_places.ensures.all_disjoint;
  same_length = subst (AllPairs (λ c d. (c.size ≡ d.size) × (c.len ≡ d.len))) (sym (c.fill_places.ensures.pushed 0)) (same_length-pushed 0 c.args.columns.now c.requires.are.same_length);
}

pub returns-clause-pushed : goal.returns-clause-pushed
returns-clause-pushed g c =
    pushed-filled g.S.FarTickets.content c.args.objects.now c.fill_places.new.objects c.args.columns.now c.fill_places.new.columns c.args.numbers.now c.requires.begun
    (c.fill_places.ensures.pushed (length c.args.objects.now.records)) c.fill_places.ensures.moved c.fill_places.ensures.numbers c.fill_places.ensures.count c.requires.free
