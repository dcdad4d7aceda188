use Rattle.std.proofs.Common.{subst}
use Rattle.far_columns.specs.Vectors.{AreVectors}
use Rattle.far_columns.specs.Numbers.{number_lists}
use Rattle.far_columns.specs.NumbersUndo.{AreBegunLast}
use Rattle.far_columns.proofs.NumbersUndo.{all_disjoint-tail, first-stays, all_disjoint-undone, numbers-undone, keeps-undone, rest-last, first-last}
use Rattle.far_columns.proofs.int_column.together.groups.+unbegin_groups.Goals as goal

pub unbegin_groups-requires-clause-all_disjoint : goal.unbegin_groups-requires-clause-all_disjoint
unbegin_groups-requires-clause-all_disjoint g t c κs within =
    let old = number_lists g.S.FarTickets.content c.args.objects.now in
    all_disjoint-tail old c.in-Some.first.now c.in-Some.others.now (subst (AreVectors old) c.in-Some.ensures.cases.0 c.requires.all_disjoint)

pub unbegin_groups-requires-clause-begun : goal.unbegin_groups-requires-clause-begun
unbegin_groups-requires-clause-begun g t c κs within = rest-last c.args.objects.now c.in-Some.first.now c.in-Some.others.now (subst (AreBegunLast c.args.objects.now) c.in-Some.ensures.cases.0 c.requires.begun)

pub unpush-requires-clause-is : goal.unpush-requires-clause-is
unpush-requires-clause-is g t c κs within =
    let old = number_lists g.S.FarTickets.content c.args.objects.now in
    first-stays old (number_lists g.S.FarTickets.content c.unbegin_groups.new.objects) old c.in-Some.first.now c.in-Some.first.now c.in-Some.others.now c.unbegin_groups.new.columns (subst (AreVectors old) c.in-Some.ensures.cases.0 c.requires.all_disjoint) c.unbegin_groups.ensures.all_disjoint c.unbegin_groups.ensures.keeps.others

pub unpush-requires-clause-begun : goal.unpush-requires-clause-begun
unpush-requires-clause-begun g t c κs within = first-last c.args.objects.now c.in-Some.first.now c.in-Some.others.now (subst (AreBegunLast c.args.objects.now) c.in-Some.ensures.cases.0 c.requires.begun) c.unbegin_groups.new.objects c.unbegin_groups.ensures.uncreated c.unbegin_groups.ensures.below

pub returns-clause-all_disjoint : goal.returns-clause-all_disjoint
returns-clause-all_disjoint g t c =
    let old = number_lists g.S.FarTickets.content c.args.objects.now in
    all_disjoint-undone old (number_lists g.S.FarTickets.content c.unbegin_groups.new.objects) (number_lists g.S.FarTickets.content c.unpush.new.objects) c.in-Some.first.now c.unpush.new.self c.in-Some.others.now c.unbegin_groups.new.columns (subst (AreVectors old) c.in-Some.ensures.cases.0 c.requires.all_disjoint) c.unbegin_groups.ensures.all_disjoint c.unbegin_groups.ensures.keeps.others c.unpush.ensures.changes

pub returns-clause-numbers : goal.returns-clause-numbers
returns-clause-numbers g t c =
    let old = number_lists g.S.FarTickets.content c.args.objects.now in
    rw c.in-Some.ensures.cases.0 (numbers-undone old (number_lists g.S.FarTickets.content c.unbegin_groups.new.objects) (number_lists g.S.FarTickets.content c.unpush.new.objects) c.in-Some.first.now c.unpush.new.self c.in-Some.others.now c.unbegin_groups.new.columns (subst (AreVectors old) c.in-Some.ensures.cases.0 c.requires.all_disjoint) c.unbegin_groups.ensures.all_disjoint c.unbegin_groups.ensures.keeps.others c.unpush.ensures.changes
    c.unpush.ensures.elements c.unbegin_groups.ensures.numbers)

pub returns-clause-keeps : goal.returns-clause-keeps
returns-clause-keeps g t c =
    let old = number_lists g.S.FarTickets.content c.args.objects.now in
    let rest = c.unbegin_groups.ensures.keeps in
    rw c.in-Some.ensures.cases.0 record {
      others = keeps-undone old (number_lists g.S.FarTickets.content c.unbegin_groups.new.objects) (number_lists g.S.FarTickets.content c.unpush.new.objects) c.in-Some.first.now c.unpush.new.self c.in-Some.others.now c.unbegin_groups.new.columns (subst (AreVectors old) c.in-Some.ensures.cases.0 c.requires.all_disjoint) c.unbegin_groups.ensures.all_disjoint rest.others c.unpush.ensures.changes;
      copies = record {
        clean = λ clean. c.unpush.ensures.keeps.copies.clean (rest.copies.clean clean);
        store = λ id here. c.unpush.ensures.keeps.copies.store id (rest.copies.store id here);
      };
    }
