use Rattle.std.proofs.Common.{◌≡◌, ◌+◌, ◌-◌, ◌∷◌, ℤ, true, length, Option, map, refl, sym, subst, ap, ◌∙◌, arith}
use Rattle.std.specs.Prelude.{All}
use Rattle.std.proofs.lemmas.Result.{err_from_is_err_and}
use Rattle.std.proofs.lemmas.List.Elements.{All-tail}
use Rattle.far_scopes.specs.Movement.{is_local, pins_of}
use Rattle.far_scopes.specs.Effects.{after_uncreate}
use Rattle.far_columns.specs.Vector.{Vector, IsVector}
use Rattle.far_columns.specs.Vectors.{AreVectors}
use Rattle.far_columns.specs.Effects.{is_full}
use Rattle.far_columns.specs.Numbers.{number_lists}
use Rattle.far_columns.specs.NumbersTogether.{objects_after_push_all}
use Rattle.far_columns.proofs.NumbersTogether.{pushed-first}
use Rattle.far_columns.proofs.NumbersTogetherBeginning.{one-more, alone, last, first-refused, others-refused}
use Rattle.far_columns.proofs.NumbersUndo.{begun-all, below-all, undone-all}
use Rattle.far_columns.proofs.NumbersChanges.{pushed-begun, count-begun, undone-begun, space-begun}
use Rattle.far_columns.proofs.NumbersTogetherAppends.{first-has, all_disjoint-rest, all_disjoint-all, keeps-all, numbers-all}
use Rattle.far_columns.proofs.int_column.together.groups.+begin_groups.Goals as goal

pub returns-in_err-push-clause-refused : goal.returns-in_err-push-clause-refused
returns-in_err-push-clause-refused g t c =
    let full = first-has (λ (v : Vector (Option ℤ)). is_full v ≡ true) c.in-Some.column.now c.in-Some.columns.now c.args.columns.now c.in-Some.ensures.cases.0 c.requires.begin in
    let p = err_from_is_err_and c.from_residual.result c.from_residual.ensures.1 in
    rw (p.1, p.2, c.in-Some.ensures.cases.0) (first-refused c.args.objects.now c.in-Some.column.now (map (λ (v : Vector (Option ℤ)). v.size) c.in-Some.columns.now) full c.in_err-push.field-0.0 c.in_err-push.ensures.refused)

pub begin_groups-requires-clause-begin : goal.begin_groups-requires-clause-begin
begin_groups-requires-clause-begin g t c κs within =
    All-tail (λ (v : Vector (Option ℤ)). is_full v ≡ true) c.in-Some.column.now c.in-Some.columns.now (subst (λ l. All (λ (v : Vector (Option ℤ)). is_full v ≡ true) l) c.in-Some.ensures.cases.0 c.requires.begin)

pub begin_groups-requires-clause-all_disjoint : goal.begin_groups-requires-clause-all_disjoint
begin_groups-requires-clause-all_disjoint g t c κs within =
    all_disjoint-rest (number_lists g.S.FarTickets.content c.args.objects.now) (number_lists g.S.FarTickets.content c.push.new.objects) c.in-Some.column.now c.push.new.self c.in-Some.columns.now
    (subst (λ l. AreVectors (number_lists g.S.FarTickets.content c.args.objects.now) l) c.in-Some.ensures.cases.0 c.requires.all_disjoint) c.push.ensures.changes

pub begin_groups-requires-clause-few : goal.begin_groups-requires-clause-few
begin_groups-requires-clause-few g t c κs within =
    let full = first-has (λ (v : Vector (Option ℤ)). is_full v ≡ true) c.in-Some.column.now c.in-Some.columns.now c.args.columns.now c.in-Some.ensures.cases.0 c.requires.begin in
    let more = one-more c.args.objects.now c.push.new.objects c.in-Some.column.now c.push.new.self _ full c.in_ok-push.ensures.pushed.vector c.in_ok-push.ensures.pushed.objects in
    let one : length c.in-Some.columns.now + 1 ≡ length c.args.columns.now = c.in-Some.ensures.cases.1 in
    omega (arith, more, one, c.requires.few)

pub unpush-requires-clause-is : goal.unpush-requires-clause-is
unpush-requires-clause-is g t c κs within =
    subst (λ m. IsVector (number_lists g.S.FarTickets.content m) c.push.new.self) (sym c.in-Err.ensures.err.1) c.push.ensures.changes.is

pub unpush-requires-clause-begun : goal.unpush-requires-clause-begun
unpush-requires-clause-begun g t c κs within =
    let full = first-has (λ (v : Vector (Option ℤ)). is_full v ≡ true) c.in-Some.column.now c.in-Some.columns.now c.args.columns.now c.in-Some.ensures.cases.0 c.requires.begin in
    let more = one-more c.args.objects.now c.push.new.objects c.in-Some.column.now c.push.new.self _ full c.in_ok-push.ensures.pushed.vector c.in_ok-push.ensures.pushed.objects in
    let number : length c.args.objects.now.records ≡ length c.push.new.objects.records - 1 = omega (arith, more) in
    let begun = c.in_ok-push.ensures.pushed.begun full in
    rw c.in-Err.ensures.err.1 record {
      alone = alone c.args.objects.now c.push.new.objects c.in-Some.column.now c.push.new.self _ full c.in_ok-push.ensures.pushed.vector c.in_ok-push.ensures.pushed.objects;
      last = last c.args.objects.now c.push.new.objects c.in-Some.column.now c.push.new.self _ full c.in_ok-push.ensures.pushed.vector c.in_ok-push.ensures.pushed.objects;
      local = subst (λ o. is_local c.push.new.objects o ≡ true) number begun.local;
      unpinned = subst (λ o. pins_of c.push.new.objects o ≡ 0) number begun.unpinned;
    }

pub returns-in-Err-clause-refused : goal.returns-in-Err-clause-refused
returns-in-Err-clause-refused g t c =
    let full = first-has (λ (v : Vector (Option ℤ)). is_full v ≡ true) c.in-Some.column.now c.in-Some.columns.now c.args.columns.now c.in-Some.ensures.cases.0 c.requires.begin in
    let next = (c.in_ok-push.ensures.pushed.begun full).next (map (λ (v : Vector (Option ℤ)). v.size) c.in-Some.columns.now) in
    rw c.in-Some.ensures.cases.0 (others-refused _ _ c.in-Err.refusal next c.in-Err.ensures.refused)

pub returns-in-Err-clause-err : goal.returns-in-Err-clause-err
returns-in-Err-clause-err g t c =
    let full = first-has (λ (v : Vector (Option ℤ)). is_full v ≡ true) c.in-Some.column.now c.in-Some.columns.now c.args.columns.now c.in-Some.ensures.cases.0 c.requires.begin in
    let undone = c.in_ok-push.ensures.pushed.begun full in (
      ap (λ d. d ∷ c.begin_groups.new.columns) (c.unpush.ensures.unpushed ∙ undone.unpushed) ∙ ap (λ l. c.in-Some.column.now ∷ l) c.in-Err.ensures.err.0 ∙ sym c.in-Some.ensures.cases.0,
      c.unpush.ensures.uncreated ∙ ap after_uncreate c.in-Err.ensures.err.1 ∙ undone.uncreated,
    )

pub returns-clause-pushed : goal.returns-clause-pushed
returns-clause-pushed g t c =
    let content = g.S.FarTickets.content in
    let first = c.in-Some.column.now in
    let rest = c.in-Some.columns.now in
    let was = c.args.objects.now in
    let mid = c.push.new.objects in
    let now = c.begin_groups.new.objects in
    let becoming = c.begin_groups.new.columns in
    let numbers = c.in-Some-split_first.numbers.now in
    let done = c.in_ok-push.ensures.pushed in
    let more = c.in_default-begin_groups.ensures.pushed in
    let full = first-has (λ (v : Vector (Option ℤ)). is_full v ≡ true) c.in-Some.column.now c.in-Some.columns.now c.args.columns.now c.in-Some.ensures.cases.0 c.requires.begin in
    let rest-full = All-tail (λ (v : Vector (Option ℤ)). is_full v ≡ true) c.in-Some.column.now c.in-Some.columns.now (subst (λ l. All (λ (v : Vector (Option ℤ)). is_full v ≡ true) l) c.in-Some.ensures.cases.0 c.requires.begin) in
    let begun = done.begun full in
    let longer = one-more was mid first c.push.new.self _ full done.vector done.objects in
    let all_disjoint = subst (λ l. AreVectors (number_lists content was) l) c.in-Some.ensures.cases.0 c.requires.all_disjoint in
    rw (c.in-Some.ensures.cases.0, c.in-Some-split_first.ensures.cases.0) (pushed-begun content was now (first ∷ rest) (c.push.new.self ∷ becoming) (c.in-Some-split_first.number.now ∷ numbers)
    (subst (λ l. All (λ (v : Vector (Option ℤ)). is_full v ≡ true) l) c.in-Some.ensures.cases.0 c.requires.begin)
    (pushed-first (length was.records) (length mid.records) first c.push.new.self rest becoming (first ∷ rest) refl done.vector more.columns longer)
    (more.objects ∙ ap (λ m. objects_after_push_all m rest numbers) done.objects)
    (numbers-all (number_lists content was) (number_lists content mid) first c.push.new.self rest all_disjoint c.push.ensures.changes (number_lists content now) becoming c.in_default-begin_groups.ensures.all_disjoint c.in_default-begin_groups.ensures.keeps.others c.in-Some-split_first.number.now numbers done.elements more.numbers)
    (omega (arith, longer, count-begun content mid now rest becoming numbers rest-full more))
    (begun-all was mid now first c.push.new.self _ c.len-len.ensures.shaped full done.vector done.objects c.push.ensures.keeps.others c.in_default-begin_groups.ensures.below becoming begun.local begun.unpinned c.in_default-begin_groups.ensures.begun)
    (undone-all was mid now first c.push.new.self _ c.len-len.ensures.shaped full done.vector done.objects c.push.ensures.keeps.others c.in_default-begin_groups.ensures.below rest becoming (begun.unpushed, begun.uncreated) (undone-begun content mid now rest becoming numbers rest-full more))
    (begun.next (map (λ (v : Vector (Option ℤ)). v.size) rest) ∙ space-begun content mid now rest becoming numbers rest-full more))

pub returns-clause-all_disjoint : goal.returns-clause-all_disjoint
returns-clause-all_disjoint g t c =
    let old = number_lists g.S.FarTickets.content c.args.objects.now in
    let mid = number_lists g.S.FarTickets.content c.push.new.objects in
    let new = number_lists g.S.FarTickets.content c.begin_groups.new.objects in
    let all_disjoint = subst (λ l. AreVectors old l) c.in-Some.ensures.cases.0 c.requires.all_disjoint in
    all_disjoint-all old mid c.in-Some.column.now c.push.new.self c.in-Some.columns.now all_disjoint c.push.ensures.changes new c.begin_groups.new.columns c.in_default-begin_groups.ensures.all_disjoint c.in_default-begin_groups.ensures.keeps.others

pub returns-clause-begun : goal.returns-clause-begun
returns-clause-begun g t c =
    let full = first-has (λ (v : Vector (Option ℤ)). is_full v ≡ true) c.in-Some.column.now c.in-Some.columns.now c.args.columns.now c.in-Some.ensures.cases.0 c.requires.begin in
    let done = c.in_ok-push.ensures.pushed in
    let begun = done.begun full in
    begun-all c.args.objects.now c.push.new.objects c.begin_groups.new.objects c.in-Some.column.now c.push.new.self _ c.len-len.ensures.shaped full done.vector done.objects c.push.ensures.keeps.others c.in_default-begin_groups.ensures.below c.begin_groups.new.columns begun.local begun.unpinned c.in_default-begin_groups.ensures.begun

pub returns-clause-below : goal.returns-clause-below
returns-clause-below g t c =
    let full = first-has (λ (v : Vector (Option ℤ)). is_full v ≡ true) c.in-Some.column.now c.in-Some.columns.now c.args.columns.now c.in-Some.ensures.cases.0 c.requires.begin in
    let done = c.in_ok-push.ensures.pushed in
    below-all c.args.objects.now c.push.new.objects c.begin_groups.new.objects c.in-Some.column.now c.push.new.self _ c.len-len.ensures.shaped full done.vector done.objects c.push.ensures.keeps.others c.in_default-begin_groups.ensures.below

pub returns-clause-keeps : goal.returns-clause-keeps
returns-clause-keeps g t c =
    let old = number_lists g.S.FarTickets.content c.args.objects.now in
    let mid = number_lists g.S.FarTickets.content c.push.new.objects in
    let new = number_lists g.S.FarTickets.content c.begin_groups.new.objects in
    let all_disjoint = subst (λ l. AreVectors old l) c.in-Some.ensures.cases.0 c.requires.all_disjoint in
    let rest = c.in_default-begin_groups.ensures.keeps in
    rw c.in-Some.ensures.cases.0 record {
      others = keeps-all old mid c.in-Some.column.now c.push.new.self c.in-Some.columns.now all_disjoint c.push.ensures.changes new c.begin_groups.new.columns c.in_default-begin_groups.ensures.all_disjoint rest.others;
      copies = record {
        clean = λ clean. rest.copies.clean (c.push.ensures.keeps.copies.clean clean);
        store = λ id here. rest.copies.store id (c.push.ensures.keeps.copies.store id here);
      };
    }
