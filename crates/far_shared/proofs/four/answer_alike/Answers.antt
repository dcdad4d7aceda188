use Rattle.std.proofs.Common.{◌≡◌, IfErr, rules}
use Rattle.far_types.specs.declared.refusal.Refusal.TheVariants as refusal
use Rattle.far_types.specs.Answers.{answer_over}
use Rattle.far_types.specs.Table.{rows_of}
use Rattle.far_shared.specs.Fours.{IsOf}
use Rattle.far_shared.proofs.FoursLaws.{scanned-none, scanned-refused, memory-refused, of-some, same-sum}
use Rattle.far_shared.proofs.four.answer_alike.Goals as goal

pub merge-requires-clause-one : goal.merge-requires-clause-one
merge-requires-clause-one g c = of-some (IsOf c.args.spec.now.fold) c.asked-left_one.result.1 _ c.in-Ok.ensures.zero c.asked-left_one.ensures.kind

pub merge-requires-clause-two : goal.merge-requires-clause-two
merge-requires-clause-two g c = of-some (IsOf c.args.spec.now.fold) c.asked-left_two.result.1 _ c.in-Ok.ensures.one c.asked-left_two.ensures.kind

pub merge-requires-clause-three : goal.merge-requires-clause-three
merge-requires-clause-three g c = of-some (IsOf c.args.spec.now.fold) c.asked-left_three.result.1 _ c.in-Ok.ensures.two c.asked-left_three.ensures.kind

pub merge-requires-clause-four : goal.merge-requires-clause-four
merge-requires-clause-four g c = of-some (IsOf c.args.spec.now.fold) c.asked-left_four.result.1 _ c.in-Ok.ensures.three c.asked-left_four.ensures.kind

pub returns-in_ok-merge-in-Ok-clause-answer : goal.returns-in_ok-merge-in-Ok-clause-answer
returns-in_ok-merge-in-Ok-clause-answer g c =
    let spec = c.args.spec.now in
    let one = rows_of c.args.one.now.table.places in
    let two = rows_of c.args.two.now.table.places in
    let three = rows_of c.args.three.now.table.places in
    let four = rows_of c.args.four.now.table.places in
    c.in_ok-merge-in-Ok.ensures.ok one two three four
    (of-some (λ x. x ≡ answer_over spec one) c.asked-left_one.result.1 _ c.in-Ok.ensures.zero c.asked-left_one.ensures.answer)
    (of-some (λ x. x ≡ answer_over spec two) c.asked-left_two.result.1 _ c.in-Ok.ensures.one c.asked-left_two.ensures.answer)
    (of-some (λ x. x ≡ answer_over spec three) c.asked-left_three.result.1 _ c.in-Ok.ensures.two c.asked-left_three.ensures.answer)
    (of-some (λ x. x ≡ answer_over spec four) c.asked-left_four.result.1 _ c.in-Ok.ensures.three c.asked-left_four.ensures.answer)

pub returns-in_ok-merge-in-Ok-clause-scanned : goal.returns-in_ok-merge-in-Ok-clause-scanned
returns-in_ok-merge-in-Ok-clause-scanned g c =
    let same = same-sum _ _ _ _ _ _ _ _ c.asked-left_one.ensures.left c.asked-left_two.ensures.left c.asked-left_three.ensures.left c.asked-left_four.ensures.left in
    scanned-none _ _ same c.none_left-scanned.result c.none_left-scanned.ensures.ok c.in-Ok.ensures.scanned

pub returns-in_err-merge-in-Ok-clause-refused : goal.returns-in_err-merge-in-Ok-clause-refused
returns-in_err-merge-in-Ok-clause-refused g c =
    let same = same-sum _ _ _ _ _ _ _ _ c.asked-left_one.ensures.left c.asked-left_two.ensures.left c.asked-left_three.ensures.left c.asked-left_four.ensures.left in
    let memory : IfErr c.from_residual.result (λ e. e ≡ refusal.NoMemory) = search rules in
    memory-refused _ c.from_residual.result (scanned-none _ _ same c.none_left-scanned.result c.none_left-scanned.ensures.ok c.in-Ok.ensures.scanned) memory

pub returns-in-Err-clause-refused : goal.returns-in-Err-clause-refused
returns-in-Err-clause-refused g c =
    let same = same-sum _ _ _ _ _ _ _ _ c.asked-left_one.ensures.left c.asked-left_two.ensures.left c.asked-left_three.ensures.left c.asked-left_four.ensures.left in
    scanned-refused _ _ same c.none_left-scanned.result c.in-Err.refusal c.none_left-scanned.ensures.ok c.none_left-scanned.ensures.refused c.in-Err.ensures.refused
