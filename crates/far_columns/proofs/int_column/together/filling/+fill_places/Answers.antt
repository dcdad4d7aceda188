use Rattle.std.proofs.Common.{◌≡◌, ◌+◌, ℤ, false, length, Option, None, refl, ap, subst, ◌∙◌}
use Rattle.std.specs.Prelude.{All}
use Rattle.std.proofs.lemmas.List.Elements.{All-head, All-tail}
use Rattle.far_scopes.specs.Movement.{ChangesObject}
use Rattle.far_columns.specs.Vector.{Vector, IsShaped}
use Rattle.far_columns.specs.Vectors.{AreVectors}
use Rattle.far_columns.specs.Effects.{is_full}
use Rattle.far_columns.specs.Refusing.{push_refusal}
use Rattle.far_columns.specs.Numbers.{number_lists}
use Rattle.far_columns.proofs.NumbersTogether.{none-refused, begun-same, begun-object, pushed-first, count-same}
use Rattle.far_columns.proofs.NumbersTogetherAppends.{all_disjoint-rest, all_disjoint-all, keeps-all, numbers-all, free-rest}
use Rattle.far_columns.proofs.int_column.together.filling.+fill_places.Goals as goal

pub unreachable-requires-in_default-push : goal.unreachable-requires-in_default-push
unreachable-requires-in_default-push g t c =
    let free = All-head (λ v. push_refusal c.args.objects.now v ≡ None) c.in-Some.column.now c.in-Some.columns.now (subst (λ l. All (λ v. push_refusal c.args.objects.now v ≡ None) l) c.in-Some.ensures.cases.0 c.requires.free) in
    let begun = All-head (λ (v : Vector (Option ℤ)). is_full v ≡ false) c.in-Some.column.now c.in-Some.columns.now (subst (λ l. All (λ (v : Vector (Option ℤ)). is_full v ≡ false) l) c.in-Some.ensures.cases.0 c.requires.begun) in
    none-refused _ _ _ free begun c.in_default-push.ensures.refused

pub fill_places-requires-clause-begun : goal.fill_places-requires-clause-begun
fill_places-requires-clause-begun g t c κs within =
    All-tail (λ (v : Vector (Option ℤ)). is_full v ≡ false) c.in-Some.column.now c.in-Some.columns.now (subst (λ l. All (λ (v : Vector (Option ℤ)). is_full v ≡ false) l) c.in-Some.ensures.cases.0 c.requires.begun)

pub fill_places-requires-clause-shaped : goal.fill_places-requires-clause-shaped
fill_places-requires-clause-shaped g t c κs within =
    All-tail IsShaped c.in-Some.column.now c.in-Some.columns.now (subst (λ l. All IsShaped l) c.in-Some.ensures.cases.0 c.requires.shaped)

pub fill_places-requires-clause-all_disjoint : goal.fill_places-requires-clause-all_disjoint
fill_places-requires-clause-all_disjoint g t c κs within =
    all_disjoint-rest (number_lists g.S.FarTickets.content c.args.objects.now) (number_lists g.S.FarTickets.content c.push.new.objects) c.in-Some.column.now c.push.new.self c.in-Some.columns.now
    (subst (λ l. AreVectors (number_lists g.S.FarTickets.content c.args.objects.now) l) c.in-Some.ensures.cases.0 c.requires.all_disjoint) c.push.ensures.changes

pub fill_places-requires-clause-free : goal.fill_places-requires-clause-free
fill_places-requires-clause-free g t c κs within =
    free-rest c.args.objects.now c.push.new.objects c.in-Some.column.now _ c.in-Some.columns.now c.in-Ok.ensures.pushed.objects
    (subst (λ o. ChangesObject c.args.objects.now c.push.new.objects o)
    (begun-object c.in-Some.column.now c.push.new.self _ (All-head (λ (v : Vector (Option ℤ)). is_full v ≡ false) c.in-Some.column.now c.in-Some.columns.now (subst (λ l. All (λ (v : Vector (Option ℤ)). is_full v ≡ false) l) c.in-Some.ensures.cases.0 c.requires.begun)) c.in-Ok.ensures.pushed.vector)
    c.push.ensures.keeps.others)
    (number_lists g.S.FarTickets.content c.args.objects.now)
    (subst (λ l. AreVectors (number_lists g.S.FarTickets.content c.args.objects.now) l) c.in-Some.ensures.cases.0 c.requires.all_disjoint)
    (subst (λ l. All IsShaped l) c.in-Some.ensures.cases.0 c.requires.shaped)
    (subst (λ l. All (λ (v : Vector (Option ℤ)). is_full v ≡ false) l) c.in-Some.ensures.cases.0 c.requires.begun)
    (subst (λ l. All (λ v. push_refusal c.args.objects.now v ≡ None) l) c.in-Some.ensures.cases.0 c.requires.free)

pub returns-clause-pushed : goal.returns-clause-pushed
returns-clause-pushed g t c = λ n.
    let begun = All-head (λ (v : Vector (Option ℤ)). is_full v ≡ false) c.in-Some.column.now c.in-Some.columns.now (subst (λ l. All (λ (v : Vector (Option ℤ)). is_full v ≡ false) l) c.in-Some.ensures.cases.0 c.requires.begun) in
    pushed-first n (n + 1) c.in-Some.column.now c.push.new.self c.in-Some.columns.now c.fill_places.new.columns c.args.columns.now c.in-Some.ensures.cases.0
    (c.in-Ok.ensures.pushed.vector ∙ begun-same c.in-Some.column.now (length c.args.objects.now.records) n begun) (c.fill_places.ensures.pushed (n + 1)) refl

pub returns-clause-numbers : goal.returns-clause-numbers
returns-clause-numbers g t c =
    let old = number_lists g.S.FarTickets.content c.args.objects.now in
    let mid = number_lists g.S.FarTickets.content c.push.new.objects in
    let new = number_lists g.S.FarTickets.content c.fill_places.new.objects in
    let all_disjoint = subst (λ l. AreVectors old l) c.in-Some.ensures.cases.0 c.requires.all_disjoint in
    let all = numbers-all old mid c.in-Some.column.now c.push.new.self c.in-Some.columns.now all_disjoint c.push.ensures.changes new c.fill_places.new.columns c.fill_places.ensures.all_disjoint c.fill_places.ensures.keeps.others
    c.in-Some-split_first.number.now c.in-Some-split_first.numbers.now c.in-Ok.ensures.pushed.elements c.fill_places.ensures.numbers in
    rw (c.in-Some.ensures.cases.0, c.in-Some-split_first.ensures.cases.0) all

pub returns-clause-all_disjoint : goal.returns-clause-all_disjoint
returns-clause-all_disjoint g t c =
    let old = number_lists g.S.FarTickets.content c.args.objects.now in
    all_disjoint-all old (number_lists g.S.FarTickets.content c.push.new.objects) c.in-Some.column.now c.push.new.self c.in-Some.columns.now (subst (λ l. AreVectors old l) c.in-Some.ensures.cases.0 c.requires.all_disjoint) c.push.ensures.changes
    (number_lists g.S.FarTickets.content c.fill_places.new.objects) c.fill_places.new.columns c.fill_places.ensures.all_disjoint c.fill_places.ensures.keeps.others

pub returns-clause-keeps : goal.returns-clause-keeps
returns-clause-keeps g t c =
    let old = number_lists g.S.FarTickets.content c.args.objects.now in
    let rest = c.fill_places.ensures.keeps in
    rw c.in-Some.ensures.cases.0 record {
      others = keeps-all old (number_lists g.S.FarTickets.content c.push.new.objects) c.in-Some.column.now c.push.new.self c.in-Some.columns.now (subst (λ l. AreVectors old l) c.in-Some.ensures.cases.0 c.requires.all_disjoint) c.push.ensures.changes
          (number_lists g.S.FarTickets.content c.fill_places.new.objects) c.fill_places.new.columns c.fill_places.ensures.all_disjoint rest.others;
      copies = record {
        clean = λ clean. rest.copies.clean (c.push.ensures.keeps.copies.clean clean);
        store = λ id here. rest.copies.store id (c.push.ensures.keeps.copies.store id here);
      };
    }

pub returns-clause-count : goal.returns-clause-count
returns-clause-count g t c =
    let begun = All-head (λ (v : Vector (Option ℤ)). is_full v ≡ false) c.in-Some.column.now c.in-Some.columns.now (subst (λ l. All (λ (v : Vector (Option ℤ)). is_full v ≡ false) l) c.in-Some.ensures.cases.0 c.requires.begun) in
    c.fill_places.ensures.count ∙ ap (λ w. length w.records) c.in-Ok.ensures.pushed.objects ∙ count-same c.args.objects.now c.in-Some.column.now c.in-Some-split_first.number.now begun
