use Rattle.std.proofs.Common.{◌≡◌, ◌<◌, ◌∷◌, length, drop, sym, ap, ◌∙◌, arith}
use Rattle.std.specs.List.{zip}
use Rattle.std.proofs.lemmas.List.{nil_from_length}
use Rattle.far_texts.specs.Texts.{lists_of, texts_in}
use Rattle.far_texts.proofs.LendingLaws.{zip-none, zip-next, text-of-cursor}
use Rattle.far_texts.proofs.text_column.cells.TextCells.next.Goals as goal

pub returns-in_err-alive-clause-none : goal.returns-in_err-alive-clause-none
returns-in_err-alive-clause-none g c =
    let texts = texts_in (lists_of g.S.FarTickets.content c.self.inside.objects.now) c.self.inside.column.now in
    let none = sym c.self.view_is ∙ zip-none (drop c.self.inside.cursor.place texts) c.self.inside.flags.now (nil_from_length c.self.inside.flags.now c.in_err-alive.ensures.cases) in
    rw c.from_residual.ensures (none, none)

pub invariant_of-self : goal.invariant_of-self
invariant_of-self g c =
    let lent = c.self.invariant.lent in
    let cursor = c.entered-cursor.ensures.cursor in
    let place : c.entered-cursor.result.place ≡ c.self.inside.cursor.place = c.entered-cursor.ensures.place in
    let long = ap length c.in_ok-alive.ensures.cases.0 in
    record {
      lent = record {
        is = lent.is;
        groups = lent.groups;
        within = omega (arith, lent.within, long, place);
        here = λ p behind before. lent.here p (omega (arith, behind, place)) (omega (arith, before, long, place));
      };
      cursor = λ some. record {
        begun = cursor.begun;
        at = omega (arith, cursor.at);
        within = omega (arith, c.entered-cursor.ensures.inside);
        lent = cursor.lent;
        is = cursor.is;
      };
    }

pub returns-clause-first : goal.returns-clause-first
returns-clause-first g c =
    let lists = lists_of g.S.FarTickets.content c.self.inside.objects.now in
    let column = c.self.inside.column.now in
    let texts = texts_in lists column in
    let lent = c.self.invariant.lent in
    let cursor = c.entered-cursor.result in
    let long = ap length c.in_ok-alive.ensures.cases.0 in
    let below : cursor.place < column.len = omega (arith, lent.within, long, c.entered-cursor.ensures.place) in
    let text = text-of-cursor lists column lent.is lent.groups cursor.place cursor.group cursor.index cursor.form.now _ below c.entered-cursor.ensures.cursor c.entered-cursor.ensures.inside c.text_of-text.ensures in
    sym c.self.view_is
    ∙ ap (zip (drop c.self.inside.cursor.place texts)) c.in_ok-alive.ensures.cases.0
    ∙ ap (λ p. zip (drop p texts) (c.in_ok-alive.alive.now ∷ c.in_ok-alive.flags.now)) (sym c.entered-cursor.ensures.place)
    ∙ zip-next texts cursor.place _ c.in_ok-alive.alive.now c.in_ok-alive.flags.now text
