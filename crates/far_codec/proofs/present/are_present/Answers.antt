use Rattle.std.proofs.Common.{◌++◌, ℕ, List, [], ◌∷◌, map, take, get_or, None, sym, ap, ◌∙◌, arith}
use Rattle.std.specs.Prelude.{is_none}
use Rattle.std.proofs.lemmas.List.{take_more, get_or-map, map-append}
use Rattle.std.proofs.lemmas.List.Folds.{list_any_at}
use Rattle.std.proofs.lemmas.Bool.{false≢true}
use Rattle.far_codec.specs.FarForm.{number_bytes}
use Rattle.far_codec.specs.PlainNumbers.{IsThere}
use Rattle.far_codec.proofs.Chunks.{AllByRecursion-append}
use Rattle.far_codec.proofs.Compared.{same_if_not_ne, differ_if_ne}
use Rattle.far_codec.proofs.PlainNumbersLaws.{is_there, tells_none}
use Rattle.far_codec.proofs.present.are_present.Goals as goal
use Rattle.far_codec.proofs.present.are_present.Goals.{then-is_none-via-then-is_none, then-is_none-via-else-is_none+then-ne}

pub returns-then-is_none-clause-only : goal.returns-then-is_none-clause-only
returns-then-is_none-clause-only c e none =
    let words = c.args.words.now in
    let numbers = c.args.numbers.now in
    let i = c.loop-i.i in
    elim c.then-is_none.branch [
      | then-is_none-via-then-is_none w ↦
          absurd (false≢true (sym none ∙ list_any_at is_none numbers i None (omega arith) (tells_none (get_or numbers i None) c.is_none.result c.is_none.ensures ∙ w.if-is_none.true)))
      | then-is_none-via-else-is_none+then-ne w ↦
          absurd (differ_if_ne w.ne.result (get_or words i []) w.word.result w.ne.ensures w.if-ne.true (ap (λ (l : List (List ℕ)). get_or l i []) e ∙ get_or-map number_bytes numbers i None [] (omega arith) ∙ sym w.word.ensures.bytes))
    ]

pub loop-i-preserved : goal.loop-i-preserved
loop-i-preserved c =
    let words = c.args.words.now in
    let numbers = c.args.numbers.now in
    let i = c.loop-i.i in
    let x = get_or numbers i None in
    let same = same_if_not_ne c.ne.result (get_or words i []) c.word.result c.ne.ensures c.if-ne.false ∙ c.word.ensures.bytes in
    let more = take_more numbers i None (omega arith) in
    record {
      same =
          take_more words i [] c.loop-i-test.true
          ∙ ap (λ (l : List (List ℕ)). l ++ get_or words i [] ∷ []) c.loop-i.invariant.same
          ∙ ap (λ (w : List ℕ). map number_bytes (take i numbers) ++ w ∷ []) same
          ∙ sym (map-append number_bytes (take i numbers) (x ∷ []))
          ∙ ap (map number_bytes) (sym more);
      there = rw more (AllByRecursion-append IsThere (take i numbers) (x ∷ []) c.loop-i.invariant.there (is_there x c.is_none.result c.is_none.ensures c.if-is_none.false c.word.ensures.range, tt));
    }
