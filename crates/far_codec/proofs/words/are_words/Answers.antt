use Rattle.std.proofs.Common.{◌++◌, ℕ, List, [], ◌∷◌, map, take, get_or, sym, ap, ◌∙◌, arith}
use Rattle.std.proofs.lemmas.List.{take_more, get_or-map, map-append}
use Rattle.far_codec.proofs.Chunks.{AllByRecursion-append, taken_more}
use Rattle.std.proofs.lemmas.Bool.{false≢true}
use Rattle.far_codec.proofs.Compared.{same_if_not_ne, differ_if_ne}
use Rattle.far_codec.proofs.words.are_words.Goals as goal

pub returns-then-ne-clause-exact : goal.returns-then-ne-clause-exact
returns-then-ne-clause-exact g c =
    let words = c.args.words.now in
    let list = c.args.list.now in
    let i = c.loop-i.i in
    let x = c.index-list-i.result in (
      λ h. absurd (false≢true h),
      λ e. absurd (differ_if_ne c.ne.result (get_or words i []) c.word.result c.ne.ensures c.if-ne.true (ap (λ (l : List (List ℕ)). get_or l i []) e ∙ get_or-map g.T.EightBytes.written list i x [] (omega arith) ∙ ap g.T.EightBytes.written (sym c.index-list-i.is) ∙ sym c.word.ensures.bytes)),
    )

pub loop-i-preserved : goal.loop-i-preserved
loop-i-preserved g c =
    let words = c.args.words.now in
    let list = c.args.list.now in
    let i = c.loop-i.i in
    let x = c.index-list-i.result in
    let same = same_if_not_ne c.ne.result (get_or words i []) c.word.result c.ne.ensures c.if-ne.false ∙ c.word.ensures.bytes in
    let more = taken_more list i x (omega arith) c.index-list-i.is in
    record {
      same =
          take_more words i [] c.loop-i-test.true
          ∙ ap (λ (l : List (List ℕ)). l ++ get_or words i [] ∷ []) c.loop-i.invariant.same
          ∙ ap (λ (w : List ℕ). map g.T.EightBytes.written (take i list) ++ w ∷ []) same
          ∙ sym (map-append g.T.EightBytes.written (take i list) (x ∷ []))
          ∙ ap (map g.T.EightBytes.written) (sym more);
      range = rw more (AllByRecursion-append g.T.EightBytes.in_range (take i list) (x ∷ []) c.loop-i.invariant.range (c.word.ensures.range, tt));
    }
