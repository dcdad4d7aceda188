use Rattle.std.proofs.Common.{◌≡◌, true, [], ◌∷◌, get_or, None, sym, ◌∙◌, refl}
use Rattle.std.proofs.lemmas.Bool.{false≢true}
use Rattle.far_codec.specs.FarForm.{number_bytes}
use Rattle.far_codec.specs.Reading.{is_missing}
use Rattle.far_codec.proofs.Compared.{same_if_not_ne, differ_if_ne}
use Rattle.far_codec.proofs.ints.missing_are_zero.Goals as goal
use Rattle.far_codec.proofs.ints.missing_are_zero.Goals.{then-is_set+else-ne, else-is_set}
use borrow.Author.Count.{below_more}

-- a missing number is written as eight bytes of 0
zero_word : number_bytes None ≡ 0 ∷ 0 ∷ 0 ∷ 0 ∷ 0 ∷ 0 ∷ 0 ∷ 0 ∷ []
unfolding number_bytes
zero_word = refl

pub returns-then-ne : goal.returns-then-ne
returns-then-ne c =
    let i = c.loop-i.i in (
      λ h. absurd (false≢true h),
      λ zeros. absurd (differ_if_ne c.ne.result (get_or c.args.words.now i []) _ c.ne.ensures c.if-ne.true (zeros i c.loop-i-test.true (sym c.is_set.ensures ∙ c.if-is_set.true) ∙ zero_word)),
    )

pub loop-i-preserved : goal.loop-i-preserved
loop-i-preserved c =
    let words = c.args.words.now in
    below_more (λ k. is_missing c.args.mask.now k ≡ true → get_or words k [] ≡ number_bytes None) c.loop-i.i c.loop-i.invariant (λ missing.
    elim c.if-is_set.branch [
      | then-is_set+else-ne w ↦ same_if_not_ne w.ne.result (get_or words c.loop-i.i []) _ w.ne.ensures w.if-ne.false ∙ sym zero_word
      | else-is_set w ↦ absurd (false≢true (sym w.if-is_set.false ∙ c.is_set.ensures ∙ missing))
    ])
