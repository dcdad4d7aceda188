use Rattle.std.proofs.Common.{rules, ◌≡◌, [], slice_index, refl, inl, inr, ap, ◌∙◌, arith}
use Rattle.std.proofs.lemmas.List.{get_or-set_same, get_or-set_other}
use Rattle.std.proofs.lemmas.Bool.{cases_lt}
use Rattle.far_host.proofs.LaneLaws.{lane_words}
use Rattle.far_host.proofs.lanes.words_of.Goals as goal

pub words-preserved : goal.words-preserved
words-preserved c = (
  search rules,
  λ k lt. elim (cases_lt k c.words.i) [
    | inl a ↦ get_or-set_other c.words.w c.words.i k _ [] (omega arith) ∙ c.words.invariant.1 k a
    | inr b ↦
        let e : c.words.i ≡ k = omega arith in
        rw (← e) (get_or-set_same c.words.w c.words.i _ [] (omega arith) ∙ rw (c.word_at.ensures, c.word_at-in-words.ensures, c.word_at-in-words-2.ensures, c.word_at-in-words-3.ensures) refl)
  ],
)

pub returns-clause-first : goal.returns-clause-first
returns-clause-first c = lane_words c.words.w c.args.first.now 0 c.words.invariant.0 (λ k below. ap (λ v. slice_index v 0) (c.words.invariant.1 k (omega arith)))

pub returns-clause-second : goal.returns-clause-second
returns-clause-second c = lane_words c.words.w c.args.second.now 1 c.words.invariant.0 (λ k below. ap (λ v. slice_index v 1) (c.words.invariant.1 k (omega arith)))

pub returns-clause-third : goal.returns-clause-third
returns-clause-third c = lane_words c.words.w c.args.third.now 2 c.words.invariant.0 (λ k below. ap (λ v. slice_index v 2) (c.words.invariant.1 k (omega arith)))

pub returns-clause-fourth : goal.returns-clause-fourth
returns-clause-fourth c = lane_words c.words.w c.args.fourth.now 3 c.words.invariant.0 (λ k below. ap (λ v. slice_index v 3) (c.words.invariant.1 k (omega arith)))
