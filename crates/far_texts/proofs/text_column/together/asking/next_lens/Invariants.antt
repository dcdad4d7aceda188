use Rattle.std.proofs.Common.{◌≡◌, ℕ, ◌+◌, ◌++◌, length, take, drop}
use Rattle.far_texts.specs.Texts.{Lists, lists_of}
use Rattle.far_texts.specs.RefusingTogether.{any_full}
use Rattle.far_texts.proofs.RefusingTogetherForms.{lens-from}
use Rattle.far_texts.proofs.text_column.together.asking.next_lens.Given as goal

abbrev pub invariant-loop-k : goal.invariant-loop-k
invariant-loop-k g l =
    let lists : Lists = lists_of g.S.FarTickets.content l.objects in
    ((n : ℕ) → take l.k l.lens ++ lens-from lists (n + l.k) (drop l.k l.columns) (drop l.k l.texts) ≡ lens-from lists n l.columns l.texts)
    × (length l.lens ≡ 16)
    × ((any_full lists l.columns l.texts).0 ≡ (any_full lists (drop l.k l.columns) (drop l.k l.texts)).0)
