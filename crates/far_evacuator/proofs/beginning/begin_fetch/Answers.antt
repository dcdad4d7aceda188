use Rattle.std.proofs.Common.{refl, sym, ◌∙◌}
use Rattle.far_evacuator.proofs.beginning.begin_fetch.Goals as goal

pub again_of-requires-clause-copy : goal.again_of-requires-clause-copy
again_of-requires-clause-copy g c = λ κs outlives. rw (c.word.ensures.word, sym c.read.ensures.says ∙ c.in-Remote.is) refl
