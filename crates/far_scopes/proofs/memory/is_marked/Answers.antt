use Rattle.std.proofs.Common.{sym, ◌∙◌}
use Rattle.far_scopes.proofs.MemoryLaws.{after_mark-is}
use Rattle.far_scopes.proofs.memory.is_marked.Goals as goal

pub returns-then-dirty : goal.returns-then-dirty
returns-then-dirty c = λ is. after_mark-is c.args.word (sym c.dirty-dirty.ensures ∙ c.if-dirty.true) (sym c.hot-hot.ensures ∙ is)
