use Rattle.std.proofs.Common.{◌≡◌, map, take}
use Rattle.std.specs.List.{All}
use Rattle.far_c.specs.Opening.{kind_of}
use Rattle.far_c.specs.Unreadable.{IsKind}
use Rattle.far_c.proofs.opening.read_kinds.Given as goal

abbrev pub invariant-loop-kind : goal.invariant-loop-kind
invariant-loop-kind l = record {
  made : l.made.items ≡ map kind_of (take l.kind-index l.kinds);
  readable : All IsKind (take l.kind-index l.kinds);
}
