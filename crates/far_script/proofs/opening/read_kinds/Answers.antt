use Rattle.std.proofs.Common.{lit<}
use Rattle.std.proofs.lemmas.Str.Pattern.{split_once_first}
use Rattle.far_script.proofs.OpeningsKinds.{no-kind-first, no-kind-last}
use Rattle.far_script.proofs.opening.read_kinds.Goals as goal

pub returns-in-None : goal.returns-in-None
returns-in-None c =
    let found = split_once_first 44 c.loop-name.rest.now c.split_once.result c.split_once.ensures.cases (lit< tt) in
    let parts = rw c.in-Some.is at found in
    record { kinds = no-kind-first c.loop-name.kinds.items c.loop-name.rest.now c.in-Some.name.now _ (parts.0, parts.1) c.in-None.ensures c.loop-name.invariant.kinds }

pub returns-in-None-read_kind : goal.returns-in-None-read_kind
returns-in-None-read_kind c =
    let found = split_once_first 44 c.loop-name.rest.now c.split_once.result c.split_once.ensures.cases (lit< tt) in
    let none = rw c.in_default.is at found in
    record { kinds = no-kind-last c.loop-name.kinds.items c.loop-name.rest.now _ none c.in-None-read_kind.ensures c.loop-name.invariant.kinds }
