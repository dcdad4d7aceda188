use Rattle.std.proofs.Common.{ap, arith}
use Rattle.std.specs.List.{position_or_len}
use Rattle.std.proofs.lemmas.List.{length-drop, take_rest}
use Rattle.far_script.specs.Lines.{is_line_feed}
use Rattle.far_script.proofs.LinesFeeds.{feed-later, feed-none}
use Rattle.far_script.proofs.input.filling.line_feed.Goals as goal

pub returns-in-Some-clause-some : goal.returns-in-Some-clause-some
returns-in-Some-clause-some c =
    let bytes = c.args.bytes.now in
    let found = rw c.in-Some.is at c.first_feed.ensures in
    let rest = ap (position_or_len is_line_feed) (take_rest bytes c.args.from) in
    feed-later bytes c.args.from c.requires.within c.requires.none c.in-Some.at (omega (arith, found.0, length-drop c.args.from bytes)) (omega (arith, found.1, rest))

pub returns-in-None-clause-none : goal.returns-in-None-clause-none
returns-in-None-clause-none c =
    let bytes = c.args.bytes.now in
    let found = rw c.in-None.is at c.first_feed.ensures in
    let rest = ap (position_or_len is_line_feed) (take_rest bytes c.args.from) in
    feed-none bytes c.args.from c.requires.within c.requires.none (omega (arith, found, rest, length-drop c.args.from bytes))
