use Rattle.far_script.proofs.LinesFeeds.{first-feed}
use Rattle.far_script.proofs.lines.first_feed.Goals as goal

pub returns : goal.returns
returns c = first-feed c.args.bytes.now c.memchr.result c.memchr.ensures
