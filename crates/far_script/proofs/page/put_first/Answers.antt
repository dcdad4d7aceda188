use Rattle.far_script.proofs.PageLaws.{put-first}
use Rattle.far_script.proofs.page.put_first.Goals as goal

pub returns : goal.returns
returns c = put-first c.args.bytes.now c.args.all.now c.copy_within.new.self c.copy_from_slice.new.self c.args.len c.requires c.copy_within.ensures.after c.copy_from_slice.ensures.after
