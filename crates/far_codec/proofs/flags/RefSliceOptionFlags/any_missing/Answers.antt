use Rattle.std.proofs.Common.{◌∙◌}
use Rattle.far_codec.proofs.FarFormMaskBytes.{missing_any}
use Rattle.far_codec.proofs.flags.RefSliceOptionFlags.any_missing.Goals as goal

pub returns : goal.returns
returns g c = c.any_none.ensures ∙ missing_any c.args.self.now.now
