use Rattle.std.proofs.Common.{refl}
use Rattle.far_codec.specs.TextForm.{ends_in}
use Rattle.far_codec.proofs.TextParts.{parts_of, ascii_utf8, utf8_of}
use Rattle.far_codec.proofs.texts.are_texts.Goals as goal

pub returns-then-is_ascii : goal.returns-then-is_ascii
returns-then-is_ascii c =
    let ends = ends_in c.args.ends.now in
    let body = c.args.body.now in (
      λ _. parts_of c.args.mask.now ends body (c.ascend_to.ensures.0 c.if-not-ascend_to.false) (c.missing_are_empty.ensures.0 c.if-not-missing_are_empty.false) (ascii_utf8 ends body c.if-is_ascii.ensures.cases),
      λ _. refl,
    )

pub returns : goal.returns
returns c =
    let ends = ends_in c.args.ends.now in
    let body = c.args.body.now in (
      λ t. parts_of c.args.mask.now ends body (c.ascend_to.ensures.0 c.if-not-ascend_to.false) (c.missing_are_empty.ensures.0 c.if-not-missing_are_empty.false) (c.are_utf8.ensures.0 t),
      λ parts. c.are_utf8.ensures.1 (utf8_of c.args.mask.now ends body parts),
    )
