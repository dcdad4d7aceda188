use Rattle.std.proofs.Common.{◌++◌, [], ◌∷◌, take, get_or, None, sym, ap, ◌∙◌, arith}
use Rattle.std.specs.List.{flat_map}
use Rattle.std.proofs.lemmas.List.{take_more, append-nil}
use Rattle.far_codec.specs.FarForm.{number_bytes}
use Rattle.far_codec.specs.PlainNumbers.{IsThere}
use Rattle.far_codec.proofs.Chunks.{AllByRecursion-append, written_more}
use Rattle.far_codec.proofs.PlainNumbersLaws.{is_there}
use Rattle.far_codec.proofs.present.push_few.Goals as goal

pub loop-number-preserved : goal.loop-number-preserved
loop-number-preserved c =
    let numbers = c.args.numbers.now in
    let k = c.loop-number.number-index in
    let x = get_or numbers k None in
    let more = take_more numbers k None (omega arith) in
    let word = c.word.ensures.bytes ∙ sym (append-nil (number_bytes x)) in
    record {
      written = c.in_ok-extend_from_slice.ensures.items ∙ written_more number_bytes c.args.form.now.items c.loop-number.form.items c.word.result (take k numbers) (x ∷ []) c.loop-number.invariant.written word ∙ ap (λ l. c.args.form.now.items ++ flat_map number_bytes l) (sym more);
      there = rw more (AllByRecursion-append IsThere (take k numbers) (x ∷ []) c.loop-number.invariant.there (is_there x c.is_none.result c.is_none.ensures c.if-is_none.false c.word.ensures.range, tt));
    }
