use Rattle.std.proofs.Common.{◌<◌, length, get_or, sym, ap, subst, arith}
use Rattle.std.proofs.lemmas.List.{get_or_default}
use Rattle.far_codec.specs.TextForm.{texts_of, ends_in, IsTextsForm}
use Rattle.far_codec.proofs.FormsMeaning.{is_texts_form}
use Rattle.far_codec.proofs.bytes.U8Elem.unspell.Goals as goal

pub returns-in_ok-from_slice-in-Some-clause-found : goal.returns-in_ok-from_slice-in-Some-clause-found
returns-in_ok-from_slice-in-Some-clause-found c =
    let bytes = c.args.bytes.now in
    let p = c.in-Some.field-0 in
    let found = c.in-Some.ensures.found in
    let same = c.in_ok-from_slice-in-Some.ensures.items in
    record {
      range = λ k d h. let in_bytes : k < length bytes = omega (arith, ap length same) in omega (arith, ap (λ l. get_or l k d) same, get_or_default bytes k d 0 in_bytes, c.type_inv.bytes k);
      has = subst IsTextsForm (sym same) (is_texts_form bytes (texts_of p.mask.now (ends_in p.ends.now) p.body.now) found.0 found.1);
      is = sym same;
    }
