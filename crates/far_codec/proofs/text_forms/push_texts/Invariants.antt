use Rattle.std.proofs.Common.{◌≡◌, ◌++◌, take}
use Rattle.std.specs.Prelude.{IfSome}
use Rattle.std.specs.List.{flat_map, AllByRecursion}
use Rattle.std.specs.Str.{IsUtf8}
use Rattle.far_codec.specs.TextForm.{bytes_of}
use Rattle.far_codec.proofs.text_forms.push_texts.Given as goal

abbrev pub invariant-loop-text : goal.invariant-loop-text
invariant-loop-text l = record {
  written : l.form.items ≡ l.fn.form.items ++ flat_map bytes_of (take l.text-index l.texts);
  utf8 : AllByRecursion (λ text. IfSome text IsUtf8) (take l.text-index l.texts);
}
