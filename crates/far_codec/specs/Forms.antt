-- Values of either kind, and their far form.
use Rattle.std.specs.Prelude.{ℕ, List}
use Rattle.far_codec.specs.FarForm.{ints_form, AreInts}
use Rattle.far_codec.specs.TextForm.{texts_form, AreTexts}
use Rattle.far_codec.specs.declared.values.Values.{Values}
use Rattle.far_codec.specs.declared.values.Values.TheVariants.{Ints, Texts}

-- the one far form of values
abbrev pub form_of : Values → List ℕ
form_of (Ints numbers) = ints_form numbers
form_of (Texts texts) = texts_form texts

-- values that have a far form
abbrev pub HaveForm : Values → Type 0
HaveForm (Ints numbers) = AreInts numbers
HaveForm (Texts texts) = AreTexts texts
