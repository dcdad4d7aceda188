-- Text keys that are kept for the next edit.
-- Internal: no public contract cites it.
use Rattle.std.specs.Prelude.{List, [], ◌∷◌, Option, None, Some}
use Rattle.far_types.specs.declared.key.Key.{Key}
use Rattle.far_types.specs.declared.key.Key.TheVariants as key

-- the keys to keep of a key, if there is capacity: only a text has a string to reuse
abbrev pub text_key : Option Key → List Key
text_key None = []
text_key (Some (key.Int number)) = []
text_key (Some (key.Text text)) = key.Text text ∷ []
