use Rattle.std.proofs.lemmas.Str.{IsAscii-take, IsAscii-drop, IsUtf8-from_ascii}
use Rattle.far_script.proofs.input.Input.text.Goals as goal

pub from_utf8_unchecked-requires : goal.from_utf8_unchecked-requires
from_utf8_unchecked-requires g c = rw c.as_slice.ensures (IsUtf8-from_ascii _ (IsAscii-take _ _ (IsAscii-drop _ _ (c.args.self.now.ascii c.if-self.true))))
