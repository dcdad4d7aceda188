use Rattle.std.proofs.Common.{◌≡◌, ◌≤◌, ◌+◌, ℕ, List, length, drop, length-append, ap, arith, ◌∙◌}
use Rattle.std.specs.Prelude.{decimal}
use Rattle.far_script.proofs.DigitLaws.{digits-in-place}
use Rattle.far_script.proofs.page.Page.digits.Goals as goal

pub returns : goal.returns
returns c = record {
  ok =
      let grown = c.as_mut_slice.ensures.value ∙ c.self.view_is ∙ c.in_ok-bytes.ensures.ok in
      let ends : c.len-len.result + c.args.count ≡ length c.args.self.now + length (decimal c.args.number) = omega (arith, c.len-len.ensures, c.requires.count) in
      let long = ap (λ (t : List ℕ). length t) grown ∙ length-append c.args.self.now c.args.zeros.now in
      let within : c.len-len.result + c.args.count ≤ c.self.inside.bytes.len = omega (arith, c.as_mut_slice.ensures.len, long, c.len-len.ensures, c.requires.room) in
      c.truncate.ensures
      ∙ digits-in-place c.args.self.now c.args.zeros.now c.as_mut_slice.result.now c.write_digits-start.new.buf (drop (length c.write_digits-start.new.buf) c.self.inside.bytes.items) (decimal c.args.number) c.write_digits-start.result (c.len-len.result + c.args.count) c.self.inside.bytes.len grown c.write_digits-start.ensures.start ends within c.write_digits-start.ensures.written c.write_digits-start.ensures.before;
}
