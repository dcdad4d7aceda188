use Rattle.std.proofs.lemmas.Int.{to_z-of_z}
use Rattle.far_script.proofs.PrintingNumbers.{number-key}
use Rattle.far_script.proofs.print.number_key.Goals as goal

pub returns : goal.returns
returns c = record {
  ok =
      let grown = simp (to_z-of_z, c.ranges.number) at c.in_ok-signed.ensures.ok in
      rw (number-key c.args.page.now c.signed.new.self c.args.number grown) at c.byte.ensures.ok;
}
