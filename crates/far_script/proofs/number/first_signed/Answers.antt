use Rattle.std.proofs.Common.{◌≡◌, to_z, of_z, w64, slice_index, refl, rules}
use Rattle.far_script.proofs.NumbersFirst.{with-minus}
use Rattle.far_script.proofs.number.first_signed.Goals as goal

pub returns-in_ok-number-in-45 : goal.returns-in_ok-number-in-45
returns-in_ok-number-in-45 c =
    let first = rw c.in_ok-size-in-45.was at c.first_number.ensures in
    let number = c.in_ok-number-in-45.ensures in
    let text = c.args.text.now in
    let minus : slice_index text 0 ≡ 45 = search rules in
    let back : to_z w64 (of_z w64 c.in_ok-number-in-45.number) ≡ c.in_ok-number-in-45.number = search rules in
    rw back (with-minus text _ c.in_ok-size-in-45.len c.in_ok-size-in-45.size c.in_ok-number-in-45.number c.in-45.len_at_least minus refl first.0 first.1 first.3 number.1)
