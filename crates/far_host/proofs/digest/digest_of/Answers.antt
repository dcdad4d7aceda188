use Rattle.std.proofs.Common.{◌*◌, [], arith}
use Rattle.std.proofs.lemmas.List.{take_rest}
use Rattle.far_host.specs.ContentDigest.{part_len}
use Rattle.far_host.proofs.DigestLaws.{digest_of_parts, part_digest}
use Rattle.far_host.proofs.digest.digest_of.Goals as goal

pub returns : goal.returns
returns c =
    let content = c.args.content.now in
    let hashed = c.hash_values-state.ensures in
    let first = part_digest content _ _ 0 0 _ (omega arith) (omega arith) hashed.first c.digest_in.ensures in
    let second = part_digest content _ _ 1 _ _ (omega arith) (omega arith) hashed.second c.digest_in-2.ensures in
    let third = part_digest content _ _ 2 _ _ (omega arith) (omega arith) hashed.third c.digest_in-3.ensures in
    let fourth = part_digest content _ _ 3 _ _ (omega arith) (omega arith) hashed.fourth c.digest_in-4.ensures in
    let all = c.update-5.ensures _ (c.update-4.ensures _ (c.update-3.ensures _ (c.update-2.ensures _ (c.update.ensures [] c.new-hasher.ensures)))) in
    digest_of_parts content _ _ _ _ _ (omega arith) first second third fourth (rw (take_rest content (4 * part_len content)) at (c.finalize.ensures _ all))
