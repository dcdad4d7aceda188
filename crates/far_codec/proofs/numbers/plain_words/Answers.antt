use Rattle.std.proofs.Common.{◌≡◌, ◌∷◌, ◌/◌, ◌*◌, ℕ, List, length, drop, arith, sym, ap, ◌∙◌}
use Rattle.std.specs.Int.{w32, to_le_bytes}
use Rattle.std.specs.Simd.{first_chunks}
use Rattle.std.proofs.lemmas.Bool.Decides.{nat_tests}
use Rattle.far_codec.proofs.Compared.{same_if_not_ne, differ_if_ne}
use Rattle.far_codec.proofs.PlainNumbersWords.{plain_parts, head_cells}
use Rattle.far_codec.proofs.numbers.plain_words.Goals as goal

-- 8 * n bytes have n words
words_count : (n : ℕ) (body back : List ℕ) (len : ℕ) → back ≡ body → length body ≡ 8 * n → len ≡ length back / 8 → len ≡ n
words_count n body back len same long is = omega (arith, ap length same)

pub returns-then-bytes-lt6-clause-only : goal.returns-then-bytes-lt6-clause-only
returns-then-bytes-lt6-clause-only c numbers e = let parts = plain_parts c.args.bytes.now numbers e in absurd (omega arith)

pub returns-then-not-is_empty-clause-only : goal.returns-then-not-is_empty-clause-only
returns-then-not-is_empty-clause-only c numbers e =
    let parts = plain_parts c.args.bytes.now numbers e in
    let p = c.is_empty.ensures in
    let q = c.if-not-is_empty.true in
    let back = ap length c.split_at.ensures.back in
    let none : length c.as_chunks.result.1.now ≡ 0 = omega (arith, c.as_chunks.ensures.back_len) in
    absurd (grind (arith, nat_tests))

pub returns-then-ne-clause-only : goal.returns-then-ne-clause-only
returns-then-ne-clause-only c numbers e =
    let parts = plain_parts c.args.bytes.now numbers e in
    let many = words_count (length numbers) (drop 6 c.args.bytes.now) c.split_at.result.1.now (length c.as_chunks.result.0.now) c.split_at.ensures.back parts.body_len c.as_chunks.ensures.front_len in
    differ_if_ne c.ne.result c.split_at.result.0.now c.as_slice.result.now c.ne.ensures c.if-ne.true (c.split_at.ensures.front ∙ parts.head ∙ ap (λ (k : ℕ). 1 ∷ 0 ∷ to_le_bytes w32 k) (sym many) ∙ sym (c.as_slice.ensures ∙ head_cells c.to_le_bytes-count.result (length c.as_chunks.result.0.now) c.to_le_bytes-count.ensures))

pub returns-clause-found : goal.returns-clause-found
returns-clause-found c =
    let head = same_if_not_ne c.ne.result c.split_at.result.0.now c.as_slice.result.now c.ne.ensures c.if-ne.false in
    let r = c.if-not-is_empty.false in
    let none : length c.as_chunks.result.1.now ≡ 0 = grind (arith, nat_tests) in
    record {
      head = sym c.split_at.ensures.front ∙ head ∙ c.as_slice.ensures ∙ head_cells c.to_le_bytes-count.result (length c.as_chunks.result.0.now) c.to_le_bytes-count.ensures;
      words_are = c.as_chunks.ensures.front ∙ ap (λ (k : ℕ). first_chunks 8 k c.split_at.result.1.now) (sym c.as_chunks.ensures.front_len) ∙ ap (first_chunks 8 (length c.as_chunks.result.0.now)) c.split_at.ensures.back;
      len = omega (arith, c.split_at.ensures.back_len, c.as_chunks.ensures.front_len, c.as_chunks.ensures.back_len);
    }

pub returns-clause-only : goal.returns-clause-only
returns-clause-only c numbers e =
    let parts = plain_parts c.args.bytes.now numbers e in
    let many = words_count (length numbers) (drop 6 c.args.bytes.now) c.split_at.result.1.now (length c.as_chunks.result.0.now) c.split_at.ensures.back parts.body_len c.as_chunks.ensures.front_len in
    c.as_chunks.ensures.front ∙ ap (λ (k : ℕ). first_chunks 8 k c.split_at.result.1.now) (sym c.as_chunks.ensures.front_len ∙ many) ∙ ap (first_chunks 8 (length numbers)) c.split_at.ensures.back ∙ parts.words_are
