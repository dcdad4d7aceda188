use Rattle.std.proofs.Common.{◌≡◌, ◌++◌, ℕ, List, map, Some, None, cond, get_or, [], ◌∷◌, ap, sym, ◌∙◌, rules, arith, length}
use Rattle.std.proofs.lemmas.List.{nil_from_length}
use Rattle.std.proofs.lemmas.Bool.Decides.{nat_tests}
use Rattle.std.specs.List.{range_with_len}
use Rattle.std.proofs.lemmas.List.FromFn.{map-range_with_len_more}
use Rattle.std.proofs.lemmas.Iterator.{YieldsList-from_map, YieldsList-from_slice}
use Rattle.std.proofs.lemmas.Iterator.Adapters.{items_from_extend}
use Rattle.far_codec.specs.Reading.{number_of, numbers_of}
use Rattle.far_codec.proofs.FarFormNumbers.{plain_numbers, number_at}
use Rattle.far_codec.proofs.ints.read_ints.Goals as goal

pub returns-then-is_empty : goal.returns-then-is_empty
returns-then-is_empty c =
    let words = c.args.parts.now.words.now in
    let h = items_from_extend c.extend.result c.extend.ensures.ran (YieldsList-from_map _ (λ (w : List ℕ). Some (number_of w)) (YieldsList-from_slice words cc) (cc) (λ x r q k. search rules)) in
    let items : c.extend.new.self.items ≡ map (λ w. Some (number_of w)) words = search rules in
    let p = c.is_empty.ensures in
    let q = c.if-is_empty.true in
    let none : length c.args.parts.now.mask.now ≡ 0 = grind (arith, nat_tests) in
    items ∙ plain_numbers words ∙ ap (λ (m : List ℕ). numbers_of m words) (sym (nil_from_length c.args.parts.now.mask.now none))

pub loop-i-preserved : goal.loop-i-preserved
loop-i-preserved c =
    let mask = c.args.parts.now.mask.now in
    let words = c.args.parts.now.words.now in
    let i = c.loop-i.i in
    record {
      read =
          c.push_reserved.ensures.items
          ∙ ap (λ l. l ++ c.option_in.result ∷ []) c.loop-i.invariant.read
          ∙ ap (λ x. map (number_at mask words) (range_with_len 0 i) ++ x ∷ []) (c.option_in.ensures ∙ ap (λ b. cond b None (Some (number_of (get_or words i [])))) c.is_set.ensures)
          ∙ sym (map-range_with_len_more (number_at mask words) 0 i i (omega arith));
      len = omega (arith, c.push_reserved.ensures.len, c.loop-i.invariant.len);
      space = c.push_reserved.ensures.capacity ∙ c.loop-i.invariant.space;
    }
