use Rattle.std.proofs.Common.{inl, inr, ◌≡◌, ◌+◌, ◌<◌, ℕ, Bool, true, false, eqb, List, [], ◌∷◌, length, get_or, set, take, refl, sym, ap, ◌∙◌, arith}
use Rattle.std.specs.Prelude.{not, ◌||◌, ◌&&◌}
use Rattle.std.proofs.lemmas.Bool.{cases_Bool, eqb-true, false≢true}
use Rattle.std.proofs.lemmas.Bool.Decides.{Decides-eqb}
use Rattle.std.proofs.lemmas.List.{length-set, get_or-set_same, get_or-set_other, take_all}
use Rattle.std.proofs.lemmas.List.Elements.{All-set}
use Rattle.std.proofs.lemmas.List.Folds.{list_any_more, list_any_none}
use Rattle.far_codec.specs.FarForm.{some_missing}
use Rattle.far_codec.specs.MaskLaws.{no_flag}
use Rattle.far_codec.specs.Reading.{is_missing, flags_of}
use Rattle.far_codec.proofs.FarFormHeads.{unset_without_mask}
use Rattle.far_codec.proofs.ReadingMasks.{length-flags_of, flag_at}
use Rattle.far_codec.proofs.flags.other_missing.Goals as goal

-- flag j, ignoring flag i
flag_but : (mask : List ℕ) (count i j : ℕ) (b : Bool) → j < count → b ≡ eqb j i → get_or (set (flags_of mask count) i false) j false ≡ (not b && is_missing mask j)
flag_but mask count i j true h e =
    let same : j ≡ i = eqb-true j i (sym e) in
    let in_flags : i < length (flags_of mask count) = omega (arith, length-flags_of mask count) in
    ap (λ k. get_or (set (flags_of mask count) i false) k false) same ∙ get_or-set_same (flags_of mask count) i false false in_flags
flag_but mask count i j false h e =
    get_or-set_other (flags_of mask count) i j false false (λ same. absurd (false≢true (e ∙ (Decides-eqb j i).1 same))) ∙ flag_at mask count j h

-- without a mask no other flag is set
none_without_mask : (mask : List ℕ) (count i : ℕ) → length mask ≡ 0 → some_missing (set (flags_of mask count) i false) ≡ false
none_without_mask [] count i e =
    list_any_none (λ missing. missing) (set (flags_of [] count) i false) (All-set (λ missing. missing ≡ false) (flags_of [] count) i false refl (unset_without_mask count))
none_without_mask (byte ∷ mask) count i e = absurd (omega arith)

pub returns-then-is_empty : goal.returns-then-is_empty
returns-then-is_empty c = sym (none_without_mask c.args.mask.now c.args.count c.args.i (eqb-true (length c.args.mask.now) 0 (sym c.is_empty.ensures ∙ c.if-is_empty.true)))

-- a flag that is set is found
any_at : (flags : List Bool) (j : ℕ) → get_or flags j false ≡ true → some_missing flags ≡ true
any_at flags j set_there =
    elim (cases_Bool (some_missing flags)) [
      | inl any ↦ any
      | inr none ↦ absurd (false≢true (sym (no_flag flags j none) ∙ set_there))
    ]

pub returns-then-missing : goal.returns-then-missing
returns-then-missing c =
    let mask = c.args.mask.now in
    let j = c.loop-j.j in
    let flags = set (flags_of mask c.args.count) c.args.i false in
    let given = flag_but mask c.args.count c.args.i j (eqb j c.args.i) c.loop-j-test.true refl ∙ ap (λ b. not (eqb j c.args.i) && b) (sym c.is_set.ensures) in
    sym (any_at flags j (given ∙ c.if-missing.true))

pub loop-j-preserved : goal.loop-j-preserved
loop-j-preserved c =
    let mask = c.args.mask.now in
    let j = c.loop-j.j in
    let flags = set (flags_of mask c.args.count) c.args.i false in
    let more : some_missing (take (j + 1) flags) ≡ (some_missing (take j flags) || get_or flags j false) = list_any_more (λ missing. missing) flags j false (omega (arith, length-set (flags_of mask c.args.count) c.args.i false, length-flags_of mask c.args.count)) in
    let given = flag_but mask c.args.count c.args.i j (eqb j c.args.i) c.loop-j-test.true refl ∙ ap (λ b. not (eqb j c.args.i) && b) (sym c.is_set.ensures) in
    more ∙ ap (λ b. b || get_or flags j false) c.loop-j.invariant ∙ given ∙ c.if-missing.false

pub returns : goal.returns
returns c =
    let mask = c.args.mask.now in
    let flags = set (flags_of mask c.args.count) c.args.i false in
    sym (sym (ap some_missing (take_all c.loop-j.j flags (omega (arith, c.loop-j-test.false, length-set (flags_of mask c.args.count) c.args.i false, length-flags_of mask c.args.count)))) ∙ c.loop-j.invariant)
