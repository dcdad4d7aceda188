use Rattle.std.proofs.Common.{◌≡◌, ◌+◌, ◌/◌, ◌++◌, ℕ, Bool, true, List, length, take, drop, refl, sym, ap, ◌∙◌, arith}
use Rattle.std.proofs.lemmas.Bool.{false≢true}
use Rattle.std.proofs.lemmas.List.{take-append-drop, length-append, take_at, drop_at}
use Rattle.far_codec.specs.FarForm.{mask_of, some_missing}
use Rattle.far_codec.specs.Reading.{flags_of}
use Rattle.far_codec.specs.MaskLaws.{length-mask}
use Rattle.far_codec.proofs.ReadingMasks.{flags_again}
use Rattle.far_codec.proofs.head.split_mask.Goals as goal

-- the length of the mask of this many flags
mask_len : (flags : List Bool) (count : ℕ) → length flags ≡ count → some_missing flags ≡ true → length (mask_of flags) ≡ (count + 7) / 8
mask_len flags count len any = length-mask flags any ∙ ap (λ n. (n + 7) / 8) len

-- the prefix of the rest is the mask, which determines its flags
front_is : (flags : List Bool) (count : ℕ) (rest fields front : List ℕ) → length flags ≡ count → some_missing flags ≡ true → rest ≡ mask_of flags ++ fields → front ≡ take ((count + 7) / 8) rest → front ≡ mask_of flags
front_is flags count rest fields front len any e is = is ∙ ap (take ((count + 7) / 8)) e ∙ take_at (mask_of flags) fields ((count + 7) / 8) (mask_len flags count len any)

tells : (flags : List Bool) (count : ℕ) (front : List ℕ) → length flags ≡ count → front ≡ mask_of flags → flags_of front count ≡ flags
tells flags count front len is = ap (λ m. flags_of m count) is ∙ ap (flags_of (mask_of flags)) (sym len) ∙ flags_again flags

pub returns-then-rest-length-clause-only : goal.returns-then-rest-length-clause-only
returns-then-rest-length-clause-only c flags fields len any e =
    absurd (omega (arith, mask_len flags c.args.count len any, length-append (mask_of flags) fields, ap length e))

pub returns-then-not-is_mask-clause-only : goal.returns-then-not-is_mask-clause-only
returns-then-not-is_mask-clause-only c flags fields len any e =
    let front = c.split_at.result.0.now in
    let is = front_is flags c.args.count c.args.rest.now fields front len any e c.split_at.ensures.front in
    let same = tells flags c.args.count front len is in
    let yes : c.is_mask.result ≡ true = c.is_mask.ensures.1 (is ∙ ap mask_of (sym same), ap some_missing same ∙ any) in
    absurd (false≢true (sym c.if-not-is_mask.true ∙ yes))

pub returns-clause-found : goal.returns-clause-found
returns-clause-found c =
    let front = c.split_at.result.0.now in
    let back = c.split_at.result.1.now in
    let n = (c.args.count + 7) / 8 in
    let good = c.is_mask.ensures.0 c.if-not-is_mask.false in
    let parts : front ++ back ≡ c.args.rest.now = ap (λ (l : List ℕ). l ++ back) c.split_at.ensures.front ∙ ap (λ (l : List ℕ). take n c.args.rest.now ++ l) c.split_at.ensures.back ∙ take-append-drop n c.args.rest.now in
    (refl, sym parts ∙ ap (λ (l : List ℕ). l ++ back) good.0, good.1)

pub returns-clause-only : goal.returns-clause-only
returns-clause-only c flags fields len any e =
    let is = front_is flags c.args.count c.args.rest.now fields c.split_at.result.0.now len any e c.split_at.ensures.front in
    (refl, is, c.split_at.ensures.back ∙ ap (drop ((c.args.count + 7) / 8)) e ∙ drop_at (mask_of flags) fields ((c.args.count + 7) / 8) (mask_len flags c.args.count len any))
