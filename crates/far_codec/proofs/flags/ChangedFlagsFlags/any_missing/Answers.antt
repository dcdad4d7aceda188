use Rattle.std.proofs.Common.{◌≡◌, ◌<◌, ◌≤◌, ℕ, zero, suc, Bool, true, false, List, [], ◌∷◌, length, set, refl, sym, ap, ◌∙◌, arith}
use Rattle.std.specs.Prelude.{◌||◌}
use Rattle.far_codec.specs.FarForm.{some_missing}
use Rattle.far_codec.specs.Reading.{flags_of}
use Rattle.far_codec.proofs.TextFormLengthChanges.{set_past}
use Rattle.far_codec.proofs.ReadingMasks.{length-flags_of}
use Rattle.far_codec.proofs.flags.ChangedFlagsFlags.any_missing.Goals as goal
use Rattle.far_codec.proofs.flags.ChangedFlagsFlags.any_missing.Goals.{else-self-via-then-self+else-self-2, else-self-via-else-self}

or_true : (b : Bool) → (b || true) ≡ true
or_true true = refl
or_true false = refl

set_there : (flags : List Bool) (i : ℕ) → i < length flags → some_missing (set flags i true) ≡ true
set_there [] i h = absurd (omega arith)
set_there (b ∷ flags) zero h = refl
set_there (b ∷ flags) (suc i) h = ap (λ x. b || x) (set_there flags i (omega arith)) ∙ or_true b

pub returns-then-self-2 : goal.returns-then-self-2
returns-then-self-2 c =
    let s = c.args.self.now in
    let flags = flags_of s.mask.now s.count in
    let inside : s.i < length flags = omega (arith, c.if-self-2.true, length-flags_of s.mask.now s.count) in
    sym (ap (λ b. some_missing (set flags s.i b)) c.if-self.true ∙ set_there flags s.i inside)

pub returns : goal.returns
returns c =
    let s = c.args.self.now in
    let flags = flags_of s.mask.now s.count in
    elim c.else-self.branch [
      | else-self-via-then-self+else-self-2 w ↦
          let past : length flags ≤ s.i = omega (arith, w.if-self-2.false, length-flags_of s.mask.now s.count) in
          c.other_missing.ensures ∙ ap some_missing (set_past flags s.i false past ∙ sym (set_past flags s.i s.missing past))
      | else-self-via-else-self w ↦ c.other_missing.ensures ∙ ap (λ b. some_missing (set flags s.i b)) (sym w.if-self.false)
    ]
