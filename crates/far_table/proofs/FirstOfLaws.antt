-- The first refusal that applies, in a list of tests that others follow.
use Rattle.std.proofs.Common.{◌≡◌, Bool, true, false, List, [], ◌∷◌, ◌++◌, Option, None, Some, refl, ap, ◌∙◌, sym}
use Rattle.std.specs.Prelude.{cond}
use Rattle.std.specs.Option.{option_or}
use Rattle.far_types.specs.declared.refusal.Refusal.{Refusal}
use Rattle.far_types.specs.declared.refusal.Refusal.TheVariants as refusal
use Rattle.far_types.specs.FirstOf.{first_of}

one-more : (b : Bool) (e : Refusal) (first later : Option Refusal) → cond b (Some e) (option_or first later) ≡ option_or (cond b (Some e) first) later
one-more true e first later = refl
one-more false e first later = refl

pub first-behind : (cases more : List (Bool × Refusal)) → first_of (cases ++ more) ≡ option_or (first_of cases) (first_of more)
first-behind [] more = refl
first-behind (case ∷ cases) more = ap (cond case.0 (Some case.1)) (first-behind cases more) ∙ one-more case.0 case.1 (first_of cases) (first_of more)

-- a refusal of the first tests comes before all later ones
pub refused-first : (cases more : List (Bool × Refusal)) (e : Refusal) → first_of cases ≡ Some e → first_of (cases ++ more) ≡ Some e
refused-first cases more e is = first-behind cases more ∙ ap (λ o. option_or o (first_of more)) is

-- if no first test applies, the later ones decide
pub passed : (cases more : List (Bool × Refusal)) → first_of cases ≡ None → first_of (cases ++ more) ≡ first_of more
passed cases more free = first-behind cases more ∙ ap (λ o. option_or o (first_of more)) free

none-of : (first later : Option Refusal) → option_or first later ≡ None → (first ≡ None) × (later ≡ None)
none-of None later free = (refl, free)
none-of (Some e) later free = absurd cc

-- if no test of the list applies, none of either part does
pub free-parts : (cases more : List (Bool × Refusal)) → first_of (cases ++ more) ≡ None → (first_of cases ≡ None) × (first_of more ≡ None)
free-parts cases more free = none-of (first_of cases) (first_of more) (sym (first-behind cases more) ∙ free)

pub free-head : (b : Bool) (e : Refusal) (later : Option Refusal) → cond b (Some e) later ≡ None → (b ≡ false) × (later ≡ None)
free-head true e later free = absurd cc
free-head false e later free = (refl, free)

pub or-assoc : (a b c : Option Refusal) → option_or (option_or a b) c ≡ option_or a (option_or b c)
or-assoc None b c = refl
or-assoc (Some e) b c = refl

-- an object reaches its limit of writes only if the table reaches its limit of edits, so its test may be left out
pub last-used : (object table : Bool) → (table ≡ false → object ≡ false) → cond object (Some refusal.EditsUsedUp) (cond table (Some refusal.EditsUsedUp) None) ≡ cond table (Some refusal.EditsUsedUp) None
last-used true true only = refl
last-used true false only = absurd (let e : true ≡ false = only refl in cc)
last-used false table only = refl
