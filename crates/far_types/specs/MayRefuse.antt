-- Which refusals a call may return.
use Rattle.std.specs.Prelude.{◌≡◌, Bool, true, Option, None, Some}
use Rattle.far_types.specs.declared.refusal.Refusal.{Refusal}
use Rattle.far_types.specs.declared.refusal.Refusal.TheVariants as refusal

-- a refusal that a call may return: the one that is due or, if none is due and the call allocates, out of memory
abbrev pub MayRefuse : Option Refusal → Bool → Refusal → Type 0
MayRefuse (Some due) may_grow given = given ≡ due
MayRefuse None may_grow given = (given ≡ refusal.NoMemory) × (may_grow ≡ true)
