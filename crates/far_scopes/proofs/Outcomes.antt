-- Consequences of facts about a result's two outcomes.
use Rattle.std.specs.Prelude.{Result, OnOk, OnErr}
use Rattle.std.specs.declared.result.Result.TheVariants.{Ok, Err}
use Rattle.far_types.specs.declared.refusal.Refusal.{Refusal}

-- a fact that follows from either outcome
pub by-outcome : {A P Q R : Type 0} (r : Result A Refusal) → OnOk r P → OnErr r Q → (P → R) → (Q → R) → R
by-outcome (Ok x) p q ok err = ok p
by-outcome (Err e) p q ok err = err q

-- a fact that follows if there was no refusal
pub on-ok : {A P R : Type 0} (r : Result A Refusal) → OnOk r P → (P → R) → OnOk r R
on-ok (Ok x) p ok = ok p
on-ok (Err e) p ok = tt

-- a fact that follows from two facts about either outcome
pub by-outcomes : {A P Q R S T : Type 0} (r : Result A Refusal) → OnOk r P → OnOk r Q → OnErr r R → OnErr r S → (P → Q → T) → (R → S → T) → T
by-outcomes (Ok x) p q r s ok err = ok p q
by-outcomes (Err e) p q r s ok err = err r s

pub on-both : {A P Q R : Type 0} (r : Result A Refusal) → OnOk r P → OnOk r Q → (P → Q → R) → OnOk r R
on-both (Ok x) p q ok = ok p q
on-both (Err e) p q ok = tt
