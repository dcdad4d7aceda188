-- Combining several results into one.
use Rattle.std.proofs.Common.{◌≡◌, Result, IfOk, IfErr, IsOk, OnOk, subst, sym}
use Rattle.std.proofs.lemmas.Result.{IfErr-weaker, IfErr-at_err}
use Rattle.std.specs.Prelude.{IsErrOf, IsOkAnd}
use mathlib.Core.Bool.{true≢false}
use Rattle.std.specs.declared.result.Result.TheVariants.{Ok, Err}

-- a property of one result's value is a property of that part of the whole
pub kept : {T E U F : Type 0} (P : T → Type 0) (part : U → T) (r : Result T E) (whole : Result U F) → IfOk whole (λ u. IsOkAnd r (λ x. x ≡ part u)) → IfOk r P → IfOk whole (λ u. P (part u))
kept P part (Ok x) (Ok u) same holds = subst P same holds
kept P part (Err e) (Ok u) same holds = absurd same
kept P part (Ok x) (Err f) same holds = tt
kept P part (Err e) (Err f) same holds = tt

-- a property of a result's value implies another
pub if-ok : {T E : Type 0} {P Q : T → Type 0} (r : Result T E) → IfOk r P → ((x : T) → P x → Q x) → IfOk r Q
if-ok (Ok x) holds follows = follows x holds
if-ok (Err e) holds follows = tt

-- a property of one result's value implies one of the whole that was made of it
pub made-of : {T E U F : Type 0} {P : T → Type 0} {Q : U → T → Type 0} {R : U → Type 0} (r : Result T E) (whole : Result U F) → IfOk whole (λ u. IsOkAnd r (Q u)) → IfOk r P → ((x : T) (u : U) → P x → Q u x → R u) → IfOk whole R
made-of (Ok x) (Ok u) made holds follows = follows x u holds made
made-of (Err e) (Ok u) made holds follows = absurd made
made-of (Ok x) (Err f) made holds follows = tt
made-of (Err e) (Err f) made holds follows = tt

-- a property of a result's value is a property of the value that it had
pub of-ok : {T E : Type 0} (P : T → Type 0) (r : Result T E) (x : T) → IsOkAnd r (λ y. y ≡ x) → IfOk r P → P x
of-ok P (Ok y) x same holds = subst P same holds
of-ok P (Err e) x same holds = absurd same

-- a property that a value has after the work on it is a property of the returned value
pub value-done : {T U E F : Type 0} (P : T → Type 0) (value : T) (kept : Result T E) (done : Result U F) → IfOk kept (λ x. (x ≡ value) × IsOk done) → OnOk done (P value) → IfOk kept P
value-done P value (Ok x) (Ok u) same holds = subst P (sym same.0) holds
value-done P value (Ok x) (Err f) same holds = absurd (true≢false (sym same.1))
value-done P value (Err e) done same holds = tt

-- the error of the work is the error that is returned
pub why-done : {T U E : Type 0} (Q : E → Type 0) (kept : Result T E) (done : Result U E) → IfErr kept (IsErrOf done) → IfErr done Q → IfErr kept Q
why-done Q kept done same holds = IfErr-weaker kept (IsErrOf done) Q (λ e is. IfErr-at_err Q is holds) same
