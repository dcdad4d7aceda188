-- Facts about a result that is passed on.
use Rattle.std.proofs.Common.{◌≡◌, Result, Ok, Err, IfErr, IfOk, IsErrAnd, IsOk, IsOkAnd, OnOk, subst, sym}

pub each-ok : {T E : Type 0} (r : Result T E) (P Q : T → Type 0) → ((x : T) → P x → Q x) → IfOk r P → IfOk r Q
each-ok (Ok x) P Q f h = f x h
each-ok (Err e) P Q f h = tt

pub each-err : {T E : Type 0} (r : Result T E) (P Q : E → Type 0) → ((e : E) → P e → Q e) → IfErr r P → IfErr r Q
each-err (Ok x) P Q f h = tt
each-err (Err e) P Q f h = f e h

pub on-ok : {T E : Type 0} (r : Result T E) (P Q : Type 0) → (P → Q) → OnOk r P → OnOk r Q
on-ok (Ok x) P Q f h = f h
on-ok (Err e) P Q f h = tt

-- a fact about a result and one about printing its reply imply a third
pub printed-ok : {T E U F : Type 0} (r : Result T E) (printed : Result U F) (A B Q : Type 0) → OnOk r (IsOk printed) → OnOk r A → OnOk printed B → (A → B → Q) → OnOk r Q
printed-ok (Ok x) (Ok y) A B Q is a b f = f a b
printed-ok (Ok x) (Err e) A B Q is a b f = cc is
printed-ok (Err e) printed A B Q is a b f = tt

pub three-errs : {T E : Type 0} (r : Result T E) (P Q R : E → Type 0) → IfErr r P → IfErr r Q → IfErr r R → IfErr r (λ e. P e × Q e × R e)
three-errs (Ok x) P Q R p q s = tt
three-errs (Err e) P Q R p q s = (p, q, s)

-- a property of the moved value is a property of what is now in its place
pub moved-on : {T E F U : Type 0} (r : Result U E) (m : Result T F) (place : T) (P : T → Type 0) → OnOk r (IsOkAnd m (λ new. place ≡ new)) → IfOk m P → OnOk r (P place)
moved-on (Ok u) (Ok x) place P is h = subst P (sym is) h
moved-on (Ok u) (Err e) place P is h = absurd is
moved-on (Err e) m place P is h = tt

-- a property of the value that came back is a property of what is now in its place
pub came-back : {T E U : Type 0} (r : Result U E) (m : Result T (E × T)) (place : T) (P : E → T → Type 0) → IfErr r (λ e. IsErrAnd m (λ back. (back.0 ≡ e) × (place ≡ back.1))) → IfErr m (λ e. P e.0 e.1) → IfErr r (λ e. P e place)
came-back (Ok u) m place P is h = tt
came-back (Err e) (Ok x) place P is h = absurd is
came-back (Err e) (Err back) place P is h = subst (P e) (sym is.1) (subst (λ why. P why back.1) is.0 h)

-- a fact that holds of both outcomes holds
pub both-ways : {T E : Type 0} (r : Result T E) (P : Type 0) → OnOk r P → IfErr r (λ e. P) → P
both-ways (Ok x) P ok err = ok
both-ways (Err e) P ok err = err
