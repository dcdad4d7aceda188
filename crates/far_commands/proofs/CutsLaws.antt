-- What is printed of a reply when a fault ends it.
use Rattle.std.proofs.Common.{◌≡◌, ◌≤◌, ℕ, inl, inr, List, [], ◌∷◌, ◌++◌, length, length-append, take, append-nil, Option, Result, Ok, Err, IfErr, OnErr, ◌∙◌, refl, sym, ap, subst, arith}
use Rattle.far_script.specs.declared.fault.ShellFault.{ShellFault}
use Rattle.far_script.specs.declared.fault.ShellFault.TheVariants as fault
use Rattle.far_script.specs.Faults.{IfInput}
use Rattle.far_script.specs.Flow.{Prints}
use Rattle.far_script.proofs.FlowLaws.{prints, prints-nothing-then}
use Rattle.far_commands.specs.Cuts.{CutOff, IsFront, PrintsCut}

-- if nothing is printed, each fault but a bad start and too many tries may be the reason
pub cut-none : (why : ShellFault) (answer : List ℕ → Type 0) → (why ≡ fault.BadStart → ⊥) → (why ≡ fault.Turns → ⊥) → CutOff why answer []
cut-none fault.BadStart answer other distinct = other refl
cut-none fault.Input answer other distinct = refl
cut-none fault.Output answer other distinct = inl refl
cut-none fault.Memory answer other distinct = inl refl
cut-none fault.Turns answer other distinct = distinct refl

-- a prefix of the reply is printed only before a failed write or a failed allocation
pub cut-output : (why : ShellFault) (answer : List ℕ → Type 0) (text rest : List ℕ) → why ≡ fault.Output → answer (text ++ rest) → CutOff why answer text
cut-output why answer text rest is h = rw is (inr (rest, h))

pub cut-memory : (why : ShellFault) (answer : List ℕ → Type 0) (text rest : List ℕ) → why ≡ fault.Memory → answer (text ++ rest) → CutOff why answer text
cut-memory why answer text rest is h = rw is (inr (rest, h))

front-more : (a b : List ℕ → Type 0) (text : List ℕ) → ((said : List ℕ) → a said → b said) → IsFront a text → IsFront b text
front-more a b text f (inl none) = inl none
front-more a b text f (inr h) = inr (h.0, f (text ++ h.0) h.1)

pub cut-more : (why : ShellFault) (a b : List ℕ → Type 0) (text : List ℕ) → ((said : List ℕ) → a said → b said) → CutOff why a text → CutOff why b text
cut-more fault.BadStart a b text f h = h
cut-more fault.Input a b text f h = h
cut-more fault.Output a b text f h = front-more a b text f h
cut-more fault.Memory a b text f h = front-more a b text f h
cut-more fault.Turns a b text f h = h

pub prints-cut-none : (why : ShellFault) (answer : List ℕ → Type 0) (u v : Option (List ℕ)) (held left : List ℕ) → (why ≡ fault.BadStart → ⊥) → (why ≡ fault.Turns → ⊥) → Prints u held [] v left → PrintsCut why answer u held v left
prints-cut-none why answer u v held left other distinct p = ([], p, cut-none why answer other distinct)

pub prints-cut-more : (why : ShellFault) (a b : List ℕ → Type 0) (u v w : Option (List ℕ)) (held mid left : List ℕ) → ((said : List ℕ) → a said → b said) → Prints u held [] v mid
    → PrintsCut why a v mid w left → PrintsCut why b u held w left
prints-cut-more why a b u v w held mid left f p q = (q.0, prints-nothing-then u v w held mid q.0 left p q.1, cut-more why a b q.0 f q.2)

-- a call that runs out of memory before it prints anything
pub printed-err : {T : Type 0} (r : Result T ShellFault) (answer : List ℕ → Type 0) (u : Option (List ℕ)) (held left : List ℕ) → IfErr r (λ why. why ≡ fault.Memory) → OnErr r (left ≡ held)
    → IfErr r (λ why. PrintsCut why answer u held u left)
printed-err (Ok x) answer u held left is same = tt
printed-err (Err why) answer u held left is same = ([], prints u held [] left (same ∙ sym (append-nil held)), rw is (inl refl))

-- running out of memory is not a fault of the input
pub no-input : {T : Type 0} (r : Result T ShellFault) (P : Type 0) → IfErr r (λ why. why ≡ fault.Memory) → IfErr r (λ why. IfInput why P)
no-input (Ok x) P is = tt
no-input (Err why) P is = rw is tt

-- running out of memory is not a fault of the output
pub no-output : {T : Type 0} (r : Result T ShellFault) (P : Type 0) → IfErr r (λ why. why ≡ fault.Memory) → IfErr r (λ why. why ≡ fault.Output → P)
no-output (Ok x) P is = tt
no-output (Err why) P is = rw is (λ e. absurd (cc e))

take-all : (xs ys : List ℕ) → take (length xs) (xs ++ ys) ≡ xs
take-all [] [] = refl
take-all [] (y ∷ ys) = refl
take-all (x ∷ xs) ys = ap (λ (t : List ℕ). x ∷ t) (take-all xs ys)

-- the first n bytes of two lists are the first list, if it has n bytes
pub take-front : (xs ys : List ℕ) (n : ℕ) → length xs ≡ n → take n (xs ++ ys) ≡ xs
take-front xs ys n e = subst (λ (k : ℕ). take k (xs ++ ys) ≡ xs) e (take-all xs ys)

pub front-came : (xs ys : List ℕ) (n : ℕ) → length xs ≡ n → n ≤ length (xs ++ ys)
front-came xs ys n e = omega (arith, e, length-append xs ys)
