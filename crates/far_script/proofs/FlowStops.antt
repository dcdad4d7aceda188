-- The bytes of a script that came before a fault.
use Rattle.std.proofs.Common.{◌≡◌, ◌+◌, ◌≤◌, ◌<◌, ℕ, Bool, true, false, inl, inr, List, [], ◌++◌, length, Option, Some, None, Result, Ok, Err, IfErr, IsErrAnd, IsOk, OnOk, append_assoc, append-nil, length-append, ◌∙◌, refl, sym, ap, subst, arith}
use Rattle.std.specs.Prelude.{IfNone, IfSome, unwrap_or}
use Rattle.std.specs.Io.KnownBytes.{Consumes, Keeps}
use Rattle.std.proofs.KnownBytes.{Consumes-nil, Consumes-trans}
use Rattle.std.specs.declared.io.traits.Read.{Ghosts}
use Rattle.far_script.specs.declared.fault.ShellFault.{ShellFault}
use Rattle.far_script.specs.declared.fault.ShellFault.TheVariants as fault
use Rattle.far_script.specs.declared.input.Input.{Input}
use Rattle.far_script.specs.Faults.{IfInput, IfHalted, IsCut}
use Rattle.far_script.specs.Flow.{Counts, Gives, IsFrontOf, IsShort, IsAtEnd, IsUnseen, Leaves, Reads, StartsWith, Stops, TakesNoLine, unread}
use Rattle.far_script.specs.Lines.{IsOneLine}
use Rattle.far_script.specs.Reading.{IsCutOff}
use Rattle.far_script.proofs.FlowLaws.{few-bytes, not-before, reads-then, spent-nothing, spent-stays}

-- a fault is passed on
pub handed-on : {T : Type 0} (r : Result T ShellFault) (why : ShellFault) (Q : ShellFault → Type 0) → IsErrAnd r (λ given. given ≡ why) → Q why → IfErr r Q
handed-on (Ok x) why Q h q = tt
handed-on (Err given) why Q h q = subst Q (sym h) q

-- a clause for `Ok` holds of a call that returned `Ok`
pub on-printed : {T E : Type 0} (r : Result T E) (P : Type 0) → IsOk r → OnOk r P → P
on-printed (Ok x) P is h = h
on-printed (Err e) P is h = cc is

pub each-fault : {T : Type 0} (r : Result T ShellFault) (P Q : ShellFault → Type 0) → ((why : ShellFault) → P why → Q why) → IfErr r P → IfErr r Q
each-fault (Ok x) P Q f h = tt
each-fault (Err why) P Q f h = f why h

-- a clause for `None` holds if there is no number
pub none-of : (o : Option ℕ) (P : Type 0) → ((x : ℕ) → o ≡ Some x → ⊥) → IfNone o P → P
none-of None P not h = h
none-of (Some x) P not h = absurd (not x refl)

-- a condition for the fault `Input` may be weakened
pub if-input : (why : ShellFault) (P Q : Type 0) → (P → Q) → IfInput why P → IfInput why Q
if-input fault.BadStart P Q f h = tt
if-input fault.Input P Q f h = f h
if-input fault.Output P Q f h = tt
if-input fault.Memory P Q f h = tt
if-input fault.Turns P Q f h = tt

pub not-input : (why : ShellFault) (P : Type 0) → (why ≡ fault.Input → ⊥) → IfInput why P
not-input fault.BadStart P other = tt
not-input fault.Input P other = absurd (other refl)
not-input fault.Output P other = tt
not-input fault.Memory P other = tt
not-input fault.Turns P other = tt

-- a condition for the faults `Memory` and `Output` may be weakened
pub if-halted : (why : ShellFault) (P Q : Type 0) → (P → Q) → IfHalted why P → IfHalted why Q
if-halted fault.BadStart P Q f h = tt
if-halted fault.Input P Q f h = tt
if-halted fault.Output P Q f h = f h
if-halted fault.Memory P Q f h = f h
if-halted fault.Turns P Q f h = tt

-- a fact holds under any fault
pub in-halted : (why : ShellFault) (P : Type 0) → P → IfHalted why P
in-halted fault.BadStart P h = tt
in-halted fault.Input P h = tt
in-halted fault.Output P h = h
in-halted fault.Memory P h = h
in-halted fault.Turns P h = tt

pub at-halted : {T : Type 0} (r : Result T ShellFault) (P : Type 0) → P → IfErr r (λ why. IfHalted why P)
at-halted (Ok x) P h = tt
at-halted (Err why) P h = in-halted why P h

-- nothing came
pub leaves-same : (known : Option (List ℕ)) (bytes_left : ℕ) → Leaves known known [] bytes_left
leaves-same known bytes_left = ([], Consumes-nil known, λ some. refl, omega arith)

keeps-consumes : (known left : Option (List ℕ)) → Keeps known left → Consumes known left []
keeps-consumes None left h = tt
keeps-consumes (Some xs) None h = absurd h
keeps-consumes (Some xs) (Some ys) h = sym h

pub leaves-unchanged : (known left : Option (List ℕ)) (bytes_left : ℕ) → Keeps known left → Leaves known left [] bytes_left
leaves-unchanged known left bytes_left h = ([], keeps-consumes known left h, λ some. refl, omega arith)

-- a byte more came than may be taken
pub leaves-lost : (known left : Option (List ℕ)) (lost : List ℕ) (bytes_left : ℕ) → bytes_left ≡ 0 → length lost ≤ 1 → Consumes known left lost → Leaves known left [] bytes_left
leaves-lost known left lost bytes_left none one h = (lost, h, (λ some. absurd (omega (arith, none, some))), one)

-- some bytes came first
leaves-then : (known mid left : Option (List ℕ)) (came more : List ℕ) (bytes_left : ℕ) → Consumes known mid came → Leaves mid left more bytes_left → Leaves known left (came ++ more) bytes_left
leaves-then known mid left came more bytes_left p l =
    (l.0, subst (λ (t : List ℕ). Consumes known left t) (sym (append_assoc came more l.0)) (Consumes-trans known mid left came (more ++ l.0) p l.1), l.2, l.3)

-- the end was not found, so there is nothing to show if it was
pub not-found : (a b : Bool) → a ≡ false → a ≡ true → b ≡ true
not-found a b none some = absurd (cc (none, some))

starts-known : (known left : Option (List ℕ)) (came a bytes b : List ℕ) → Consumes known left came → a ++ came ≡ bytes ++ b → IfSome known (λ coming. a ++ coming ≡ bytes ++ (b ++ unwrap_or left []))
starts-known None left came a bytes b p e = tt
starts-known (Some xs) None came a bytes b p e = absurd p
starts-known (Some xs) (Some ys) came a bytes b p e =
    ap (λ (t : List ℕ). a ++ t) p ∙ sym (append_assoc a came ys) ∙ ap (λ (t : List ℕ). t ++ ys) e ∙ append_assoc bytes b ys

starts-later : (known left : Option (List ℕ)) (came a first b bytes rest : List ℕ) → Consumes known left came → a ++ came ≡ first ++ b → IfSome left (λ coming. b ++ coming ≡ bytes ++ rest)
    → IfSome known (λ coming. a ++ coming ≡ (first ++ bytes) ++ rest)
starts-later None left came a first b bytes rest p e h = tt
starts-later (Some xs) None came a first b bytes rest p e h = absurd p
starts-later (Some xs) (Some ys) came a first b bytes rest p e h =
    ap (λ (t : List ℕ). a ++ t) p ∙ sym (append_assoc a came ys) ∙ ap (λ (t : List ℕ). t ++ ys) e ∙ append_assoc first b ys ∙ ap (λ (t : List ℕ). first ++ t) h ∙ sym (append_assoc first bytes rest)

starts-here : (known : Option (List ℕ)) (a : List ℕ) → IfSome known (λ coming. a ++ coming ≡ a ++ unwrap_or known [])
starts-here None a = tt
starts-here (Some xs) a = refl

longer : (n came left a b : ℕ) → n ≡ came + left → b + came ≡ a → b < left → a < n
longer n came left a b e p q = omega (arith, e, p, q)

-- some bytes came before the reader went past its bound
past-then : (known left : Option (List ℕ)) (came : List ℕ) (bytes b : ℕ) → Consumes known left came → b + length came ≡ bytes → IfSome left (λ coming. b < length coming) → IfSome known (λ coming. bytes < length coming)
past-then None left came bytes b p k h = tt
past-then (Some xs) None came bytes b p k h = absurd p
past-then (Some xs) (Some ys) came bytes b p k h = longer (length xs) (length came) (length ys) bytes b (ap (λ (t : List ℕ). length t) p ∙ length-append came ys) k h

reads-past : (n reads r bytes b last : ℕ) → reads ≤ r + n → b + n ≡ bytes → r + last ≤ b → reads + last ≤ bytes
reads-past n reads r bytes b last m k h = omega (arith, m, k, h)

cut-then : (may_fail : Type 0) (known left : Option (List ℕ)) (came : List ℕ) (reads r bytes b reads_left bytes_left : ℕ) → Consumes known left came → reads ≤ r + length came → b + length came ≡ bytes
    → IsCut may_fail r b reads_left bytes_left left → IsCut may_fail reads bytes reads_left bytes_left known
cut-then may_fail known left came reads r bytes b reads_left bytes_left p m k (inl h) = inl h
cut-then may_fail known left came reads r bytes b reads_left bytes_left p m k (inr (inl h)) = inr (inl (h.0, reads-past (length came) reads r bytes b bytes_left m k h.1))
cut-then may_fail known left came reads r bytes b reads_left bytes_left p m k (inr (inr h)) = inr (inr (h.0, past-then known left came bytes b p k h.1))

-- no reads are left
pub past-reads : (may_fail : Type 0) (known : Option (List ℕ)) (reads bytes reads_left bytes_left : ℕ) → reads ≡ 0 → reads_left ≡ reads → bytes_left ≡ bytes → IsCut may_fail reads bytes reads_left bytes_left known
past-reads may_fail known reads bytes reads_left bytes_left none same still = inr (inl (same ∙ none, omega (arith, none, still)))

-- a byte more comes than may be taken
pub past-bytes : (may_fail : Type 0) (known left : Option (List ℕ)) (came : List ℕ) (reads bytes reads_left bytes_left : ℕ) → bytes ≡ 0 → bytes_left ≡ bytes → Consumes known left came → 0 < length came → IsCut may_fail reads bytes reads_left bytes_left known
past-bytes may_fail None left came reads bytes reads_left bytes_left none same p some = inr (inr (same ∙ none, tt))
past-bytes may_fail (Some xs) None came reads bytes reads_left bytes_left none same p some = absurd p
past-bytes may_fail (Some xs) (Some ys) came reads bytes reads_left bytes_left none same p some = inr (inr (same ∙ none, omega (arith, none, some, ap (λ (t : List ℕ). length t) p, length-append came ys)))

counted-then : (x m o came u um f a fa : ℕ) → x + a ≡ m + um → m + came ≡ o → u + came ≡ f + um → fa ≡ f + a → x + fa ≡ o + u
counted-then x m o came u um f a fa p q r s = omega (arith, p, q, r, s)

both-lengths : (xs ys zs ws : List ℕ) → xs ++ ys ≡ zs ++ ws → length xs + length ys ≡ length zs + length ws
both-lengths xs ys zs ws e = sym (length-append xs ys) ∙ ap (λ (t : List ℕ). length t) e ∙ length-append zs ws

module _ {R : Type 0} (read : Ghosts R) where
  -- the bytes of a script that still come
  abbrev pub coming : Input R read → List ℕ
  coming input = unread read input ++ unwrap_or (read.remaining input.source.reader) []

  -- at the end of a script, none
  pub spent-rest : (input : Input R read) → IsAtEnd read input → coming input ≡ []
  spent-rest input spent = ap (λ (t : List ℕ). t ++ unwrap_or (read.remaining input.source.reader) []) spent.0 ∙ input.source.end spent.1

  pub starts : (old new : Input R read) (bytes : List ℕ) → Reads read old bytes new → StartsWith read old bytes (coming new)
  starts old new bytes p = (
    starts-known (read.remaining old.source.reader) (read.remaining new.source.reader) p.came (unread read old) bytes (unread read new) p.consumed p.taken,
    λ spent. ap (λ (t : List ℕ). t ++ coming new) (spent-nothing read old new bytes spent p) ∙ spent-rest new (spent-stays read old new bytes spent p),
  )

  pub starts-then : (old mid : Input R read) (first bytes rest : List ℕ) → Reads read old first mid → StartsWith read mid bytes rest → StartsWith read old (first ++ bytes) rest
  starts-then old mid first bytes rest p h = (
    starts-later (read.remaining old.source.reader) (read.remaining mid.source.reader) p.came (unread read old) first (unread read mid) bytes rest p.consumed p.taken h.0,
    λ spent. ap (λ (t : List ℕ). (t ++ bytes) ++ rest) (spent-nothing read old mid first spent p) ∙ h.1 (spent-stays read old mid first spent p),
  )

  -- all that is held came, and nothing more
  pub stops-here : (old new : Input R read) (P : List ℕ → List ℕ → Type 0) → new.source.bytes ≡ old.source.bytes → (old.source.ended ≡ true → new.source.ended ≡ true) → Leaves (read.remaining old.source.reader) (read.remaining new.source.reader) [] new.source.bytes → P (unread read old) (unwrap_or (read.remaining old.source.reader) []) → Stops read P old new
  stops-here old new P same stays left h = (
    unread read old,
    unwrap_or (read.remaining old.source.reader) [],
    (starts-here (read.remaining old.source.reader) (unread read old), λ spent. spent-rest old spent),
    (ap (λ (n : ℕ). n + length (unread read old)) same, stays, ([], append-nil (unread read old), left)),
    h,
  )

  pub counts-then : (old mid new : Input R read) (first bytes : List ℕ) → Reads read old first mid → Counts read mid bytes new → Counts read old (first ++ bytes) new
  counts-then old mid new first bytes p q = (
    counted-then new.source.bytes mid.source.bytes old.source.bytes (length p.came) (length (unread read old)) (length (unread read mid)) (length first) (length bytes) (length (first ++ bytes)) q.0 p.counted
        (both-lengths (unread read old) p.came first (unread read mid) p.taken) (length-append first bytes),
    λ e. q.1 (p.ended e),
    (
      p.came ++ q.2.0,
      sym (append_assoc (unread read old) p.came q.2.0) ∙ ap (λ (t : List ℕ). t ++ q.2.0) p.taken ∙ append_assoc first (unread read mid) q.2.0 ∙ ap (λ (t : List ℕ). first ++ t) q.2.1,
      leaves-then (read.remaining old.source.reader) (read.remaining mid.source.reader) (read.remaining new.source.reader) p.came q.2.0 new.source.bytes p.consumed q.2.2,
    ),
  )

  pub gives-then : (old mid new : Input R read) (first bytes rest : List ℕ) (why : ShellFault) → Reads read old first mid → Gives read why mid new bytes rest → Gives read why old new (first ++ bytes) rest
  gives-then old mid new first bytes rest why p g = (
    starts-then old mid first bytes rest p g.0,
    if-input why (Counts read mid bytes new) (Counts read old (first ++ bytes) new) (λ c. counts-then old mid new first bytes p c) g.1,
    if-halted why (Reads read mid bytes new) (Reads read old (first ++ bytes) new) (λ r. reads-then read old mid new first bytes p r) g.2,
  )

  -- the same of the input before it read some bytes, which come first then
  pub stops-then : (old mid new : Input R read) (first : List ℕ) (P Q : List ℕ → List ℕ → Type 0) → Reads read old first mid → ((bytes rest : List ℕ) → P bytes rest → Q (first ++ bytes) rest) → Stops read P mid new
      → Stops read Q old new
  stops-then old mid new first P Q p f s = (first ++ s.0, s.1, starts-then old mid first s.0 s.1 p s.2, counts-then old mid new first s.0 p s.3, f s.0 s.1 s.4)

  pub stops-more : (old new : Input R read) (P Q : List ℕ → List ℕ → Type 0) → ((bytes rest : List ℕ) → P bytes rest → Q bytes rest) → Stops read P old new → Stops read Q old new
  stops-more old new P Q f s = (s.0, s.1, s.2, s.3, f s.0 s.1 s.4)

  -- nothing was taken
  pub stops-still : (old mid new : Input R read) (P : List ℕ → List ℕ → Type 0) → Reads read old [] mid → new.source.bytes ≡ mid.source.bytes → (mid.source.ended ≡ true → new.source.ended ≡ true) → Leaves (read.remaining mid.source.reader) (read.remaining new.source.reader) [] new.source.bytes → P (unread read mid) (unwrap_or (read.remaining mid.source.reader) [])
      → Stops read P old new
  stops-still old mid new P p same stays left h = stops-then old mid new [] P P p (λ bytes rest q. q) (stops-here mid new P same stays left h)

module _ {R : Type 0} (read : Ghosts R) (may_fail : Type 0) where
  -- a read was cut off
  pub unseen : (old new : Input R read) → IsCutOff read may_fail old.source new.source → IsUnseen read may_fail old new
  unseen old new c = (c.before, c.going, (λ left. omega (arith, left, c.reads)), c.cause)

  -- the end was not seen, also counted from an earlier read
  pub unseen-later : (old mid new : Input R read) (bytes : List ℕ) → Reads read old bytes mid → mid.source.reads ≤ old.source.reads → IsUnseen read may_fail mid new → IsUnseen read may_fail old new
  unseen-later old mid new bytes p low u = (
    not-before old.source.ended mid.source.ended p.ended u.0,
    u.1,
    λ left. let fell = u.2 left in omega (arith, low, fell),
    cut-then may_fail (read.remaining old.source.reader) (read.remaining mid.source.reader) p.came old.source.reads mid.source.reads old.source.bytes mid.source.bytes new.source.reads new.source.bytes p.consumed (p.made u.0) p.counted u.3,
  )

  pub if-unseen : (why : ShellFault) (old mid new : Input R read) (bytes : List ℕ) → Reads read old bytes mid → mid.source.reads ≤ old.source.reads → IfInput why (IsUnseen read may_fail mid new)
      → IfInput why (IsUnseen read may_fail old new)
  if-unseen why old mid new bytes p low u = if-input why (IsUnseen read may_fail mid new) (IsUnseen read may_fail old new) (λ x. unseen-later old mid new bytes p low x) u

  pub no-line-later : (why : ShellFault) (old mid new : Input R read) → Reads read old [] mid → mid.source.reads ≤ old.source.reads → TakesNoLine read may_fail why mid new
      → TakesNoLine read may_fail why old new
  no-line-later why old mid new p low h = record {
    stopped = if-input why _ _ (λ s. stops-then read old mid new [] (λ bytes rest. IsOneLine bytes) (λ bytes rest. IsOneLine bytes) p (λ bytes rest one. one) s) h.stopped;
    unseen = if-unseen why old mid new [] p low h.unseen;
    kept = if-halted why _ _ (λ t. reads-then read old mid new [] [] p t) h.kept;
  }

  pub short-later : (old mid new : Input R read) (bytes rest : List ℕ) → Reads read old bytes mid → mid.source.reads ≤ old.source.reads → IsShort read may_fail mid new rest → IsShort read may_fail old new rest
  short-later old mid new bytes rest p low (inl ended) = inl ended
  short-later old mid new bytes rest p low (inr u) = inr (unseen-later old mid new bytes p low u)

module _ {R : Type 0} (read : Ghosts R) where
  -- a split of a script of which nothing was read
  pub gives-known : (input new : Input R read) (reader : R) (why : ShellFault) (bytes rest : List ℕ) → input.source.reader ≡ reader → unread read input ≡ [] → Gives read why input new bytes rest
      → IfSome (read.remaining reader) (λ script. script ≡ bytes ++ rest)
  gives-known input new reader why bytes rest is none g =
      subst (λ (r : R). IfSome (read.remaining r) (λ script. script ≡ bytes ++ rest)) is
      (subst (λ (z : List ℕ). IfSome (read.remaining input.source.reader) (λ script. z ++ script ≡ bytes ++ rest)) none g.0.0)

  -- what was taken of a script of which nothing was read before
  pub front-read : (input new : Input R read) (reader : R) (bytes : List ℕ) → Reads read input bytes new → input.source.reader ≡ reader → unread read input ≡ [] → IsFrontOf (read.remaining reader) bytes (coming read new)
  front-read input new reader bytes p is none =
      (gives-known input new reader fault.Memory bytes (coming read new) is none (starts read input new bytes p, tt, p), few-bytes read input new bytes p)
