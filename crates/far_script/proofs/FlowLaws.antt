-- What is read and printed, one part after another.
use Rattle.std.proofs.Common.{◌≡◌, ◌+◌, ◌-◌, ◌≤◌, ◌<◌, ℕ, zero, suc, ◌⊎◌, inl, inr, Bool, true, false, List, [], ◌∷◌, ◌++◌, length, take, drop, slice_index, slice_range, Option, append_assoc, append-nil, length-append, take-append-drop, ◌∙◌, refl, sym, ap, subst, arith}
use Rattle.std.proofs.Math.Seq.{take-add, drop-cons}
use Rattle.std.proofs.lemmas.List.{take_rest, length-take, length-take-le, take-take}
use Rattle.std.proofs.lemmas.List.Folds.{drop_split}
use Rattle.std.specs.Io.KnownBytes.{Appends, Consumes, Keeps}
use Rattle.std.proofs.KnownBytes.{Appends-nil, Appends-trans, Appends-kept, Consumes-nil, Consumes-trans}
use Rattle.std.specs.declared.io.traits.Read.{Ghosts}
use Rattle.far_script.specs.declared.input.Input.{Input}
use Rattle.far_script.specs.Flow.{Prints, Reads, unread, IsAtEnd}

-- what a writer took in parts
pub written-on : (u v w : Option (List ℕ)) (bytes : List ℕ) (n m : ℕ) → Appends u v (take n bytes) → Appends v w (take m (drop n bytes)) → Appends u w (take (n + m) bytes)
written-on u v w bytes n m p q = subst (Appends u w) (sym (take-add n m bytes)) (Appends-trans u v w (take n bytes) (take m (drop n bytes)) p q)

pub written-rest : (u v w : Option (List ℕ)) (bytes : List ℕ) (n m : ℕ) → Appends u v (take n bytes) → Appends v w (take m (take (length bytes - n) (drop n bytes))) → Appends u w (take (n + m) bytes)
written-rest u v w bytes n m p q = written-on u v w bytes n m p (subst (λ (t : List ℕ). Appends v w (take m t)) (take_rest bytes n) q)

pub dropped : (bytes : List ℕ) (n : ℕ) → n ≤ length bytes → n + length (drop n bytes) ≡ length bytes
dropped bytes n low = omega (arith, ap (λ (t : List ℕ). length t) (take-append-drop n bytes), length-append (take n bytes) (drop n bytes), length-take-le n bytes low)

pub within-rest : (bytes : List ℕ) (n m : ℕ) → n ≤ length bytes → m ≤ length (take (length bytes - n) (drop n bytes)) → n + m ≤ length bytes
within-rest bytes n m low h =
    let rest : m ≤ length (drop n bytes) = subst (λ (t : List ℕ). m ≤ length t) (take_rest bytes n) h in
    omega (arith, rest, dropped bytes n low)

-- each turn took a byte so far, or writers may fail
pub took-more : (may_fail : Type 0) (turn taken count : ℕ) → (count ≡ 0 → ⊥) → may_fail ⊎ (turn ≤ taken) → may_fail ⊎ (turn + 1 ≤ taken + count)
took-more may_fail turn taken count some (inl h) = inl h
took-more may_fail turn taken zero some (inr low) = absurd (some refl)
took-more may_fail turn taken (suc n) some (inr low) = inr (omega (arith, low))

pub prints-none : (u : Option (List ℕ)) (held : List ℕ) → Prints u held [] u held
prints-none u held = ([], Appends-nil u, append-nil held)

-- a text that is only held
pub prints : (u : Option (List ℕ)) (held text left : List ℕ) → left ≡ held ++ text → Prints u held text u left
prints u held text left e = ([], Appends-nil u, sym e)

pub prints-then : (u v w : Option (List ℕ)) (held text mid more left : List ℕ) → Prints u held text v mid → Prints v mid more w left → Prints u held (text ++ more) w left
prints-then u v w held text mid more left p q = (
  p.0 ++ q.0,
  Appends-trans u v w p.0 q.0 p.1 q.1,
  sym (append_assoc held text more) ∙ ap (λ (t : List ℕ). t ++ more) p.2 ∙ append_assoc p.0 mid more ∙ ap (λ (t : List ℕ). p.0 ++ t) q.2 ∙ sym (append_assoc p.0 q.0 left),
)

-- a text printed after an empty one
pub prints-nothing-then : (u v w : Option (List ℕ)) (held mid more left : List ℕ) → Prints u held [] v mid → Prints v mid more w left → Prints u held more w left
prints-nothing-then u v w held mid more left p q = prints-then u v w held [] mid more left p q

pub prints-then-nothing : (u v w : Option (List ℕ)) (held text mid left : List ℕ) → Prints u held text v mid → Prints v mid [] w left → Prints u held text w left
prints-then-nothing u v w held text mid left p q = subst (λ (t : List ℕ). Prints u held t w left) (append-nil text) (prints-then u v w held text mid [] left p q)

-- a writer took a prefix of the bytes that were held
pub prints-front : (u v w : Option (List ℕ)) (held left : List ℕ) (n : ℕ) → Appends u v (take n held) → Keeps v w → left ≡ drop n held → Prints u held [] w left
prints-front u v w held left n p q e = (
  take n held,
  Appends-kept u v w (take n held) p q,
  append-nil held ∙ sym (take-append-drop n held) ∙ ap (λ (t : List ℕ). take n held ++ t) (sym e),
)

pub one-on : (n : ℕ) → suc n ≡ n + 1
one-on n = omega arith

-- a prefix of a range
pub range-front : (xs : List ℕ) (from to n : ℕ) → n ≤ to - from → slice_range xs from (from + n) ≡ take n (slice_range xs from to)
range-front xs from to n low =
    let k : from + n - from ≡ n = omega arith in
    rw k (sym (take-take n (to - from) (drop from xs) low))

pub range-within : (xs : List ℕ) (from to n : ℕ) → n ≤ length (slice_range xs from to) → n ≤ to - from
range-within xs from to n h = let l = length-take (to - from) (drop from xs) in grind (arith, l, h)

-- no more reads are left than there were
pub fewer : (left made all : ℕ) → left + made ≤ all → left ≤ all
fewer left made all h = omega (arith, h)

-- a script has no more turns than that
pub turns-past : (left made all : ℕ) → left + made ≤ all → all ≤ 1048576 → 1048577 ≤ made → ⊥
turns-past left made all h few past = omega (arith, h, few, past)

-- each read of two parts brought a byte or more
pub made-then : (n a b c x y : ℕ) → a ≤ b + x → b ≤ c + y → n ≡ x + y → a ≤ c + n
made-then n a b c x y p q r = omega (arith, p, q, r)

-- the end that is not found now was not found before
pub not-before : (a b : Bool) → (a ≡ true → b ≡ true) → b ≡ false → a ≡ false
not-before true b f e = sym (f refl) ∙ e
not-before false b f e = refl

pub added : (n a b c x y : ℕ) → b + x ≡ a → c + y ≡ b → n ≡ x + y → c + n ≡ a
added n a b c x y p q r = omega (arith, p, q, r)

module _ {R : Type 0} (read : Ghosts R) where
  pub reads-none : (old new : Input R read) → new ≡ old → Reads read old [] new
  reads-none old new same = subst (λ (i : Input R read). Reads read old [] i) (sym same) record {
    came = [];
    consumed = Consumes-nil (read.remaining old.source.reader);
    taken = append-nil (unread read old);
    counted = omega arith;
    made = λ e. omega arith;
    none = λ e. refl;
    ended = λ e. e;
  }

  -- bytes that were held
  pub reads : (old new : Input R read) (bytes : List ℕ) → new.source ≡ old.source → unread read old ≡ bytes ++ unread read new → Reads read old bytes new
  reads old new bytes same split = record {
    came = [];
    consumed = subst (λ s. Consumes (read.remaining old.source.reader) (read.remaining s.reader) []) (sym same) (Consumes-nil (read.remaining old.source.reader));
    taken = append-nil (unread read old) ∙ split;
    counted = subst (λ s. s.bytes + 0 ≡ old.source.bytes) (sym same) (omega arith);
    made = λ e. subst (λ s. old.source.reads ≤ s.reads + 0) (sym same) (omega arith);
    none = λ e. refl;
    ended = λ e. ap (λ s. s.ended) same ∙ e;
  }

  pub reads-then : (old mid new : Input R read) (bytes more : List ℕ) → Reads read old bytes mid → Reads read mid more new → Reads read old (bytes ++ more) new
  reads-then old mid new bytes more p q = record {
    came = p.came ++ q.came;
    consumed = Consumes-trans (read.remaining old.source.reader) (read.remaining mid.source.reader) (read.remaining new.source.reader) p.came q.came p.consumed q.consumed;
    taken = sym (append_assoc (unread read old) p.came q.came) ∙ ap (λ (t : List ℕ). t ++ q.came) p.taken
        ∙ append_assoc bytes (unread read mid) q.came ∙ ap (λ (t : List ℕ). bytes ++ t) q.taken ∙ sym (append_assoc bytes more (unread read new));
    counted = added (length (p.came ++ q.came)) old.source.bytes mid.source.bytes new.source.bytes (length p.came) (length q.came) p.counted q.counted (length-append p.came q.came);
    made = λ e. made-then (length (p.came ++ q.came)) old.source.reads mid.source.reads new.source.reads (length p.came) (length q.came) (p.made (not-before mid.source.ended new.source.ended q.ended e)) (q.made e) (length-append p.came q.came);
    none = λ e. ap (λ (t : List ℕ). t ++ q.came) (p.none e) ∙ q.none (p.ended e);
    ended = λ e. q.ended (p.ended e);
  }

-- the bytes between two places
pub range-length : (xs : List ℕ) (from n : ℕ) → from ≤ length xs → n ≤ length xs - from → length (slice_range xs from (from + n)) ≡ n
range-length xs from n low h =
    let k : from + n - from ≡ n = omega arith in
    rw k (length-take-le n (drop from xs) (omega (arith, h, dropped xs from low)))

module _ {R : Type 0} (read : Ghosts R) where
  -- nothing was taken, and memory was given back
  pub reads-kept : (old new : Input R read) → new.source ≡ old.source → unread read new ≡ unread read old → Reads read old [] new
  reads-kept old new source same = reads read old new [] source (sym same)

  -- nothing was taken, and the end of a line was looked for
  pub reads-looked : (old mid new : Input R read) → Reads read old [] mid → new.source ≡ mid.source → new.held ≡ mid.held → new.start ≡ mid.start → Reads read old [] new
  reads-looked old mid new p source held start = reads-then read old mid new [] [] p (reads read mid new [] source (rw (held, start) refl))

  -- the bytes up to a place are taken
  pub reads-range : (old mid new : Input R read) (from to : ℕ) → Reads read old [] mid → new.source ≡ mid.source → new.held ≡ mid.held → new.start ≡ to → from ≡ mid.start → from ≤ to
      → Reads read old (slice_range new.held from to) new
  reads-range old mid new from to p source held start first low =
      let low2 : mid.start ≤ to = subst (λ (n : ℕ). n ≤ to) first low in
      reads-then read old mid new [] (slice_range new.held from to) p (reads read mid new (slice_range new.held from to) source
      (rw (held, start, first) (drop_split mid.held mid.start to low2)))

  -- the same with the line feed after them
  pub reads-line : (old mid new : Input R read) (from to : ℕ) → Reads read old [] mid → new.source ≡ mid.source → new.held ≡ mid.held → new.start ≡ to + 1 → from ≡ mid.start → from ≤ to
      → to < length mid.held → slice_index mid.held to ≡ 10
      → Reads read old (slice_range new.held from to ++ 10 ∷ []) new
  reads-line old mid new from to p source held start first low within feed =
      let low2 : mid.start ≤ to = subst (λ (n : ℕ). n ≤ to) first low in
      let next : drop to mid.held ≡ 10 ∷ drop (to + 1) mid.held =
      drop-cons mid.held to 0 within ∙ ap (λ (c : ℕ). c ∷ drop (suc to) mid.held) feed ∙ ap (λ (n : ℕ). 10 ∷ drop n mid.held) (one-on to) in
      reads-then read old mid new [] (slice_range new.held from to ++ 10 ∷ []) p (reads read mid new (slice_range new.held from to ++ 10 ∷ []) source
      (rw (held, start, first) (drop_split mid.held mid.start to low2 ∙ ap (λ (t : List ℕ). slice_range mid.held mid.start to ++ t) next
      ∙ sym (append_assoc (slice_range mid.held mid.start to) (10 ∷ []) (drop (to + 1) mid.held)))))

pub no-first : (xs ys : List ℕ) → xs ++ ys ≡ [] → xs ≡ []
no-first [] ys h = refl
no-first (x ∷ xs) ys h = cc h

pub no-rest : (xs ys : List ℕ) → xs ++ ys ≡ [] → ys ≡ []
no-rest [] ys h = h
no-rest (x ∷ xs) ys h = cc h

pub range-empty : (xs : List ℕ) (from to : ℕ) → to ≤ from → slice_range xs from to ≡ []
range-empty xs from to low = let k : to - from ≡ 0 = omega (arith, low) in rw k refl

pub range-some : (xs : List ℕ) (from to : ℕ) → from < to → to ≤ length xs → length (slice_range xs from to) ≡ 0 → ⊥
range-some xs from to low within none =
    let l = length-take-le (to - from) (drop from xs) (omega (arith, low, within, dropped xs from (omega (arith, low, within)))) in
    omega (arith, l, none, low)

few : (n left held came before after start all : ℕ) → held + came ≡ n + left → after + came ≡ before → start + held ≡ all → all + before ≤ 16777216 + start → n ≤ 16777216
few n left held came before after start all p q r s = omega (arith, p, q, r, s)

pub front-within : (start plain all : ℕ) → start + plain ≤ all → start ≤ all
front-within start plain all h = omega (arith, h)

module _ {R : Type 0} (read : Ghosts R) where
  -- nothing is read if nothing comes any more
  pub spent-nothing : (old new : Input R read) (bytes : List ℕ) → IsAtEnd read old → Reads read old bytes new → bytes ≡ []
  spent-nothing old new bytes spent p =
      no-first bytes (unread read new) (sym p.taken ∙ ap (λ (t : List ℕ). unread read old ++ t) (p.none spent.1) ∙ append-nil (unread read old) ∙ spent.0)

  -- and nothing comes then
  pub spent-stays : (old new : Input R read) (bytes : List ℕ) → IsAtEnd read old → Reads read old bytes new → IsAtEnd read new
  spent-stays old new bytes spent p =
      (no-rest bytes (unread read new) (sym p.taken ∙ ap (λ (t : List ℕ). unread read old ++ t) (p.none spent.1) ∙ append-nil (unread read old) ∙ spent.0), p.ended spent.1)

  -- no more bytes are taken than a script may have
  pub few-bytes : (old new : Input R read) (bytes : List ℕ) → Reads read old bytes new → length bytes ≤ 16777216
  few-bytes old new bytes p =
      few (length bytes) (length (unread read new)) (length (unread read old)) (length p.came) old.source.bytes new.source.bytes old.start (length old.held)
      (sym (length-append (unread read old) p.came) ∙ ap (λ (t : List ℕ). length t) p.taken ∙ length-append bytes (unread read new)) p.counted (dropped old.held old.start (front-within old.start old.plain (length old.held) old.known)) old.most

-- all was written
pub all-written : (u v w : Option (List ℕ)) (text left : List ℕ) → Prints u [] text v left → (p : Prints v left [] w []) → Appends u w text
all-written u v w text left p q =
    let all = prints-then-nothing u v w [] text left [] p q in
    subst (λ (t : List ℕ). Appends u w t) (sym (append-nil all.0) ∙ sym all.2) all.1
