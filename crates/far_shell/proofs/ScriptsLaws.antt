-- The replies to turns, one after another.
use Rattle.std.proofs.Common.{◌≡◌, ◌==◌, ◌+◌, ◌≤◌, ℕ, true, false, ◌⊎◌, inl, inr, List, [], ◌∷◌, ◌++◌, length, Option, append_assoc, append-nil, length-append, ◌∙◌, refl, sym, ap, subst, arith}
use Rattle.std.specs.List.{list_any, flat_map}
use Rattle.std.proofs.lemmas.Grind.{flat_map-append}
use Rattle.std.specs.declared.io.traits.Read.{Ghosts}
use Rattle.far_script.specs.declared.input.Input.{Input}
use Rattle.far_script.specs.Flow.{Prints, Reads, unread, IsAtEnd}
use Rattle.far_commands.specs.Progress.{At}
use Rattle.std.specs.Prelude.{IsUtf8, codes}
use Rattle.std.specs.Io.BufRead.{strip_last}
use Rattle.far_commands.specs.Replies.{AnswersLine}
use Rattle.far_commands.specs.Rules.{Rules}
use Rattle.far_script.specs.Lines.{Blank, without_return}
use Rattle.far_script.specs.Openings.{Opened}
use Rattle.far_shell.specs.Scripts.{Turn, bytes_of, text_of, IsTurn, AreTurns, AnswersLines, Begins, Ends, IsNew, IsServed}
use Rattle.far_script.proofs.FlowLaws.{no-first, no-rest, prints, prints-nothing-then, prints-then, prints-then-nothing, reads-then}

all-more : (f : Turn → List ℕ) (turns : List Turn) (turn : Turn) (whole : List ℕ) → whole ≡ flat_map f turns → whole ++ f turn ≡ flat_map f (turns ++ turn ∷ [])
all-more f turns turn whole e = ap (λ (t : List ℕ). t ++ f turn) e ∙ ap (λ (t : List ℕ). flat_map f turns ++ t) (sym (append-nil (f turn))) ∙ sym (flat_map-append f turns (turn ∷ []))

module _ {W : Type 0} (rules : Rules W) where
  -- appending one more turn
  turns-more : (old mid new : At W) (turns : List Turn) (turn : Turn) → AreTurns rules old turns mid → IsTurn rules mid turn new → AreTurns rules old (turns ++ turn ∷ []) new
  turns-more old mid new [] turn h k = (new, subst (λ (at : At W). IsTurn rules at turn new) h k, refl)
  turns-more old mid new (first ∷ turns) turn h k = (h.0, h.1, turns-more h.0 mid new turns turn h.2 k)

  pub answers-none : (at : At W) → AnswersLines rules at [] [] at
  answers-none at = ([], refl, refl, refl)

  pub answers-more : (old mid new : At W) (bytes text : List ℕ) (turn : Turn) → AnswersLines rules old bytes text mid → IsTurn rules mid turn new → AnswersLines rules old (bytes ++ bytes_of turn) (text ++ text_of turn) new
  answers-more old mid new bytes text turn h k = (h.0 ++ turn ∷ [], all-more bytes_of h.0 turn bytes h.1, all-more text_of h.0 turn text h.2, turns-more old mid new h.0 turn h.3 k)

one-more : (rows : List ℕ) → length (10 ∷ rows) ≡ length rows + 1
one-more rows = omega arith

-- a turn consumes at least one byte
pub turn-more : (n : ℕ) (bytes line rows : List ℕ) → n ≤ length bytes → n + 1 ≤ length (bytes ++ (line ++ 10 ∷ rows))
turn-more n bytes line rows h = omega (arith, h, length-append bytes (line ++ 10 ∷ rows), length-append line (10 ∷ rows), one-more rows)

module _ {R : Type 0} (read : Ghosts R) {W : Type 0} (rules : Rules W) where
  -- a line, with the rows that follow it, is one more turn
  pub goes-on : (first before mid after : Input R read) (a b c d : Option (List ℕ)) (h k l m : List ℕ) (old at new : At W) (line raw rows more bytes text : List ℕ) (end : List ℕ) (e : Option (List ℕ))
      → Reads read first bytes before → Prints a h text b k → AnswersLines rules old bytes text at
      → list_any (λ x. x == 10) raw ≡ false → line ≡ strip_last 13 raw → Reads read before (raw ++ 10 ∷ []) mid → Prints b k [] c l
      → Reads read mid rows after → Prints c l more d m → AnswersLine rules at line rows more new → Prints d m [] e end
      → (all : List ℕ) × (said : List ℕ) × Reads read first all after × Prints a h said e end × AnswersLines rules old all said new × (length bytes + 1 ≤ length all)
  goes-on first before mid after a b c d h k l m old at new line raw rows more bytes text end e p q r one stripped s t u v w x =
      let turn : Turn = record { line = raw; rows = rows; text = more } in (
        bytes ++ bytes_of turn,
        text ++ more,
        subst (λ (z : List ℕ). Reads read first (bytes ++ z) after) (append_assoc raw (10 ∷ []) rows) (reads-then read first before after bytes ((raw ++ 10 ∷ []) ++ rows) p (reads-then read before mid after (raw ++ 10 ∷ []) rows s u)),
        prints-then-nothing a d e h (text ++ more) m end (prints-then a b d h text k more m q (prints-nothing-then b c d k l more m t v)) x,
        answers-more rules old at new bytes text turn r (one, subst (λ (z : List ℕ). AnswersLine rules at z rows more new) stripped w),
        turn-more (length bytes) bytes raw rows (omega arith),
      )

  -- the last line of the script
  pub comes-to-end : (first before mid after : Input R read) (a b c d : Option (List ℕ)) (h k l m : List ℕ) (old at new : At W) (line rows more bytes text : List ℕ)
      → Reads read first bytes before → Prints a h text b k → AnswersLines rules old bytes text at
      → list_any (λ x. x == 10) line ≡ false → Reads read before line mid → Prints b k [] c l → unread read mid ≡ [] → mid.source.ended ≡ true
      → Reads read mid rows after → Prints c l more d m → AnswersLine rules at line rows more new
      → (all : List ℕ) × (said : List ℕ) × Reads read first all after × Prints a h said d m × Ends rules old all said × IsAtEnd read after
  comes-to-end first before mid after a b c d h k l m old at new line rows more bytes text p q r one s t none ended u v w =
      let no-rows : rows ≡ [] = no-first rows (unread read after) (sym u.taken ∙ ap (λ (z : List ℕ). unread read mid ++ z) (u.none ended) ∙ append-nil (unread read mid) ∙ none) in (
        bytes ++ line,
        text ++ more,
        subst (λ (z : List ℕ). Reads read first (bytes ++ z) after) (ap (λ (z : List ℕ). line ++ z) no-rows ∙ append-nil line) (reads-then read first before after bytes (line ++ rows) p (reads-then read before mid after line rows s u)),
        prints-then a b d h text k more m q (prints-nothing-then b c d k l more m t v),
        record { bytes = bytes; printed = text; mid = at; answered = r; last = line; line = one; tail = more; new = new; answers = subst (λ (z : List ℕ). AnswersLine rules at line z more new) no-rows w; whole = refl; said = refl },
        (no-rest rows (unread read after) (sym u.taken ∙ ap (λ (z : List ℕ). unread read mid ++ z) (u.none ended) ∙ append-nil (unread read mid) ∙ none), u.ended ended),
      )

  -- a table is opened, and its lines get their replies
  pub serves-table : (old new : Input R read) (u w : Option (List ℕ)) (held k left bytes text : List ℕ) (opened : Opened) (at : At W)
      → k ≡ held ++ codes "ok\n" → IsNew rules opened at → Reads read old bytes new → Prints u k text w left → Ends rules at bytes text → IsAtEnd read new
      → (all : List ℕ) × (said : List ℕ) × Reads read old all new × Prints u held said w left × IsServed rules opened all said × IsAtEnd read new
  serves-table old new u w held k left bytes text opened at e fresh p q ends spent =
      (bytes, codes "ok\n" ++ text, p, prints-then u u w held (codes "ok\n") k text left (prints u held (codes "ok\n") k e) q, (at, text, fresh, ends, refl), spent)

pub blank-more : (bytes raw : List ℕ) (lines : List (List ℕ)) → Blank bytes lines → without_return raw ≡ [] → Blank (bytes ++ (raw ++ 10 ∷ [])) (lines ++ raw ∷ [])
blank-more bytes raw [] h e = ([], e, ap (λ (t : List ℕ). t ++ (raw ++ 10 ∷ [])) h, refl)
blank-more bytes raw (line ∷ lines) h e = (
  h.0 ++ (raw ++ 10 ∷ []),
  h.1,
  ap (λ (t : List ℕ). t ++ (raw ++ 10 ∷ [])) h.2 ∙ append_assoc line (10 ∷ h.0) (raw ++ 10 ∷ []),
  blank-more h.0 raw lines h.3 e,
)

pub either : {A B C D : Type 0} → (A → B) → (C → D) → A ⊎ C → B ⊎ D
either f g (inl x) = inl (f x)
either f g (inr y) = inr (g y)

pub begins-then : (bytes line : List ℕ) (P Q : Type 0) → (P → Q) → Begins bytes P line → Begins bytes Q line
begins-then bytes line P Q f b = record {
  blanks = b.blanks;
  blank = b.blank;
  empty = b.empty;
  raw = b.raw;
  one = b.one;
  some = b.some;
  text = b.text;
  is = either (λ x. x) (λ y. (y.0, y.1, f y.2)) b.is;
}

pub next-number : {W : Type 0} (rules : Rules W) (old new : At W) (line rows text : List ℕ) → AnswersLine rules old line rows text new → new.number ≤ old.number + 1
next-number rules old new [] rows text h = let same = ap (λ at. at.number) h.2 in omega (arith, same)
next-number rules old new (c ∷ cs) rows text h = let next = h.1 in omega (arith, next)

module _ {R : Type 0} (read : Ghosts R) where
  -- the first command is a whole line
  pub begins-line : (old before mid : Input R read) (bytes raw line text : List ℕ) (blanks : List (List ℕ))
      → Reads read old bytes before → Blank bytes blanks → list_any (λ x. x == 10) raw ≡ false → line ≡ strip_last 13 raw → Reads read before (raw ++ 10 ∷ []) mid
      → text ≡ line → IsUtf8 text → (length line ≡ 0 → ⊥)
      → (first : List ℕ) × Reads read old first mid × Begins first (IsAtEnd read mid) text
  begins-line old before mid bytes raw line text blanks p b one stripped s same utf8 some = (
    bytes ++ (raw ++ 10 ∷ []),
    reads-then read old before mid bytes (raw ++ 10 ∷ []) p s,
    record { blanks = blanks; blank = bytes; empty = b; raw = raw; one = one; some = λ none. some (ap (λ (t : List ℕ). length t) (sym same ∙ none)); text = utf8; is = inl (refl, same ∙ stripped) },
  )

  -- the first command is the last line
  pub begins-last : (old before mid : Input R read) (bytes line text : List ℕ) (blanks : List (List ℕ))
      → Reads read old bytes before → Blank bytes blanks → list_any (λ x. x == 10) line ≡ false → Reads read before line mid → IsAtEnd read mid
      → text ≡ line → IsUtf8 text → (length line ≡ 0 → ⊥)
      → (first : List ℕ) × Reads read old first mid × Begins first (IsAtEnd read mid) text
  begins-last old before mid bytes line text blanks p b one s spent same utf8 some = (
    bytes ++ line,
    reads-then read old before mid bytes line p s,
    record { blanks = blanks; blank = bytes; empty = b; raw = line; one = one; some = λ none. some (ap (λ (t : List ℕ). length t) (sym same ∙ none)); text = utf8; is = inr (refl, same, spent) },
  )
