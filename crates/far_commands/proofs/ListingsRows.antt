-- The live rows, printed place by place.
use Rattle.std.proofs.Common.{drop, Option, None, Some, subst, ◌≡◌, ◌+◌, ◌≤◌, ℕ, zero, suc, Bool, true, false, List, [], ◌∷◌, ◌++◌, length, take, append_assoc, append-nil, length-append, if◌then◌else◌, ◌∙◌, refl, sym, ap, arith, inl, inr}
use Rattle.std.specs.Prelude.{◌≢◌}
use Rattle.std.specs.Option.{option_map_or}
use Rattle.std.proofs.lemmas.List.{take_all}
use Rattle.far_types.specs.declared.cell.Cell.{Cell}
use Rattle.far_types.specs.declared.refusal.Refusal.{Refusal}
use Rattle.far_types.specs.Table.{Place, rows_of}
use Rattle.far_table.specs.State.{LiveState}
use Rattle.far_frame.specs.Views.{away}
use Rattle.far_script.specs.declared.fault.ShellFault.{ShellFault}
use Rattle.far_script.specs.declared.fault.ShellFault.TheVariants as fault
use Rattle.far_script.specs.Printing.{refusal_text, texts_of}
use Rattle.far_script.specs.Flow.{Prints}
use Rattle.far_commands.specs.Cuts.{CutOff, IsFront, PrintsCut}
use Rattle.far_commands.specs.Listings.{cells_at, dump_text, is_live, listing_of, row_line}
use Rattle.far_script.proofs.FlowLaws.{prints, prints-none, prints-then}

rows-first : (b : Bool) (p : Place) (rest : List Place) → p.alive ≡ b → rows_of (p ∷ rest) ≡ (if b then p.cells ∷ rows_of rest else rows_of rest)
rows-first true p rest h = rw h refl
rows-first false p rest h = rw h refl

live-at : (places : List Place) (i : ℕ) → is_live i places ≡ true → rows_of (take (suc i) places) ≡ rows_of (take i places) ++ cells_at i places ∷ []
live-at [] i h = cc h
live-at (p ∷ ps) zero h = rw h refl
live-at (p ∷ ps) (suc i) h = elim p.alive as (λ b. p.alive ≡ b → rows_of (p ∷ take (suc i) ps) ≡ rows_of (p ∷ take i ps) ++ cells_at i ps ∷ []) [
  | true ↦ λ e. rw e (ap (λ (r : List (List Cell)). p.cells ∷ r) (live-at ps i h))
  | false ↦ λ e. rw e (live-at ps i h)
] refl

dead-at : (places : List Place) (i : ℕ) → is_live i places ≡ false → rows_of (take (suc i) places) ≡ rows_of (take i places)
dead-at [] zero h = refl
dead-at [] (suc i) h = refl
dead-at (p ∷ ps) zero h = rw h refl
dead-at (p ∷ ps) (suc i) h = elim p.alive as (λ b. p.alive ≡ b → rows_of (p ∷ take (suc i) ps) ≡ rows_of (p ∷ take i ps)) [
  | true ↦ λ e. rw e (ap (λ (r : List (List Cell)). p.cells ∷ r) (dead-at ps i h))
  | false ↦ λ e. rw e (dead-at ps i h)
] refl

next : (i : ℕ) → i + 1 ≡ suc i
next i = omega arith

pub row-more : (places : List Place) (i : ℕ) → is_live i places ≡ true → rows_of (take (i + 1) places) ≡ rows_of (take i places) ++ cells_at i places ∷ []
row-more places i h = rw (next i) (live-at places i h)

pub row-none : (places : List Place) (i : ℕ) → is_live i places ≡ false → rows_of (take (i + 1) places) ≡ rows_of (take i places)
row-none places i h = rw (next i) (dead-at places i h)

pub texts-more : (text : List Cell → List ℕ) (rows : List (List Cell)) (row : List Cell) → texts_of text (rows ++ row ∷ []) ≡ texts_of text rows ++ text row
texts-more text [] row = append-nil (text row)
texts-more text (r ∷ rs) row = ap (λ (t : List ℕ). text r ++ t) (texts-more text rs row) ∙ sym (append_assoc (text r) (texts_of text rs) (text row))

pub counted-more : (places : List Place) (i n : ℕ) → is_live i places ≡ true → n ≡ length (rows_of (take i places)) → n + 1 ≡ length (rows_of (take (i + 1) places))
counted-more places i n h e = rw (row-more places i h) (let l = length-append (rows_of (take i places)) (cells_at i places ∷ []) in omega (arith, l, e))

-- a listing that is printed up to place i: what is printed, and what is still in the reply's buffer
module _ (u : Option (List ℕ)) (held front : List ℕ) (places : List Place) where
  abbrev pub IsGathered : ℕ → Option (List ℕ) → List ℕ → List ℕ → Type 0
  IsGathered i v left reply = (text : List ℕ) × Prints u held text v left × (text ++ reply ≡ front ++ texts_of row_line (rows_of (take i places)))

rows-split : (i : ℕ) (places : List Place) → rows_of (take i places) ++ rows_of (drop i places) ≡ rows_of places
rows-split zero places = refl
rows-split (suc i) [] = refl
rows-split (suc i) (p ∷ ps) = elim p.alive as (λ b. p.alive ≡ b → rows_of (p ∷ take i ps) ++ rows_of (drop i ps) ≡ rows_of (p ∷ ps)) [
  | true ↦ λ e. rw e (ap (λ (r : List (List Cell)). p.cells ∷ r) (rows-split i ps))
  | false ↦ λ e. rw e (rows-split i ps)
] refl

texts-join : (text : List Cell → List ℕ) (a b : List (List Cell)) → texts_of text (a ++ b) ≡ texts_of text a ++ texts_of text b
texts-join text [] b = refl
texts-join text (row ∷ rows) b = ap (λ (t : List ℕ). text row ++ t) (texts-join text rows b) ∙ sym (append_assoc (text row) (texts_of text rows) (texts_of text b))

-- a dump is the rows of the first i places, followed by the rows of the others
dump-rest : (front : List ℕ) (places : List Place) (i : ℕ)
    → (front ++ texts_of row_line (rows_of (take i places))) ++ texts_of row_line (rows_of (drop i places)) ≡ front ++ texts_of row_line (rows_of places)
dump-rest front places i =
    append_assoc front (texts_of row_line (rows_of (take i places))) (texts_of row_line (rows_of (drop i places)))
    ∙ ap (λ (t : List ℕ). front ++ t) (sym (texts-join row_line (rows_of (take i places)) (rows_of (drop i places))) ∙ ap (texts_of row_line) (rows-split i places))

-- a prefix of a text, after another text, is a prefix of both
front-behind : (whole all before text later : List ℕ) → before ++ (whole ++ later) ≡ all → IsFront (λ said. said ≡ whole) text → IsFront (λ said. said ≡ all) (before ++ text)
front-behind whole all before text later e (inl none) = inr (whole ++ later, ap (λ (t : List ℕ). (before ++ t) ++ (whole ++ later)) none ∙ ap (λ (t : List ℕ). t ++ (whole ++ later)) (append-nil before) ∙ e)
front-behind whole all before text later e (inr h) =
    inr (h.0 ++ later, append_assoc before text (h.0 ++ later) ∙ ap (λ (t : List ℕ). before ++ t) (sym (append_assoc text h.0 later) ∙ ap (λ (t : List ℕ). t ++ later) h.1) ∙ e)

cut-behind : (why : ShellFault) (whole all before text later : List ℕ) → why ≢ fault.Input → before ++ (whole ++ later) ≡ all → CutOff why (λ said. said ≡ whole) text → CutOff why (λ said. said ≡ all) (before ++ text)
cut-behind fault.BadStart whole all before text later other e h = h
cut-behind fault.Input whole all before text later other e h = absurd (other refl)
cut-behind fault.Output whole all before text later other e h = front-behind whole all before text later e h
cut-behind fault.Memory whole all before text later other e h = front-behind whole all before text later e h
cut-behind fault.Turns whole all before text later other e h = h

module _ (u : Option (List ℕ)) (held front : List ℕ) (places : List Place) where
  abbrev all : List ℕ
  all = front ++ texts_of row_line (rows_of places)

  -- a dead place adds no row
  pub gather-skip : (v : Option (List ℕ)) (k reply : List ℕ) (i : ℕ) → is_live i places ≡ false → IsGathered u held front places i v k reply → IsGathered u held front places (i + 1) v k reply
  gather-skip v k reply i dead g = subst (λ (rows : List (List Cell)). (text : List ℕ) × Prints u held text v k × (text ++ reply ≡ front ++ texts_of row_line rows)) (sym (row-none places i dead)) g

  module _ (v : Option (List ℕ)) (k reply : List ℕ) (i : ℕ) (g : IsGathered u held front places i v k reply) where
    -- memory runs out at the next row
    pub gather-memory : PrintsCut fault.Memory (λ said. said ≡ all) u held v k
    gather-memory =
        let later = texts_of row_line (rows_of (drop i places)) in
        (g.0, g.1, inr (reply ++ later, sym (append_assoc g.0 reply later) ∙ ap (λ (t : List ℕ). t ++ later) g.2 ∙ dump-rest front places i))

    -- after the last place the rest of the reply is printed
    pub gather-end : (left : List ℕ) → length places ≤ i → left ≡ k ++ reply → Prints u held all v left
    gather-end left past grown = subst (λ (t : List ℕ). Prints u held t v left) (g.2 ∙ ap (λ (ps : List Place). front ++ texts_of row_line (rows_of ps)) (take_all i places past)) (prints-then u v v held g.0 k reply left g.1 (prints v k reply left grown))

    -- adding the next row
    module _ (whole row : List ℕ) (live : is_live i places ≡ true) (grown : whole ≡ reply ++ row) (is : row ≡ row_line (cells_at i places)) where
      gathered : g.0 ++ whole ≡ front ++ texts_of row_line (rows_of (take (i + 1) places))
      gathered =
          let before = texts_of row_line (rows_of (take i places)) in
          ap (λ (t : List ℕ). g.0 ++ t) grown ∙ sym (append_assoc g.0 reply row) ∙ (λ j. g.2 j ++ is j) ∙ append_assoc front before (row_line (cells_at i places))
          ∙ ap (λ (t : List ℕ). front ++ t) (sym (ap (texts_of row_line) (row-more places i live) ∙ texts-more row_line (rows_of (take i places)) (cells_at i places)))

      -- a part of the reply may be printed at once, or a fault ends it
      pub gather-row : (w : Option (List ℕ)) (left rest : List ℕ) → (text : List ℕ) × Prints v k text w left × (whole ≡ text ++ rest) → IsGathered u held front places (i + 1) w left rest
      gather-row w left rest p = (g.0 ++ p.0, prints-then u v w held g.0 k p.0 left g.1 p.1, append_assoc g.0 p.0 rest ∙ ap (λ (t : List ℕ). g.0 ++ t) (sym p.2) ∙ gathered)

      pub gather-cut : (why : ShellFault) (w : Option (List ℕ)) (left : List ℕ) → why ≢ fault.Input → PrintsCut why (λ said. said ≡ whole) v k w left → PrintsCut why (λ said. said ≡ all) u held w left
      gather-cut why w left other p =
          let later = texts_of row_line (rows_of (drop (i + 1) places)) in
          (g.0 ++ p.0, prints-then u v w held g.0 k p.0 left g.1 p.1, cut-behind why whole all g.0 p.0 later other (sym (append_assoc g.0 whole later) ∙ ap (λ (t : List ℕ). t ++ later) gathered ∙ dump-rest front places (i + 1)) p.2)

-- memory runs out before anything is printed
pub cut-at-once : (answer : List ℕ → Type 0) (u : Option (List ℕ)) (held : List ℕ) → PrintsCut fault.Memory answer u held u held
cut-at-once answer u held = ([], prints-none u held, inl refl)

module _ {K : Type 0} (s : LiveState K) where
  -- an object is away, so the listing is a refusal
  pub listed-refusal : (why : Refusal) → Some why ≡ away s → listing_of s ≡ refusal_text why
  listed-refusal why is = ap (λ (found : Option Refusal). option_map_or refusal_text found (dump_text s.table)) (sym is)

  -- no object is away, so the listing has the rows
  module _ (here : None ≡ away s) where
    listed-rows : listing_of s ≡ dump_text s.table
    listed-rows = ap (λ (found : Option Refusal). option_map_or refusal_text found (dump_text s.table)) (sym here)

    pub rows-listed : (u v : Option (List ℕ)) (held left : List ℕ) → Prints u held (dump_text s.table) v left → Prints u held (listing_of s) v left
    rows-listed u v held left p = subst (λ (text : List ℕ). Prints u held text v left) (sym listed-rows) p

    pub rows-cut : (why : ShellFault) (u v : Option (List ℕ)) (held left : List ℕ) → PrintsCut why (λ said. said ≡ dump_text s.table) u held v left → PrintsCut why (λ said. said ≡ listing_of s) u held v left
    rows-cut why u v held left p = subst (λ (text : List ℕ). PrintsCut why (λ said. said ≡ text) u held v left) (sym listed-rows) p
