-- Parts of columns, printed without copying them.
use Rattle.std.proofs.Common.{◌≡◌, ◌+◌, ◌-◌, ◌<◌, ◌≤◌, ℕ, zero, suc, Bool, true, false, List, [], ◌∷◌, ◌++◌, map, take, drop, Option, None, Some, append_assoc, append-nil, ◌∙◌, refl, sym, ap, arith}
use Rattle.std.specs.Prelude.{slice_get, slice_range}
use Rattle.std.proofs.lemmas.Bool.{le-ltb}
use Rattle.csv.specs.Writing.{default_writer, field_text, fields_text}
use Rattle.far_store.specs.declared.store.FarTickets.{Ghosts as Tickets}
use Rattle.far_types.specs.declared.cell.Cell.{Cell}
use Rattle.far_types.specs.declared.cell.Kind.{Kind}
use Rattle.far_types.specs.Bounds.{AreLimits}
use Rattle.far_columns.specs.Pieces.{pieces_of}
use Rattle.far_frame.specs.declared.step.Reply.{Reply}
use Rattle.far_frame.specs.declared.step.Reply.TheVariants as reply
use Rattle.far_frame.specs.declared.step.Step.{Step}
use Rattle.far_frame.specs.declared.step.Step.TheVariants as step
use Rattle.far_frame.specs.Lending.{IsReplyOf, Piece, lend_refusal, lent_part}
use Rattle.far_frame.specs.Steps.{IsStep}
use Rattle.far_frame.specs.TableRefusals.{TableState, due}
use Rattle.far_frame.specs.TableRuns.{IsPartOf, IsTableServed, IsTableStep}
use Rattle.far_frame.specs.TableViews.{table_of}
use Rattle.far_frame.specs.Worlds.{World}
use Rattle.far_frame.proofs.LendingLaws.{given-cells, given-flags, lends-low}
use Rattle.far_commands.specs.Listings.{cell_text, field_in_record, row_line}
use Rattle.far_commands.specs.Pieces.{flag_text, piece_text, pieces_text}
use Rattle.far_commands.specs.Replies.{Takes, done_text, reply_text}
use Rattle.far_commands.specs.WorldRules.{both_rules}
use Rattle.far_script.specs.Printing.{texts_of}
use Rattle.far_commands.proofs.ListingsFields.{row-some}

-- printing the text of the first item that is left
pub text-next : {A : Type 0} (text : A → List ℕ) (item : A) (items : List A) (page after whole : List ℕ)
    → after ≡ page ++ text item → page ++ texts_of text (item ∷ items) ≡ whole → after ++ texts_of text items ≡ whole
text-next text item items page after whole grown e = rw grown (append_assoc page (text item) (texts_of text items) ∙ e)

-- an empty range has no pieces
pub pieces-past : {X : Type 0} (xs : List X) (size from to : ℕ) → to ≤ from → pieces_of xs size from to ≡ []
pieces-past xs size from to past = rw (le-ltb from to past) refl

drop-first : {X : Type 0} (xs : List X) (i : ℕ) (x : X) → slice_get xs i ≡ Some x → drop i xs ≡ x ∷ drop (suc i) xs
drop-first [] i x h = cc h
drop-first (first ∷ xs) zero x h = (let same : first ≡ x = cc h in ap (λ y. y ∷ xs) same)
drop-first (first ∷ xs) (suc i) x h = drop-first xs i x h

drop-end : {X : Type 0} (xs : List X) (i : ℕ) → slice_get xs i ≡ None → drop i xs ≡ []
drop-end [] zero h = refl
drop-end [] (suc i) h = refl
drop-end (first ∷ xs) zero h = cc h
drop-end (first ∷ xs) (suc i) h = drop-end xs i h

take-none : {X : Type 0} (n : ℕ) (xs : List X) → xs ≡ [] → take n xs ≡ []
take-none zero xs h = refl
take-none (suc n) xs h = rw h refl

-- a range of a list is its first item and the items after it
range-first : {X : Type 0} (xs : List X) (i to : ℕ) (x : X) → slice_get xs i ≡ Some x → i < to → slice_range xs i to ≡ x ∷ slice_range xs (i + 1) to
range-first xs i to x there more =
    let more_by : to - i ≡ suc (to - (i + 1)) = omega (arith, more) in
    let next : suc i ≡ i + 1 = omega arith in
    ap (λ n. take n (drop i xs)) more_by ∙ ap (take (suc (to - (i + 1)))) (drop-first xs i x there) ∙ ap (λ n. x ∷ take (to - (i + 1)) (drop n xs)) next

-- the marks of the places in a range
module _ (flags : List Bool) (i to : ℕ) (page whole : List ℕ) (e : page ++ texts_of flag_text (slice_range flags i to) ≡ whole) where
  pub marks-more : (alive : Bool) (after : List ℕ) → slice_get flags i ≡ Some alive → i < to → after ≡ page ++ flag_text alive → after ++ texts_of flag_text (slice_range flags (i + 1) to) ≡ whole
  marks-more alive after there more grown =
      text-next flag_text alive (slice_range flags (i + 1) to) page after whole grown (sym (ap (λ l. page ++ texts_of flag_text l) (range-first flags i to alive there more)) ∙ e)

  marks-none : slice_range flags i to ≡ [] → page ≡ whole
  marks-none none = sym (append-nil page) ∙ sym (ap (λ l. page ++ texts_of flag_text l) none) ∙ e

  pub marks-end : slice_get flags i ≡ None → page ≡ whole
  marks-end none = marks-none (take-none (to - i) (drop i flags) (drop-end flags i none))

  pub marks-past : to ≤ i → page ≡ whole
  marks-past past = (let none : to - i ≡ 0 = omega (arith, past) in marks-none (ap (λ n. take n (drop i flags)) none))

-- printing one more field
pub field-next : (it : Cell) (cells : List Cell) (page after whole : List ℕ) → after ≡ (page ++ 44 ∷ []) ++ field_text default_writer (cell_text it)
    → page ++ fields_text default_writer (map cell_text (it ∷ cells)) ≡ whole
    → after ++ fields_text default_writer (map cell_text cells) ≡ whole
unfolding fields_text
field-next it cells page after whole grown e =
    let rest = fields_text default_writer (map cell_text cells) in
    rw grown (append_assoc (page ++ 44 ∷ []) (field_text default_writer (cell_text it)) rest ∙ append_assoc page (44 ∷ []) (field_text default_writer (cell_text it) ++ rest) ∙ e)

pub fields-none : (page whole : List ℕ) → page ++ fields_text default_writer (map cell_text []) ≡ whole → page ≡ whole
unfolding fields_text
fields-none page whole e = sym (append-nil page) ∙ e

-- a row of one cell, and a row of several
pub row-one : (page : List ℕ) (first : Cell) → (page ++ field_in_record true (cell_text first)) ++ 10 ∷ [] ≡ page ++ row_line (first ∷ [])
row-one page first =
    let body = page ++ field_in_record true (cell_text first) in
    ap (λ (t : List ℕ). t ++ 10 ∷ []) (fields-none body (body ++ fields_text default_writer (map cell_text [])) refl) ∙ row-some page (first ∷ []) first true refl refl

pub row-more : (page : List ℕ) (first second : Cell) (rest : List Cell)
    → ((((page ++ field_in_record false (cell_text first)) ++ 44 ∷ []) ++ field_in_record false (cell_text second)) ++ fields_text default_writer (map cell_text rest)) ++ 10 ∷ [] ≡ page ++ row_line (first ∷ second ∷ rest)
row-more page first second rest =
    let body = page ++ field_in_record false (cell_text first) in
    ap (λ (t : List ℕ). t ++ 10 ∷ []) (field-next second rest body ((body ++ 44 ∷ []) ++ field_in_record false (cell_text second)) (body ++ fields_text default_writer (map cell_text (second ∷ rest))) refl refl)
    ∙ row-some page (first ∷ second ∷ rest) first false refl refl

-- the text of pieces, if there is one
pub pieces-there : (all : List Piece) (first : Piece) (rest : List Piece) → all ≡ first ∷ rest → texts_of piece_text all ≡ pieces_text all
pieces-there all first rest e = rw e refl

-- the text of a reply with these pieces
given-text : (of : Option Kind) (pieces : List Piece) (done : List ℕ) (given : Reply) → IsReplyOf of pieces given → reply_text done given ≡ pieces_text pieces
given-text of pieces done (reply.Ints copies) is = ap pieces_text is.1
given-text of pieces done (reply.Texts copies) is = ap pieces_text is.1
given-text of pieces done (reply.Place place) is = absurd is
given-text of pieces done reply.Done is = absurd is
given-text of pieces done (reply.Aggregate a) is = absurd is
given-text of pieces done (reply.Answer answer) is = absurd is
given-text of pieces done (reply.Job n) is = absurd is
given-text of pieces done (reply.Next found) is = absurd is
given-text of pieces done (reply.Refused why) is = absurd is

-- a reply with pieces is no refusal
served : (s : Step) (of : Option Kind) (pieces : List Piece) (old new : TableState) (given : Reply) → IsReplyOf of pieces given → (due old s ≡ None) × IsTableServed old s given new → IsTableStep old s given new
served s of pieces old new (reply.Ints copies) is h = h
served s of pieces old new (reply.Texts copies) is h = h
served s of pieces old new (reply.Place place) is h = absurd is
served s of pieces old new reply.Done is h = absurd is
served s of pieces old new (reply.Aggregate a) is h = absurd is
served s of pieces old new (reply.Answer answer) is h = absurd is
served s of pieces old new (reply.Job n) is h = absurd is
served s of pieces old new (reply.Next found) is h = absurd is
served s of pieces old new (reply.Refused why) is h = absurd is

-- printing a part and recording that it was lent is the reply of the step
pub lends : {S K : Type 0} (tickets : Tickets S K) (old new : World K) (column from to : ℕ) (text : List ℕ)
    → (given : Reply) × IsReplyOf (slice_get old.state.table.schema column) (lent_part old.state.table column from to) given × IsStep tickets.content tickets.number_of old (step.Lend column from to) given new
    → AreLimits old.state.table.limits → lend_refusal old.state.rows column from to ≡ None → due (table_of old.state) (step.Lend column from to) ≡ None → table_of new.state ≡ table_of old.state
    → text ≡ pieces_text (lent_part old.state.table column from to) → Takes (both_rules tickets) old (step.Lend column from to) text new
lends tickets old new column from to text given limits free owed same printed =
    let table = old.state.table in
    let of = slice_get table.schema column in
    let pieces = lent_part table column from to in
    let low = lends-low old.state.rows column from to free in
    let part : IsPartOf table column from to given.0 = (given-cells table limits column from to low given.0 given.1, given-flags table limits column from to low given.0 given.1) in
    (given.0, (given.2, (served (step.Lend column from to) of pieces (table_of old.state) (table_of new.state) given.0 given.1 (owed, (part, same)), tt)), printed ∙ sym (given-text of pieces (done_text (step.Lend column from to)) given.0 given.1))
