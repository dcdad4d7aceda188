-- A text without quotes and carriage returns reads as its lines, cut at their commas.
use Rattle.std.proofs.Common.{◌≡◌, ◌==◌, ◌+◌, ◌<◌, ℕ, zero, suc, Bool, true, false, List, [], ◌∷◌, ◌++◌, length, take, drop, Option, Some, ◌∙◌, append_assoc, refl, sym, ap, subst, inl, inr, arith}
use Rattle.std.specs.Prelude.{◌||◌}
use Rattle.std.specs.List.{list_any, slice_split, position_or_len}
use Rattle.std.proofs.lemmas.Bool.{cases_Bool, eqb-true}
use Rattle.std.proofs.lemmas.List.{append-nil, length-drop}
use Rattle.csv.specs.Machine.{next_record, Read}
use Rattle.csv.specs.Reading.{default_config, strip_bom}
use Rattle.csv.specs.declared.parser.State.TheVariants as st
use Rattle.csv.proofs.RoundTrip.{record-same, start-same}
use Rattle.far_script.specs.Lines.{is_line_feed}
use Rattle.far_script.specs.OneRecord.{begins_as_order_mark, is_comma}
use Rattle.far_script.specs.PlainLines.{is_break, line_of, lines_behind}
use Rattle.far_script.proofs.OneRecordPlainTexts.{behind, behind-nothing, behind-onto, copies, ends-field, keeps-order-mark, or-left, or-right, split-comma, split-other}

-- the first line, by the first byte of the text
one-place : (n : ℕ) → 1 + n ≡ suc n
one-place n = omega arith

place-behind : (n : ℕ) → 1 + n + 1 ≡ suc (n + 1)
place-behind n = omega arith

pub line-more : (c : ℕ) (cs : List ℕ) → (c == 10) ≡ false → line_of (c ∷ cs) ≡ c ∷ line_of cs
line-more c cs other = rw other (ap (λ (n : ℕ). take n (c ∷ cs)) (one-place (position_or_len is_line_feed cs)))

behind-more : (c : ℕ) (cs : List ℕ) → (c == 10) ≡ false → lines_behind (c ∷ cs) ≡ lines_behind cs
behind-more c cs other = rw other (ap (λ (n : ℕ). drop n (c ∷ cs)) (place-behind (position_or_len is_line_feed cs)))

-- the record read with the fields so far and the current field, if the rest of the line has these parts
abbrev line-read : List (List ℕ) → List ℕ → List (List ℕ) → List ℕ → Option Read
line-read fields field parts rest = Some (fields ++ behind field parts, st.StartRecord, rest)

comma-read : (fields : List (List ℕ)) (field : List ℕ) (c : ℕ) (line rest : List ℕ) → (c == 44) ≡ true
    → line-read (fields ++ field ∷ []) [] (slice_split is_comma line) rest ≡ line-read fields field (slice_split is_comma (c ∷ line)) rest
comma-read fields field c line rest comma =
    ap (λ (all : List (List ℕ)). Some (all, st.StartRecord, rest)) (append_assoc fields (field ∷ []) (behind [] (slice_split is_comma line)) ∙ ap (λ (parts : List (List ℕ)). fields ++ field ∷ parts) (behind-nothing line))
    ∙ sym (ap (λ (parts : List (List ℕ)). line-read fields field parts rest) (split-comma c line comma) ∙ ap (λ (first : List ℕ). Some (fields ++ first ∷ slice_split is_comma line, st.StartRecord, rest)) (append-nil field))

letter-read : (fields : List (List ℕ)) (field : List ℕ) (c : ℕ) (line rest : List ℕ) → (c == 44) ≡ false
    → line-read fields (field ++ c ∷ []) (slice_split is_comma line) rest ≡ line-read fields field (slice_split is_comma (c ∷ line)) rest
letter-read fields field c line rest other =
    ap (λ (parts : List (List ℕ)). Some (fields ++ parts, st.StartRecord, rest)) (behind-onto field c (slice_split is_comma line))
    ∙ sym (ap (λ (parts : List (List ℕ)). line-read fields field parts rest) (split-other c line other))

-- the end of the line
feed-read : (fields : List (List ℕ)) (field cs : List ℕ)
    → next_record default_config st.InField fields field (10 ∷ cs) ≡ line-read fields field (slice_split is_comma (line_of (10 ∷ cs))) (lines_behind (10 ∷ cs))
unfolding next_record
feed-read fields field cs = ap (λ (last : List ℕ). Some (fields ++ last ∷ [], st.StartRecord, cs)) (sym (append-nil field))

-- at the start of a field
starts-field : (fields : List (List ℕ)) (xs : List ℕ) → list_any is_break xs ≡ false → next_record default_config st.StartField fields [] xs ≡ next_record default_config st.InField fields [] xs
unfolding next_record
starts-field fields [] e = refl
starts-field fields (c ∷ cs) e = start-same fields [] c cs (or-left (c == 34) (c == 13) (or-left (is_break c) (list_any is_break cs) e))

neither : (a b : Bool) → a ≡ false → b ≡ false → (a || b) ≡ false
neither a b p q = rw (p, q) refl

-- from within a field
reads-line : (fields : List (List ℕ)) (field xs : List ℕ) → list_any is_break xs ≡ false
    → next_record default_config st.InField fields field xs ≡ line-read fields field (slice_split is_comma (line_of xs)) (lines_behind xs)
unfolding next_record
reads-line fields field [] e = rw (append-nil field) refl
reads-line fields field (c ∷ cs) e = elim (cases_Bool (c == 10)) [
  | inl feed ↦
      subst (λ (b : ℕ). next_record default_config st.InField fields field (b ∷ cs) ≡ line-read fields field (slice_split is_comma (line_of (b ∷ cs))) (lines_behind (b ∷ cs))) (sym (eqb-true c 10 feed)) (feed-read fields field cs)
  | inr other ↦
      let rest = or-right (is_break c) (list_any is_break cs) e in
      let whole : line-read fields field (slice_split is_comma (c ∷ line_of cs)) (lines_behind cs) ≡ line-read fields field (slice_split is_comma (line_of (c ∷ cs))) (lines_behind (c ∷ cs)) =
      (λ i. line-read fields field (slice_split is_comma (sym (line-more c cs other) i)) (sym (behind-more c cs other) i)) in
      elim (cases_Bool (c == 44)) [
        | inl comma ↦
            ends-field fields field c cs comma
            ∙ starts-field (fields ++ field ∷ []) cs rest
            ∙ reads-line (fields ++ field ∷ []) [] cs rest
            ∙ comma-read fields field c (line_of cs) (lines_behind cs) comma
            ∙ whole
        | inr letter ↦
            copies fields field c cs letter (neither (is_break c) (c == 10) (or-left (is_break c) (list_any is_break cs) e) other)
            ∙ reads-line fields (field ++ c ∷ []) cs rest
            ∙ letter-read fields field c (line_of cs) (lines_behind cs) letter
            ∙ whole
      ]
]

-- a record is the first line, if that is not empty
pub line-record : (c : ℕ) (cs : List ℕ) → list_any is_break (c ∷ cs) ≡ false → (c == 10) ≡ false
    → next_record default_config st.StartRecord [] [] (c ∷ cs) ≡ Some (slice_split is_comma (line_of (c ∷ cs)), st.StartRecord, lines_behind (c ∷ cs))
line-record c cs e other =
    let plain = or-left (is_break c) (list_any is_break cs) e in
    record-same [] [] c cs (or-right (c == 34) (c == 13) plain) other ∙ start-same [] [] c cs (or-left (c == 34) (c == 13) plain) ∙ reads-line [] [] (c ∷ cs) e
    ∙ ap (λ (parts : List (List ℕ)). Some (parts, st.StartRecord, lines_behind (c ∷ cs))) (behind-nothing (line_of (c ∷ cs)))

-- an empty line is no record
pub empty-line : (cs : List ℕ) → next_record default_config st.StartRecord [] [] (10 ∷ cs) ≡ next_record default_config st.StartRecord [] [] cs
unfolding next_record
empty-line cs = refl

-- a text that cannot begin with a byte order mark
pub no-order-mark : (text : List ℕ) → begins_as_order_mark text ≡ false → strip_bom text ≡ text
unfolding strip_bom
no-order-mark [] h = refl
no-order-mark (c ∷ cs) h = keeps-order-mark c cs h

-- the text after a line has no break either
pub none-behind : (n : ℕ) (xs : List ℕ) → list_any is_break xs ≡ false → list_any is_break (drop n xs) ≡ false
none-behind zero xs e = e
none-behind (suc n) [] e = refl
none-behind (suc n) (x ∷ xs) e = none-behind n xs (or-right (is_break x) (list_any is_break xs) e)

-- and is shorter
pub less-behind : (text : List ℕ) → 0 < length text → length (lines_behind text) < length text
less-behind text some = omega (arith, some, length-drop (position_or_len is_line_feed text + 1) text)

-- to look for two bytes is to look for each
either : (a b c d : Bool) → ((a || c) || (b || d)) ≡ ((a || b) || (c || d))
either true b c d = refl
either false true true d = refl
either false true false d = refl
either false false true d = refl
either false false false d = refl

breaks : (xs : List ℕ) → (list_any (λ c. c == 34) xs || list_any (λ c. c == 13) xs) ≡ list_any is_break xs
breaks [] = refl
breaks (x ∷ xs) = either (x == 34) (x == 13) (list_any (λ c. c == 34) xs) (list_any (λ c. c == 13) xs) ∙ ap (λ (b : Bool). is_break x || b) (breaks xs)

pub breaks-behind : (xs : List ℕ) → list_any (λ c. c == 34) xs ≡ false → list_any (λ c. c == 13) xs ≡ list_any is_break xs
breaks-behind xs none = sym (ap (λ (b : Bool). b || list_any (λ c. c == 13) xs) none) ∙ breaks xs
