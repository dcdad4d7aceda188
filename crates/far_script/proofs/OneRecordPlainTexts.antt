-- A text without quotes and ends of lines reads as the parts between its commas.
use Rattle.std.proofs.Common.{◌≡◌, ◌==◌, cond, ℕ, Bool, true, false, List, [], ◌∷◌, ◌++◌, Option, None, Some, ◌∙◌, append_assoc, refl, sym, ap, inl, inr}
use Rattle.std.proofs.lemmas.List.{append-nil}
use Rattle.std.proofs.lemmas.Bool.{cases_Bool}
use Rattle.std.specs.Prelude.{◌||◌}
use Rattle.std.specs.List.{list_any, slice_split, onto_first}
use Rattle.csv.specs.Machine.{next_record, Read}
use Rattle.csv.specs.Reading.{default_config, strip_bom}
use Rattle.csv.specs.declared.parser.State.TheVariants as st
use Rattle.csv.proofs.RoundTrip.{record-same, start-same}
use Rattle.far_script.specs.OneRecord.{one_record, only, is_mark, is_comma}

pub or-left : (a b : Bool) → (a || b) ≡ false → a ≡ false
or-left false b e = refl
or-left true b e = cc e

pub or-right : (a b : Bool) → (a || b) ≡ false → b ≡ false
or-right false b e = e
or-right true b e = cc e

-- a byte that is not a mark is none of the three
no-mark : (c : ℕ) → is_mark c ≡ false → ((c == 34) ≡ false) × ((c == 13) ≡ false) × ((c == 10) ≡ false)
no-mark c e =
    let ends = or-left ((c == 34) || (c == 13)) (c == 10) e in
    (or-left (c == 34) (c == 13) ends, or-right (c == 34) (c == 13) ends, or-right ((c == 34) || (c == 13)) (c == 10) e)

-- the bytes of the current field, put before the first part
abbrev pub behind : List ℕ → List (List ℕ) → List (List ℕ)
behind field [] = field ∷ []
behind field (part ∷ parts) = (field ++ part) ∷ parts

pub behind-onto : (field : List ℕ) (c : ℕ) (parts : List (List ℕ)) → behind (field ++ c ∷ []) parts ≡ behind field (onto_first c parts)
behind-onto field c [] = refl
behind-onto field c (part ∷ parts) = ap (λ (whole : List ℕ). whole ∷ parts) (append_assoc field (c ∷ []) part)

onto-nothing : (c : ℕ) (parts : List (List ℕ)) → behind [] (onto_first c parts) ≡ onto_first c parts
onto-nothing c [] = refl
onto-nothing c (part ∷ parts) = refl

pub behind-nothing : (xs : List ℕ) → behind [] (slice_split is_comma xs) ≡ slice_split is_comma xs
behind-nothing [] = refl
behind-nothing (c ∷ cs) = elim (is_comma c) as (λ b. behind [] (cond b ([] ∷ slice_split is_comma cs) (onto_first c (slice_split is_comma cs))) ≡ cond b ([] ∷ slice_split is_comma cs) (onto_first c (slice_split is_comma cs))) [
  | true ↦ refl
  | false ↦ onto-nothing c (slice_split is_comma cs)
]

-- a byte of a field
pub copies : (fields : List (List ℕ)) (field : List ℕ) (c : ℕ) (cs : List ℕ) → (c == 44) ≡ false → is_mark c ≡ false
    → next_record default_config st.InField fields field (c ∷ cs) ≡ next_record default_config st.InField fields (field ++ c ∷ []) cs
unfolding next_record
copies fields field c cs other plain =
    let n = no-mark c plain in
    rw (other, n.1, n.2) refl

-- a comma ends the field
pub ends-field : (fields : List (List ℕ)) (field : List ℕ) (c : ℕ) (cs : List ℕ) → (c == 44) ≡ true
    → next_record default_config st.InField fields field (c ∷ cs) ≡ next_record default_config st.StartField (fields ++ field ∷ []) [] cs
unfolding next_record
ends-field fields field c cs comma = rw comma refl

-- the record read with the fields so far and the current field, if the rest has these parts
abbrev read-behind : List (List ℕ) → List ℕ → List (List ℕ) → Option Read
read-behind fields field parts = Some (fields ++ behind field parts, st.StartRecord, [])

-- the fields after one more
one-more : (fields : List (List ℕ)) (field : List ℕ) (parts : List (List ℕ)) → read-behind (fields ++ field ∷ []) [] parts ≡ Some (fields ++ field ∷ behind [] parts, st.StartRecord, [])
one-more fields field parts = ap (λ (all : List (List ℕ)). Some (all, st.StartRecord, [])) (append_assoc fields (field ∷ []) (behind [] parts))

-- the parts of a text, by its first byte
pub split-comma : (c : ℕ) (cs : List ℕ) → (c == 44) ≡ true → slice_split is_comma (c ∷ cs) ≡ [] ∷ slice_split is_comma cs
split-comma c cs comma = rw comma refl

pub split-other : (c : ℕ) (cs : List ℕ) → (c == 44) ≡ false → slice_split is_comma (c ∷ cs) ≡ onto_first c (slice_split is_comma cs)
split-other c cs other = rw other refl

-- at the start of a field, if the text goes on
starts : (fields : List (List ℕ)) (c : ℕ) (cs : List ℕ) → is_mark c ≡ false
    → next_record default_config st.StartField fields [] (c ∷ cs) ≡ next_record default_config st.InField fields [] (c ∷ cs)
starts fields c cs plain = let n = no-mark c plain in start-same fields [] c cs n.0

comma-behind : (fields : List (List ℕ)) (field : List ℕ) (c : ℕ) (cs : List ℕ) → (c == 44) ≡ true
    → read-behind fields field (slice_split is_comma (c ∷ cs)) ≡ Some (fields ++ field ∷ slice_split is_comma cs, st.StartRecord, [])
comma-behind fields field c cs comma =
    ap (read-behind fields field) (split-comma c cs comma)
    ∙ ap (λ (first : List ℕ). Some (fields ++ first ∷ slice_split is_comma cs, st.StartRecord, [])) (append-nil field)

last-comma : (fields : List (List ℕ)) (field : List ℕ) (c : ℕ) → (c == 44) ≡ true
    → Some (fields ++ field ∷ behind [] ([] ∷ []), st.StartRecord, []) ≡ read-behind fields field (slice_split is_comma (c ∷ []))
last-comma fields field c comma = sym (comma-behind fields field c [] comma)

-- from within a field
runs : (fields : List (List ℕ)) (field xs : List ℕ) → list_any is_mark xs ≡ false
    → next_record default_config st.InField fields field xs ≡ read-behind fields field (slice_split is_comma xs)
unfolding next_record
runs fields field [] e = rw (append-nil field) refl
runs fields field (c ∷ []) e = elim (cases_Bool (c == 44)) [
  | inl comma ↦ ends-field fields field c [] comma ∙ one-more fields field ([] ∷ []) ∙ last-comma fields field c comma
  | inr other ↦
      copies fields field c [] other (or-left (is_mark c) false e)
      ∙ runs fields (field ++ c ∷ []) [] refl
      ∙ ap (λ (parts : List (List ℕ)). Some (fields ++ parts, st.StartRecord, [])) (behind-onto field c ([] ∷ []))
      ∙ sym (ap (read-behind fields field) (split-other c [] other))
]
runs fields field (c ∷ d ∷ ds) e = elim (cases_Bool (c == 44)) [
  | inl comma ↦
      ends-field fields field c (d ∷ ds) comma
      ∙ starts (fields ++ field ∷ []) d ds (or-left (is_mark d) (list_any is_mark ds) (or-right (is_mark c) (list_any is_mark (d ∷ ds)) e))
      ∙ runs (fields ++ field ∷ []) [] (d ∷ ds) (or-right (is_mark c) (list_any is_mark (d ∷ ds)) e)
      ∙ one-more fields field (slice_split is_comma (d ∷ ds))
      ∙ ap (λ (parts : List (List ℕ)). Some (fields ++ field ∷ parts, st.StartRecord, [])) (behind-nothing (d ∷ ds))
      ∙ sym (comma-behind fields field c (d ∷ ds) comma)
  | inr other ↦
      copies fields field c (d ∷ ds) other (or-left (is_mark c) (list_any is_mark (d ∷ ds)) e)
      ∙ runs fields (field ++ c ∷ []) (d ∷ ds) (or-right (is_mark c) (list_any is_mark (d ∷ ds)) e)
      ∙ ap (λ (parts : List (List ℕ)). Some (fields ++ parts, st.StartRecord, [])) (behind-onto field c (slice_split is_comma (d ∷ ds)))
      ∙ sym (ap (read-behind fields field) (split-other c (d ∷ ds) other))
]

-- a text with no byte of an order mark at its start
pub keeps-order-mark : (c : ℕ) (cs : List ℕ) → (c == 239) ≡ false → strip_bom (c ∷ cs) ≡ c ∷ cs
unfolding strip_bom
keeps-order-mark c [] h = refl
keeps-order-mark c (d ∷ []) h = refl
keeps-order-mark c (d ∷ e ∷ es) h = rw h refl

last-record : (fields : List (List ℕ)) → only (Some (fields, st.StartRecord, [])) ≡ Some fields
unfolding next_record
last-record fields = refl

-- the record of a plain text of one byte or more
pub one_record-plain : (c : ℕ) (cs : List ℕ) → (c == 239) ≡ false → list_any is_mark (c ∷ cs) ≡ false
    → one_record (c ∷ cs) ≡ Some (slice_split is_comma (c ∷ cs))
one_record-plain c cs first plain =
    let n = no-mark c (or-left (is_mark c) (list_any is_mark cs) plain) in
    ap (λ (text : List ℕ). only (next_record default_config st.StartRecord [] [] text)) (keeps-order-mark c cs first)
    ∙ ap only (record-same [] [] c cs n.1 n.2 ∙ start-same [] [] c cs n.0 ∙ runs [] [] (c ∷ cs) plain)
    ∙ last-record (behind [] (slice_split is_comma (c ∷ cs)))
    ∙ ap (λ (parts : List (List ℕ)). Some parts) (behind-nothing (c ∷ cs))

-- an empty text has no record
pub one_record-empty : one_record [] ≡ None
unfolding next_record strip_bom
one_record-empty = refl
