-- Fields as the csv writer writes them.
use Rattle.std.proofs.Common.{◌≡◌, ◌==◌, ◌-◌, ◌+◌, ℕ, suc, Bool, true, false, List, [], ◌∷◌, ◌++◌, length, take, if◌then◌else◌, append_assoc, length-append, drop, drop-cons, get_or, ◌<◌, ◌∙◌, refl, sym, ap, arith, inl, inr}
use Rattle.std.proofs.lemmas.List.{append-nil, take-append-le, take_all}
use Rattle.std.proofs.lemmas.Bool.{cases_Bool, eqb-true}
use Rattle.csv.specs.Writing.{default_writer, escaped, field_text, fields_text, is_blank, needs_quotes, quoted, row_body, row_text}
use Rattle.far_script.specs.Printing.{record_text, texts_of}

pub not-zero : (n : ℕ) → (suc n == 0) ≡ true → ⊥
not-zero n h = let e = eqb-true (suc n) 0 h in omega (arith, e)

pub is-some : (b : Bool) → (b ≡ true → ⊥) → b ≡ false
is-some true h = absurd (h refl)
is-some false h = refl

-- a field whose text is not empty is written alone in its record as in one of several
shown : (field : List ℕ) → (length (field_text default_writer field) == 0) ≡ false → record_text (field ∷ []) ≡ field_text default_writer field
unfolding is_blank fields_text
shown field h = rw h (append-nil (field_text default_writer field ++ []) ∙ append-nil (field_text default_writer field))

shows : (field : List ℕ) → (length field == 0) ≡ false → (length (field_text default_writer field) == 0) ≡ false
shows [] h = cc h
shows (b ∷ bs) h = elim (cases_Bool (needs_quotes default_writer (b ∷ bs))) [
  | inl needs ↦ rw needs (is-some (length (quoted default_writer (b ∷ bs)) == 0) (not-zero (length (escaped default_writer (b ∷ bs) ++ 34 ∷ []))))
  | inr plain ↦ rw plain (is-some (length (b ∷ bs) == 0) (not-zero (length bs)))
]

pub lone-empty : (field : List ℕ) → (length field == 0) ≡ true → record_text (field ∷ []) ≡ 34 ∷ 34 ∷ []
unfolding is_blank fields_text escaped
lone-empty [] h = refl
lone-empty (b ∷ bs) h = absurd (not-zero (length bs) h)

pub lone-same : (field : List ℕ) → (length field == 0) ≡ false → record_text (field ∷ []) ≡ field_text default_writer field
lone-same field h = shown field (shows field h)

one-less : (text : List ℕ) → length (text ++ 10 ∷ []) - 1 ≡ length text
one-less text = let n = length-append text (10 ∷ []) in omega (arith, n)

-- a record with the end of its line
record-end : (fields : List (List ℕ)) → row_text default_writer fields ≡ record_text fields ++ 10 ∷ []
record-end fields = sym (append_assoc (row_body default_writer fields) (if is_blank default_writer fields then 34 ∷ 34 ∷ [] else []) (10 ∷ []))

-- a field that is quoted, as the record of one field without its end
pub quoted-row : (field : List ℕ) → needs_quotes default_writer field ≡ true → row_text default_writer (field ∷ []) ≡ field_text default_writer field ++ 10 ∷ []
quoted-row [] needs = cc needs
quoted-row (b ∷ bs) needs = record-end ((b ∷ bs) ∷ []) ∙ ap (λ (text : List ℕ). text ++ 10 ∷ []) (lone-same (b ∷ bs) (is-some (length (b ∷ bs) == 0) (not-zero (length bs))))

next : (i : ℕ) → suc i ≡ i + 1
next i = omega arith

-- a text without its last byte
pub without-end : (row text left : List ℕ) (n : ℕ) → row ≡ text ++ 10 ∷ [] → n ≡ length row → left ≡ take (n - 1) row → left ≡ text
without-end row text left n whole counted cut = rw (cut, counted, whole) (ap (λ (k : ℕ). take k (text ++ 10 ∷ [])) (one-less text) ∙ take-append-le (length text) text (10 ∷ []) (omega arith) ∙ take_all (length text) text (omega arith))

-- one line more
pub texts-go-on : {A : Type 0} (text : A → List ℕ) (lines : List A) (i : ℕ) (line : A) (page after whole : List ℕ)
    → i < length lines → line ≡ get_or lines i line → after ≡ page ++ text line
    → page ++ texts_of text (drop i lines) ≡ whole
    → after ++ texts_of text (drop (i + 1) lines) ≡ whole
texts-go-on text lines i line page after whole low is grown e =
    let split : drop i lines ≡ line ∷ drop (i + 1) lines = rw (drop-cons lines i line) (ap (λ first. first ∷ drop (suc i) lines) (sym is) ∙ ap (λ (n : ℕ). line ∷ drop n lines) (next i)) in
    rw grown (append_assoc page (text line) (texts_of text (drop (i + 1) lines)) ∙ sym (ap (λ rest. page ++ texts_of text rest) split) ∙ e)
