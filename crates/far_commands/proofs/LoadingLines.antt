-- The lines of an unquoted load, one after another.
use Rattle.std.proofs.Common.{◌≡◌, ◌==◌, ◌+◌, ◌<◌, ℕ, zero, suc, Bool, true, false, List, [], ◌∷◌, length, None, ◌∙◌, refl, sym, ap, subst, inl, inr, arith}
use Rattle.std.specs.List.{list_any, slice_split, position_or_len}
use Rattle.std.proofs.lemmas.Bool.{cases_Bool, eqb-true}
use Rattle.csv.specs.Machine.{next_record}
use Rattle.csv.specs.Reading.{default_config, records, records_from}
use Rattle.csv.specs.declared.parser.State.TheVariants as st
use Rattle.far_script.specs.Lines.{is_line_feed}
use Rattle.far_script.specs.OneRecord.{begins_as_order_mark, is_comma}
use Rattle.far_script.specs.PlainLines.{are_plain_lines, is_break, line_of, lines_behind}
use Rattle.far_script.proofs.FieldsLaws.{unplain}
use Rattle.far_script.proofs.PlainLines.{line-more, line-record, no-order-mark, none-behind}
use Rattle.far_script.proofs.PrintingLaws.{is-some, not-zero}
use Rattle.far_commands.specs.Replies.{records_of}
use Rattle.far_commands.proofs.LoadingLaws.{end-of, next-of}

-- these rows are the records of the lines that are left
pub record LinesLeft (rest : List ℕ) (rows : List (List (List ℕ))) : Type 0 where
  pub fuel : ℕ
  pub enough : length rest < fuel
  pub all : rows ≡ records_from default_config fuel st.StartRecord rest
  pub plain : list_any is_break rest ≡ false

pub lines-first : (text : List ℕ) → are_plain_lines text ≡ true → LinesLeft text (records_of text)
lines-first text plain =
    let parts = unplain (begins_as_order_mark text) (list_any is_break text) plain in
    record {
      fuel = length text + 1;
      enough = omega arith;
      all = ap (records default_config) (no-order-mark text parts.0);
      plain = parts.1;
    }

no-record : next_record default_config st.StartRecord [] [] [] ≡ None
unfolding next_record
no-record = refl

-- without bytes there is no record
pub lines-end : (rest : List ℕ) (rows : List (List (List ℕ))) → (length rest == 0) ≡ true → LinesLeft rest rows → rows ≡ []
lines-end [] rows none left = left.all ∙ end-of left.fuel st.StartRecord [] left.enough no-record
lines-end (c ∷ cs) rows none left = absurd (not-zero (length cs) none)

skips-feed : (fuel : ℕ) (cs : List ℕ) → length (10 ∷ cs) < fuel → records_from default_config fuel st.StartRecord (10 ∷ cs) ≡ records_from default_config fuel st.StartRecord cs
unfolding records_from next_record
skips-feed zero cs low = absurd (omega (arith, low))
skips-feed (suc n) cs low = refl

line-some : (c : ℕ) (cs : List ℕ) → (c == 10) ≡ false → (length (line_of (c ∷ cs)) == 0) ≡ false
line-some c cs other = ap (λ (t : List ℕ). length t == 0) (line-more c cs other) ∙ is-some (length (c ∷ line_of cs) == 0) (not-zero (length (line_of cs)))

line-none : (c : ℕ) (cs : List ℕ) → (c == 10) ≡ true → (length (line_of (c ∷ cs)) == 0) ≡ true
line-none c cs feed = rw feed refl

both-ways : (b : Bool) → b ≡ true → b ≡ false → ⊥
both-ways b is other = cc (sym is ∙ other)

-- an empty line is not a record
pub lines-skip : (rest line behind : List ℕ) (rows : List (List (List ℕ))) → (length rest == 0) ≡ false → line ≡ line_of rest → behind ≡ lines_behind rest → (length line == 0) ≡ true → LinesLeft rest rows → LinesLeft behind rows
lines-skip [] line behind rows some is of none left = cc some
lines-skip (c ∷ cs) line behind rows some is of none left = elim (cases_Bool (c == 10)) [
  | inl feed ↦
      let same = eqb-true c 10 feed in
      let next : lines_behind (c ∷ cs) ≡ cs = subst (λ (b : ℕ). lines_behind (b ∷ cs) ≡ cs) (sym same) refl in
      let low : length (10 ∷ cs) < left.fuel = omega (arith, left.enough) in
      subst (λ (t : List ℕ). LinesLeft t rows) (sym (of ∙ next)) record {
        fuel = left.fuel;
        enough = omega (arith, left.enough);
        all = left.all ∙ ap (λ (b : ℕ). records_from default_config left.fuel st.StartRecord (b ∷ cs)) same ∙ skips-feed left.fuel cs low;
        plain = none-behind 1 (c ∷ cs) left.plain;
      }
  | inr other ↦ absurd (both-ways (length (line_of (c ∷ cs)) == 0) (ap (λ (t : List ℕ). length t == 0) (sym is) ∙ none) (line-some c cs other))
]

-- any other line is the next record
pub lines-more : (rest line behind : List ℕ) (rows : List (List (List ℕ))) → (length rest == 0) ≡ false → line ≡ line_of rest → behind ≡ lines_behind rest → (length line == 0) ≡ false → LinesLeft rest rows
    → (more : List (List (List ℕ))) × (rows ≡ slice_split is_comma line ∷ more) × LinesLeft behind more
lines-more [] line behind rows some is of shown left = cc some
lines-more (c ∷ cs) line behind rows some is of shown left = elim (cases_Bool (c == 10)) [
  | inl feed ↦ absurd (both-ways (length (line_of (c ∷ cs)) == 0) (line-none c cs feed) (ap (λ (t : List ℕ). length t == 0) (sym is) ∙ shown))
  | inr other ↦
      let next = next-of left.fuel st.StartRecord (c ∷ cs) (slice_split is_comma (line_of (c ∷ cs)), st.StartRecord, lines_behind (c ∷ cs)) left.enough refl (line-record c cs left.plain other) in
      let more = records_from default_config next.0 st.StartRecord (lines_behind (c ∷ cs)) in (
        more,
        left.all ∙ next.1 ∙ ap (λ (t : List ℕ). slice_split is_comma t ∷ more) (sym is),
        subst (λ (t : List ℕ). LinesLeft t more) (sym of) record {
          fuel = next.0;
          enough = next.2;
          all = refl;
          plain = none-behind (position_or_len is_line_feed (c ∷ cs) + 1) (c ∷ cs) left.plain;
        },
      )
]
