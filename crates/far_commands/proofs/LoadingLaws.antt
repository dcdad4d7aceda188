-- The records of a load, one after another.
use Rattle.std.proofs.Common.{◌≡◌, ◌==◌, ◌+◌, ◌≤◌, ◌<◌, ℕ, zero, suc, Bool, true, false, List, [], ◌∷◌, length, append-nil, Option, None, Some, ◌∙◌, refl, sym, ap, subst, arith, ◌⊎◌, inl, inr, if◌then◌else◌}
use Rattle.std.specs.Prelude.{◌||◌}
use Rattle.csv.specs.Machine.{Read, next_record, step, is_end, in_field, start_field, start_record, ends_at_end, fields_after, field_after}
use Rattle.csv.specs.Reading.{default_config, records, records_from, source_of, ReadRecord, Reached, Ready, reader_config, reader_state, reader_trim, took_first}
use Rattle.csv.specs.declared.parser.State.{State as Mode}
use Rattle.csv.specs.declared.parser.State.TheVariants as st
use Rattle.csv.specs.declared.parser.Action.{Action}
use Rattle.csv.specs.declared.parser.Action.TheVariants as act
use Rattle.csv.specs.declared.reader.Reader.{Reader}
use Rattle.csv.specs.declared.reader.Trim.TheVariants as trim
use Rattle.csv.proofs.ReadFacts.{rows-end, rows-more}
use Rattle.far_frame.specs.declared.step.Reply.{Reply}
use Rattle.far_frame.specs.declared.step.Reply.TheVariants as reply
use Rattle.far_types.specs.declared.refusal.Refusal.{Refusal}
use Rattle.std.specs.Prelude.{codes}
use Rattle.far_script.specs.Printing.{numbered_text}
use Rattle.far_commands.specs.Loading.{Remains, loaded_text}
use Rattle.far_commands.specs.Replies.{AfterReply, Loads, insert_of_record}
use Rattle.far_commands.specs.Rules.{Rules}

-- if the step ends a record, it begins no other
abbrev EndsWell : Mode × Action → Type 0
EndsWell at = is_end at.1 ≡ true → ends_at_end at.0 ≡ false

one-of : (b : Bool) (x y : Mode × Action) → EndsWell x → EndsWell y → EndsWell (if b then x else y)
one-of true x y h k = h
one-of false x y h k = k

after-end : (return : Bool) → EndsWell ((if return then st.AfterCr else st.StartRecord), act.EndRecord)
after-end true e = refl
after-end false e = refl

in-field : (c : ℕ) → EndsWell (in_field default_config c)
in-field c = one-of (c == 44) _ _ (λ e. cc e) (one-of ((c == 13) || (c == 10)) _ _ (after-end (c == 13)) (λ e. cc e))

start-field : (c : ℕ) → EndsWell (start_field default_config c)
start-field c = one-of (c == 34) _ _ (λ e. cc e) (in-field c)

start-record : (c : ℕ) → EndsWell (start_record default_config c)
start-record c = one-of ((c == 13) || (c == 10)) _ _ (λ e. cc e) (start-field c)

ends-well : (s : Mode) (c : ℕ) → EndsWell (step default_config s c)
ends-well st.StartRecord c = start-record c
ends-well st.StartField c = start-field c
ends-well st.InField c = in-field c
ends-well st.InQuoted c = one-of (c == 34) _ _ (λ e. cc e) (λ e. cc e)
ends-well st.InEscape c = λ e. cc e
ends-well st.AfterQuote c = one-of (c == 34) _ _ (λ e. cc e) (in-field c)
ends-well st.InComment c = one-of (c == 10) _ _ (λ e. cc e) (λ e. cc e)
ends-well st.AfterCr c = one-of (c == 10) _ _ (λ e. cc e) (start-record c)

read-or : (b : Bool) (x p : Read) (more : Option Read) → (if b then Some x else more) ≡ Some p → ((b ≡ true) × (p ≡ x)) ⊎ (more ≡ Some p)
read-or true x p more h = inl (refl, cc h)
read-or false x p more h = inr h

-- reading a record leaves at most the bytes that there were, and begins no other record
goes-on : (s : Mode) (fields : List (List ℕ)) (field xs : List ℕ) (p : Read) → next_record default_config s fields field xs ≡ Some p
    → (length p.2 ≤ length xs) × (ends_at_end p.1 ≡ false)
unfolding next_record
goes-on s fields field [] p h = elim (read-or (ends_at_end s) _ p None h) [
  | inl w ↦ rw w.1 (omega arith, refl)
  | inr w ↦ cc w
]
goes-on s fields field (c ∷ rest) p h = elim (read-or (is_end (step default_config s c).1) _ p _ h) [
  | inl w ↦ rw w.1 (omega arith, ends-well s c w.0)
  | inr w ↦ let m = goes-on (step default_config s c).0 (fields_after (step default_config s c).1 fields field) (field_after (step default_config s c).1 c field) rest p w in (omega (arith, m.0), m.1)
]

-- if no record was begun, reading one consumes at least one byte
shorter : (s : Mode) (xs : List ℕ) (p : Read) → ends_at_end s ≡ false → next_record default_config s [] [] xs ≡ Some p → length p.2 < length xs
unfolding next_record
shorter s [] p none h = elim (read-or (ends_at_end s) _ p None h) [
  | inl w ↦ cc (sym none ∙ w.0)
  | inr w ↦ cc w
]
shorter s (c ∷ rest) p none h = elim (read-or (is_end (step default_config s c).1) _ p _ h) [
  | inl w ↦ rw w.1 (omega arith)
  | inr w ↦ let m = goes-on (step default_config s c).0 (fields_after (step default_config s c).1 [] []) (field_after (step default_config s c).1 c []) rest p w in omega (arith, m.0)
]

pub remains-first : {R : Type 0} (rem : R → Option (List ℕ)) (reader : Reader R) (text : List ℕ) → source_of rem reader ≡ Some text → reader_state reader ≡ st.StartRecord
    → reader_trim reader ≡ trim.None → Ready reader → reader_config reader ≡ default_config → Remains rem reader (records default_config text)
remains-first rem reader text source state untrimmed ready config = record {
  fuel = length text + 1;
  rest = text;
  source = source;
  enough = omega arith;
  between = rw state refl;
  all = rw state refl;
  untrimmed = untrimmed;
  ready = ready;
  config = config;
}

pub end-of : (fuel : ℕ) (s : Mode) (rest : List ℕ) → length rest < fuel → next_record default_config s [] [] rest ≡ None → records_from default_config fuel s rest ≡ []
unfolding records_from
end-of zero s rest low h = absurd (omega (arith, low))
end-of (suc n) s rest low h = rw h refl

-- if the reader finds no record, none is left
pub remains-none : {R : Type 0} (rem : R → Option (List ℕ)) (a b : Reader R) (fields : List (List ℕ)) (rows : List (List (List ℕ)))
    → Remains rem a rows → ReadRecord rem a b false fields → rows ≡ []
remains-none rem a b fields rows m r = m.all ∙ end-of m.fuel (reader_state a) m.rest m.enough (rows-end rem a b fields default_config m.rest m.config m.source r)

pub next-of : (fuel : ℕ) (s : Mode) (rest : List ℕ) (p : Read) → length rest < fuel → ends_at_end s ≡ false → next_record default_config s [] [] rest ≡ Some p
    → (less : ℕ) × (records_from default_config fuel s rest ≡ p.0 ∷ records_from default_config less p.1 p.2) × (length p.2 < less)
unfolding records_from
next-of zero s rest p low none h = absurd (omega (arith, low))
next-of (suc n) s rest p low none h = (n, rw h refl, (let l = shorter s rest p none h in omega (arith, l, low)))

-- if the reader finds a record, it is the next one
pub remains-some : {R : Type 0} (rem : R → Option (List ℕ)) (a b : Reader R) (fields : List (List ℕ)) (rows : List (List (List ℕ)))
    → Remains rem a rows → ReadRecord rem a b true fields → took_first b ≡ true → (more : List (List (List ℕ))) × (rows ≡ fields ∷ more) × Remains rem b more
unfolding Reached
remains-some rem a b fields rows m r first =
    let go = rows-more rem a b fields default_config (reader_state a) m.rest m.rest [] m.config m.source (refl, refl) r in
    let p = go.2.0 in
    let next = next-of m.fuel (reader_state a) m.rest p m.enough m.between go.2.1 in
    let left = goes-on (reader_state a) [] [] m.rest p go.2.1 in (
      records_from default_config next.0 p.1 p.2,
      m.all ∙ next.1 ∙ ap (λ (f : List (List ℕ)). f ∷ records_from default_config next.0 p.1 p.2) (sym go.2.2),
      record {
        fuel = next.0;
        rest = go.0;
        source = go.1;
        enough = subst (λ (t : List ℕ). length t < next.0) go.2.3.1 next.2;
        between = subst (λ (s : Mode). ends_at_end s ≡ false) go.2.3.0 left.1;
        all = rw (go.2.3.0, go.2.3.1) refl;
        untrimmed = r.3 ∙ m.untrimmed;
        ready = inl first;
        config = r.2 ∙ m.config;
      },
    )

not-refused : (given : Reply) → ((refusal : Refusal) → given ≡ reply.Refused refusal → ⊥) → (ends : Refusal → Type 0) (goes : Type 0) → goes → AfterReply given ends goes
not-refused (reply.Refused refusal) other ends goes h = absurd (other refusal refl)
not-refused (reply.Place place) other ends goes h = h
not-refused reply.Done other ends goes h = h
not-refused (reply.Aggregate a) other ends goes h = h
not-refused (reply.Answer answer) other ends goes h = h
not-refused (reply.Ints copies) other ends goes h = h
not-refused (reply.Texts copies) other ends goes h = h
not-refused (reply.Job n) other ends goes h = h
not-refused (reply.Next groups) other ends goes h = h

module _ {W : Type 0} (rules : Rules W) where
  -- the load from this record on prints what the whole load does
  abbrev pub GoesTo : W → List (List (List ℕ)) → ℕ → W → List (List (List ℕ)) → Type 0
  GoesTo old all count at rows = (said : List ℕ) (new : W) → Loads rules count at rows said new → Loads rules 0 old all said new

  pub loads-none : (old at : W) (count : ℕ) (all rows : List (List (List ℕ))) → GoesTo old all count at rows → rows ≡ [] → Loads rules 0 old all (loaded_text count None) at
  loads-none old at count all rows go none = go (loaded_text count None) at (rw none (refl, append-nil (numbered_text (codes "loaded") count)))

  pub loads-refused : (old at new : W) (count : ℕ) (all rows more : List (List (List ℕ))) (fields : List (List ℕ)) (refusal : Refusal) → GoesTo old all count at rows → rows ≡ fields ∷ more
      → rules.Steps at (insert_of_record (rules.table_in at).schema fields) (reply.Refused refusal) new → Loads rules 0 old all (loaded_text count (Some refusal)) new
  loads-refused old at new count all rows more fields refusal go some taken = go (loaded_text count (Some refusal)) new (rw some (reply.Refused refusal, new, taken, (refl, refl)))

  pub loads-more : (old at mid : W) (count : ℕ) (all rows more : List (List (List ℕ))) (fields : List (List ℕ)) (given : Reply) → GoesTo old all count at rows → rows ≡ fields ∷ more
      → rules.Steps at (insert_of_record (rules.table_in at).schema fields) given mid → ((refusal : Refusal) → given ≡ reply.Refused refusal → ⊥) → GoesTo old all (count + 1) mid more
  loads-more old at mid count all rows more fields given go some taken other said new rest = go said new (rw some (given, mid, taken, not-refused given other _ _ rest))
