-- The length of a form after one text changes.
use Rattle.std.proofs.Common.{◌≡◌, ℕ, zero, suc, ◌+◌, ◌*◌, ◌/◌, ◌<◌, ◌≤◌, Bool, true, false, cond, List, [], ◌∷◌, ◌++◌, length, get_or, map, set, take, Option, None, Some, refl, sym, ap, ◌∙◌, arith}
use Rattle.std.specs.Prelude.{is_none, is_some, not, ◌||◌, slice_get, option_and_then}
use Rattle.std.specs.List.{list_any, flat_map}
use Rattle.std.specs.Option.{option_map_or}
use Rattle.std.proofs.lemmas.List.{length-append}
use Rattle.std.proofs.lemmas.List.Sums.{sum_by-set, sum_by-append, sum_by-cons}
use Rattle.far_types.specs.FormLengths.{text_bytes, texts_length}
use Rattle.far_codec.specs.FarForm.{some_missing}
use Rattle.std.proofs.lemmas.Option.{slice_get-get_or}
use Rattle.far_codec.specs.Reading.{flags_of}
use Rattle.far_codec.specs.TextForm.{bytes_of, texts_of, ends_in, AreTextParts}
use Rattle.far_codec.specs.TextLaws.{Texts, text_bytes_is, before_le, before_more, length-texts_of}
use Rattle.far_codec.proofs.TextFormLaws.{length-ends_in, flags_are, body_is}

or_swap : (a b c : Bool) → (a || (b || c)) ≡ (b || (a || c))
or_swap true true c = refl
or_swap true false c = refl
or_swap false true c = refl
or_swap false false c = refl

pub missing_any : (texts : Texts) → list_any is_none texts ≡ some_missing (map is_none texts)
missing_any [] = refl
missing_any (t ∷ texts) = ap (λ b. is_none t || b) (missing_any texts)

-- whether a text is missing after text i is replaced
pub missing_set : (texts : Texts) (i : ℕ) (text : Option (List ℕ)) → i < length texts → list_any is_none (set texts i text) ≡ (is_none text || some_missing (set (map is_none texts) i false))
missing_set [] i text h = absurd (omega arith)
missing_set (t ∷ texts) zero text h = ap (λ b. is_none text || b) (missing_any texts)
missing_set (t ∷ texts) (suc i) text h =
    ap (λ b. is_none t || b) (missing_set texts i text (omega arith)) ∙ or_swap (is_none t) (is_none text) (some_missing (set (map is_none texts) i false))

pub missing_next : (texts : Texts) (text : Option (List ℕ)) → list_any is_none (texts ++ text ∷ []) ≡ (is_none text || some_missing (map is_none texts))
missing_next [] text = refl
missing_next (t ∷ texts) text = ap (λ b. is_none t || b) (missing_next texts text) ∙ or_swap (is_none t) (is_none text) (some_missing (map is_none texts))

one_length : (text : Option (List ℕ)) → option_map_or length text 0 ≡ length (bytes_of text)
one_length None = refl
one_length (Some text) = refl

-- how many bytes the texts have after text i is replaced
pub bytes_set : (texts : Texts) (i : ℕ) (text : Option (List ℕ)) → i < length texts → text_bytes (set texts i text) + length (bytes_of (get_or texts i None)) ≡ text_bytes texts + length (bytes_of text)
bytes_set texts i text h =
    omega (arith, sum_by-set (λ t. option_map_or length t 0) texts i text None h, one_length text, one_length (get_or texts i None))

pub bytes_next : (texts : Texts) (text : Option (List ℕ)) → text_bytes (texts ++ text ∷ []) ≡ text_bytes texts + length (bytes_of text)
bytes_next texts text = sum_by-append (λ t. option_map_or length t 0) texts (text ∷ []) ∙ ap (λ n. text_bytes texts + n) (sum_by-cons (λ t. option_map_or length t 0) text [] ∙ omega (arith, one_length text))

-- what the parts of a valid form say about the texts
pub record Tells (mask : List ℕ) (words : List (List ℕ)) (body : List ℕ) (texts : Texts) : Type 0 where
  pub count : length words ≡ length texts
  pub flags : map is_none texts ≡ flags_of mask (length words)
  pub bytes : length body ≡ text_bytes texts

pub tells : (mask : List ℕ) (words : List (List ℕ)) (body : List ℕ) (texts : Texts) → AreTextParts mask (ends_in words) body → texts_of mask (ends_in words) body ≡ texts → Tells mask words body texts
tells mask words body texts parts same =
    let ends = ends_in words in
    let many = length-ends_in words in
    record {
      count = sym many ∙ sym (length-texts_of mask ends body) ∙ ap length same;
      flags = ap (map is_none) (sym same) ∙ flags_are mask ends body ∙ ap (flags_of mask) many;
      bytes = sym (ap length (body_is mask ends body parts)) ∙ sym (text_bytes_is (texts_of mask ends body)) ∙ ap text_bytes same;
    }

-- borrowing text i returns text i of the list
pub lent_is : (lent : Option (List ℕ)) (made texts : Texts) (i : ℕ) → lent ≡ option_and_then (λ text. text) (slice_get made i) → made ≡ texts → i < length texts → lent ≡ get_or texts i None
lent_is lent made texts i e same h = e ∙ ap (λ l. option_and_then (λ text. text) (slice_get l i)) same ∙ ap (option_and_then (λ text. text)) (slice_get-get_or texts i None h)

pub one_of : (texts : Texts) (i : ℕ) → i < length texts → length (bytes_of (get_or texts i None)) ≤ text_bytes texts
one_of texts i h = omega (arith, text_bytes_is texts, before_le texts (i + 1), ap length (before_more texts i h), length-append (flat_map bytes_of (take i texts)) (bytes_of (get_or texts i None)))

-- the length of the form of changed texts, from its parts
pub length_is : (texts changed : Texts) (missing : Bool) (count bytes : ℕ) → list_any is_none changed ≡ missing → length changed ≡ count → text_bytes changed ≡ bytes → 6 + cond missing ((count + 7) / 8) 0 + 4 * count + bytes ≡ texts_length changed
length_is texts changed missing count bytes any many size =
    ap (λ b. 6 + cond b ((count + 7) / 8) 0 + 4 * count + bytes) (sym any)
    ∙ ap (λ n. 6 + cond (list_any is_none changed) ((n + 7) / 8) 0 + 4 * n + bytes) (sym many)
    ∙ ap (λ n. 6 + cond (list_any is_none changed) ((length changed + 7) / 8) 0 + 4 * length changed + n) (sym size)

pub none_is : {T : Type 0} (o : Option T) (none : Bool) → is_some o ≡ not none → none ≡ is_none o
none_is None true e = refl
none_is None false e = absurd cc
none_is (Some x) true e = absurd cc
none_is (Some x) false e = refl

-- a write past the end changes nothing
pub set_past : {X : Type 0} (xs : List X) (i : ℕ) (x : X) → length xs ≤ i → set xs i x ≡ xs
set_past [] i x h = refl
set_past (y ∷ xs) zero x h = absurd (omega arith)
set_past (y ∷ xs) (suc i) x h = ap (λ l. y ∷ l) (set_past xs i x (omega arith))
