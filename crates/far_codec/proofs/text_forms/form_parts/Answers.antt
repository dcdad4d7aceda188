use Rattle.std.proofs.Common.{◌≡◌, ◌+◌, ◌/◌, ◌++◌, ◌∷◌, [], ℕ, cond, eqb, List, length, get_or, map, take, drop, sym, ap, ◌∙◌, arith}
use Rattle.std.specs.Prelude.{is_none}
use Rattle.std.specs.Int.{w32, to_le_bytes, from_le_bytes}
use Rattle.std.specs.List.{flat_map}
use Rattle.std.proofs.lemmas.List.{length-append, take_at, drop_at}
use Rattle.far_codec.specs.FarForm.{mask_of}
use Rattle.far_codec.specs.TextForm.{bytes_of, ends_of, texts_meaning, texts_of, ends_in, IsTextsForm}
use Rattle.far_codec.specs.TextLaws.{texts_again}
use Rattle.far_codec.proofs.FormsMeaning.{LiesSo, lies_so}
use Rattle.far_codec.proofs.TextFormLaws.{parts_of_form, HasTextParts, parts_in}
use Rattle.far_codec.proofs.text_forms.form_parts.Goals as goal

lies : (form : List ℕ) → IsTextsForm form → LiesSo form (texts_meaning form)
lies form is = lies_so form (texts_meaning form) is.texts is.is

-- the lengths that the splits need
count_is : (form : List ℕ) (count : ℕ) → IsTextsForm form → count ≡ from_le_bytes w32 (get_or form 2 0 ∷ get_or form 3 0 ∷ get_or form 4 0 ∷ get_or form 5 0 ∷ []) → count ≡ length (texts_meaning form)
count_is form count is e = e ∙ (lies form is).count

size_is : (form : List ℕ) (count size : ℕ) → IsTextsForm form → count ≡ length (texts_meaning form) → size ≡ cond (eqb (get_or form 0 0) 2) ((count + 7) / 8) 0 → size ≡ length (mask_of (map is_none (texts_meaning form)))
size_is form count size is many e = e ∙ ap (λ n. cond (eqb (get_or form 0 0) 2) ((n + 7) / 8) 0) many ∙ (lies form is).mask_len

behind : (form : List ℕ) → IsTextsForm form → drop 6 form ≡ mask_of (map is_none (texts_meaning form)) ++ (flat_map (to_le_bytes w32) (ends_of (texts_meaning form)) ++ flat_map bytes_of (texts_meaning form))
behind form is = (lies form is).cells.back

pub bounds-form-2 : goal.bounds-form-2
bounds-form-2 c = let long = (lies c.args.form.now c.requires).cells.long in omega (arith, long)

pub bounds-form-3 : goal.bounds-form-3
bounds-form-3 c = let long = (lies c.args.form.now c.requires).cells.long in omega (arith, long)

pub bounds-form-4 : goal.bounds-form-4
bounds-form-4 c = let long = (lies c.args.form.now c.requires).cells.long in omega (arith, long)

pub bounds-form-5 : goal.bounds-form-5
bounds-form-5 c = let long = (lies c.args.form.now c.requires).cells.long in omega (arith, long)

pub split_at-requires : goal.split_at-requires
split_at-requires c = (lies c.args.form.now c.requires).cells.long

-- the bytes after the head
abbrev fields_of : List ℕ → List ℕ
fields_of form = flat_map (to_le_bytes w32) (ends_of (texts_meaning form)) ++ flat_map bytes_of (texts_meaning form)

known : (form rest mask fields : List ℕ) (count size : ℕ) → IsTextsForm form → rest ≡ drop 6 form → mask ≡ take size rest → fields ≡ drop size rest → count ≡ length (texts_meaning form) → size ≡ length (mask_of (map is_none (texts_meaning form))) → HasTextParts mask fields count (texts_meaning form)
known form rest mask fields count size is rest_is mask_is fields_is many len =
    let m = mask_of (map is_none (texts_meaning form)) in
    let whole = rest_is ∙ behind form is in
    record {
      count_is = many;
      mask_is = mask_is ∙ ap (take size) whole ∙ take_at m (fields_of form) size (sym len);
      fields_are = fields_is ∙ ap (drop size) whole ∙ drop_at m (fields_of form) size (sym len);
    }

pub split_at-requires-2 : goal.split_at-requires-2
split_at-requires-2 c =
    let form = c.args.form.now in
    let many = count_is form c.from_le_bytes-count.result c.requires c.from_le_bytes-count.ensures in
    let size = size_is form c.from_le_bytes-count.result c.mask_size.result c.requires many c.mask_size.ensures in
    let whole = c.split_at.ensures.back ∙ behind form c.requires in
    omega (arith, size, ap length whole, length-append (mask_of (map is_none (texts_meaning form))) (fields_of form))

pub split_at-requires-3 : goal.split_at-requires-3
split_at-requires-3 c =
    let form = c.args.form.now in
    let count = c.from_le_bytes-count.result in
    let many = count_is form count c.requires c.from_le_bytes-count.ensures in
    let size = size_is form count c.mask_size.result c.requires many c.mask_size.ensures in
    let parts = known form c.split_at.result.1.now c.split_at-2.result.0.now c.split_at-2.result.1.now count c.mask_size.result c.requires c.split_at.ensures.back c.split_at-2.ensures.front c.split_at-2.ensures.back many size in
    omega (arith, ap length parts.fields_are, length-append (flat_map (to_le_bytes w32) (ends_of (texts_meaning form))) (flat_map bytes_of (texts_meaning form)), (lies form c.requires).ends_len, many)

pub returns-clause-parts : goal.returns-clause-parts
returns-clause-parts c =
    let form = c.args.form.now in
    let count = c.from_le_bytes-count.result in
    let many = count_is form count c.requires c.from_le_bytes-count.ensures in
    let size = size_is form count c.mask_size.result c.requires many c.mask_size.ensures in
    let parts = known form c.split_at.result.1.now c.split_at-2.result.0.now c.split_at-2.result.1.now count c.mask_size.result c.requires c.split_at.ensures.back c.split_at-2.ensures.front c.split_at-2.ensures.back many size in
    let same = parts_in c.split_at-2.result.0.now c.split_at-2.result.1.now c.split_at-3.result.0.now c.split_at-3.result.1.now count (texts_meaning form) c.as_chunks.result.0.now c.requires.texts parts c.split_at-3.ensures.front c.split_at-3.ensures.back c.as_chunks.ensures.front in
    rw (parts.mask_is, same.0, same.1) (parts_of_form (texts_meaning form) c.requires.texts)

pub returns-clause-words : goal.returns-clause-words
returns-clause-words c =
    let form = c.args.form.now in
    let count = c.from_le_bytes-count.result in
    let many = count_is form count c.requires c.from_le_bytes-count.ensures in
    let size = size_is form count c.mask_size.result c.requires many c.mask_size.ensures in
    let parts = known form c.split_at.result.1.now c.split_at-2.result.0.now c.split_at-2.result.1.now count c.mask_size.result c.requires c.split_at.ensures.back c.split_at-2.ensures.front c.split_at-2.ensures.back many size in
    let same = parts_in c.split_at-2.result.0.now c.split_at-2.result.1.now c.split_at-3.result.0.now c.split_at-3.result.1.now count (texts_meaning form) c.as_chunks.result.0.now c.requires.texts parts c.split_at-3.ensures.front c.split_at-3.ensures.back c.as_chunks.ensures.front in
    same.2

pub returns-clause-same : goal.returns-clause-same
returns-clause-same c =
    let form = c.args.form.now in
    let count = c.from_le_bytes-count.result in
    let many = count_is form count c.requires c.from_le_bytes-count.ensures in
    let size = size_is form count c.mask_size.result c.requires many c.mask_size.ensures in
    let parts = known form c.split_at.result.1.now c.split_at-2.result.0.now c.split_at-2.result.1.now count c.mask_size.result c.requires c.split_at.ensures.back c.split_at-2.ensures.front c.split_at-2.ensures.back many size in
    let same = parts_in c.split_at-2.result.0.now c.split_at-2.result.1.now c.split_at-3.result.0.now c.split_at-3.result.1.now count (texts_meaning form) c.as_chunks.result.0.now c.requires.texts parts c.split_at-3.ensures.front c.split_at-3.ensures.back c.as_chunks.ensures.front in
    ap (λ m. texts_of m (ends_in c.as_chunks.result.0.now) c.split_at-3.result.1.now) parts.mask_is
    ∙ ap (λ e. texts_of (mask_of (map is_none (texts_meaning form))) e c.split_at-3.result.1.now) same.0
    ∙ ap (texts_of (mask_of (map is_none (texts_meaning form))) (ends_of (texts_meaning form))) same.1
    ∙ texts_again (texts_meaning form)
