-- A number is appended to each of several columns.
use Rattle.std.proofs.Common.{◌≡◌, ◌≢◌, inl, inr, ℕ, suc, ℤ, ◌+◌, ◌*◌, ◌/◌, ◌<◌, Bool, true, false, not, cond, List, [], ◌∷◌, ◌++◌, length, Option, None, Some, refl, sym, ap, ◌∙◌, arith, mul-le-mul_right}
use Rattle.std.specs.Prelude.{All, AllPairs, slice_get, nat_lt, is_some, ◌⊎◌}
use Rattle.std.specs.List.{list_any}
use Rattle.std.specs.Option.{option_and_then, option_map_or, option_or}
use Rattle.std.proofs.lemmas.Bool.{eqb-true, eq-eqb, cases_lt, cases_eq, cases_Bool, or_parts}
use Rattle.std.proofs.lemmas.List.Elements.{All-nil, All-cons, All-head, All-tail}
use Rattle.std.proofs.lemmas.List.Kept.{AllPairs-cons}
use Rattle.std.proofs.lemmas.Nat.{div_below}
use Rattle.far_pointer.specs.declared.pointer.Pointer.{Pointer}
use Rattle.far_types.specs.declared.refusal.Refusal.{Refusal}
use Rattle.far_types.specs.declared.refusal.Refusal.TheVariants as refusal
use Rattle.far_types.specs.FirstOf.{first_of}
use Rattle.far_scopes.specs.declared.object_record.ObjectRecord.{ObjectRecord}
use Rattle.far_scopes.specs.Memory.{at_of}
use Rattle.far_scopes.specs.Movement.{Movement, ChangesObject}
use Rattle.far_scopes.specs.Refusing.{absent, written_out, write_refusal, no_space}
use Rattle.far_scopes.proofs.EnteringPins.{length-with}
use Rattle.far_columns.specs.Vector.{Vector, IsShaped, AreDisjoint, object_at}
use Rattle.far_columns.specs.Effects.{is_full, after_push, objects_after_push}
use Rattle.far_columns.specs.Refusing.{push_refusal}
use Rattle.far_scopes.proofs.FirstOfCases.{first-append, two-free}
use Rattle.far_scopes.proofs.Alike.{none-pass}
use Rattle.far_columns.specs.NumbersTogether.{NumberLists, NumberColumns, AreNumberColumns, all_begin, after_push_all, absents, some_written_out, no_space_for_groups, push_numbers_refusal}

pub pairs-head : {X : Type 0} (R : X → X → Type 0) (x : X) (xs : List X) → AllPairs R (x ∷ xs) → All (R x) xs
pairs-head R x xs pairs k d below = pairs 0 (suc k) d (omega arith) (omega (arith, below))

pub pairs-tail : {X : Type 0} (R : X → X → Type 0) (x : X) (xs : List X) → AllPairs R (x ∷ xs) → AllPairs R xs
pairs-tail R x xs pairs i j d below within = pairs (suc i) (suc j) d (omega (arith, below)) (omega (arith, within))

-- two columns with the same length and the same size of row groups both begin a row group, or neither does
pub both-begin : (c d : Vector (Option ℤ)) → IsShaped c → IsShaped d → c.size ≡ d.size → c.len ≡ d.len → is_full c ≡ true → is_full d ≡ true
both-begin c d has other size len begins =
    let full : c.len ≡ length c.objects * c.size = eqb-true c.len (length c.objects * c.size) begins in
    let full_too : d.len ≡ length c.objects * d.size = sym len ∙ full ∙ ap (λ s. length c.objects * s) size in
    elim (cases_eq (length c.objects) (length d.objects)) [
      | inl same ↦ eq-eqb d.len (length d.objects * d.size) (full_too ∙ ap (λ n. n * d.size) same)
      | inr ne ↦ elim (cases_lt (length d.objects) (length c.objects)) [
        | inl fewer ↦
            let long = mul-le-mul_right {m = length d.objects + 1} {n = length c.objects} d.size (omega (arith, fewer)) in
            absurd (omega (arith, long, full_too, other.enough, other.some))
        | inr more ↦
            let long = mul-le-mul_right {m = length c.objects + 1} {n = length d.objects} d.size (omega (arith, more, ne)) in
            absurd (omega (arith, long, full_too, other.needed))
      ]
    ]

-- a row group that has been begun is not full, so a number is pushed if its object may be written
pub push-free : {K : Type 0} (m : Movement (Option ℤ) K) (v : Vector (Option ℤ)) → is_full v ≡ false → None ≡ write_refusal m (object_at v v.len) → push_refusal m v ≡ None
push-free m v begun free = ap (λ (b : Bool). cond b (first_of (no_space m (length m.records) v.size ∷ [])) (write_refusal m (object_at v v.len))) begun ∙ sym free

pub free-push : {K : Type 0} (m : Movement (Option ℤ) K) (v : Vector (Option ℤ)) → is_full v ≡ false → push_refusal m v ≡ None → write_refusal m (object_at v v.len) ≡ None
free-push m v begun free = sym (ap (λ (b : Bool). cond b (first_of (no_space m (length m.records) v.size ∷ [])) (write_refusal m (object_at v v.len))) begun) ∙ free

-- whether an object may be written depends only on its word, its record and the limit, so not on other objects
abbrev writing : {K : Type 0} → Option Pointer → Option (ObjectRecord K) → ℕ → Option Refusal
writing word object_record changes = first_of (
    (not (is_some (option_and_then at_of word)), option_map_or (λ e. refusal.Absent e.name.column e.name.group) object_record refusal.StaleJob)
    ∷ (not (nat_lt (option_map_or (λ e. e.version) object_record 0) changes), refusal.EditsUsedUp)
    ∷ [])

pub write-other : {K : Type 0} (old new : Movement (Option ℤ) K) (o p : ℕ) → ChangesObject old new o → new.max_writes ≡ old.max_writes → p ≢ o → write_refusal new p ≡ write_refusal old p
write-other old new o p changes same disjoint =
    ap (λ word. writing word (slice_get new.records p) new.max_writes) (changes.words p disjoint)
    ∙ ap (λ object_record. writing (slice_get old.memory.words p) object_record new.max_writes) (changes.records p disjoint)
    ∙ ap (writing (slice_get old.memory.words p) (slice_get old.records p)) same

pub changes-same : {K : Type 0} (m : Movement (Option ℤ) K) (v : Vector (Option ℤ)) (x : Option ℤ) → (objects_after_push m v x).max_writes ≡ m.max_writes
changes-same m v x = elim (cases_Bool (is_full v)) [ inl full ↦ rw full refl | inr begun ↦ rw begun refl ]

-- one more number in a row group that has been begun makes no object
pub count-same : {K : Type 0} (m : Movement (Option ℤ) K) (v : Vector (Option ℤ)) (x : Option ℤ) → is_full v ≡ false → length (objects_after_push m v x).records ≡ length m.records
count-same m v x begun = rw begun (length-with m.records (object_at v v.len) (λ object_record. record object_record { version = object_record.version + 1 }))

-- two columns are disjoint in either order
pub disjoint-turned : (v w : Vector (Option ℤ)) → AreDisjoint v w → AreDisjoint w v
disjoint-turned v w disjoint k d within j e inside same = disjoint j e inside k d within (sym same)

-- the object of the next place exists
pub next-within : (v : Vector (Option ℤ)) → IsShaped v → is_full v ≡ false → v.len / v.size < length v.objects
next-within v shaped begun =
    let short : v.len ≢ length v.objects * v.size = λ e. absurd (let full = sym (eq-eqb v.len (length v.objects * v.size) e) ∙ begun in cc) in
    div_below v.len v.size (length v.objects) shaped.some (omega (arith, shaped.enough, short))

-- two columns with begun row groups have different objects for their next places
pub next-disjoint : (v w : Vector (Option ℤ)) → IsShaped v → IsShaped w → is_full v ≡ false → is_full w ≡ false → AreDisjoint v w → object_at w w.len ≢ object_at v v.len
next-disjoint v w shaped other begun begun_too disjoint same = disjoint (v.len / v.size) 0 (next-within v shaped begun) (w.len / w.size) 0 (next-within w other begun_too) (sym same)

-- if a number may be pushed within a begun row group, no push is refused
pub none-refused : (due : Option Refusal) (full : Bool) (e : Refusal) → due ≡ None → full ≡ false → (due ≡ Some e) ⊎ ((due ≡ None) × (full ≡ true) × (e ≡ refusal.NoMemory)) → ⊥
none-refused due full e free begun (inl some) = absurd (let two = sym free ∙ some in cc)
none-refused due full e free begun (inr rest) = absurd (let two = sym begun ∙ rest.1 in cc)

-- a column with a begun row group, after one more number
pub begun-same : (c : Vector (Option ℤ)) (n o : ℕ) → is_full c ≡ false → after_push c n ≡ after_push c o
begun-same c n o begun = rw begun refl

pub begun-object : (c c' : Vector (Option ℤ)) (n : ℕ) → is_full c ≡ false → c' ≡ after_push c n → object_at c' c.len ≡ object_at c c.len
begun-object c c' n begun is = rw (is, begun) refl

-- the columns with one more number each: the first, then the rest
pub pushed-first : (n k : ℕ) (c c' : Vector (Option ℤ)) (rest rest' columns : NumberColumns) → columns ≡ c ∷ rest → c' ≡ after_push c n → rest' ≡ after_push_all k rest → k ≡ n + 1 → c' ∷ rest' ≡ after_push_all n columns
pushed-first n k c c' rest rest' columns is first others step =
    ap (λ d. d ∷ rest') first ∙ ap (λ l. after_push c n ∷ l) (others ∙ ap (λ i. after_push_all i rest) step) ∙ ap (after_push_all n) (sym is)

-- columns of one table, all of which begin row groups, or none
module _ (lists : NumberLists) (columns : NumberColumns) (are : AreNumberColumns lists columns) (shaped : All IsShaped columns) where
  alike : (c d : Vector (Option ℤ)) → IsShaped c → IsShaped d → (c.size ≡ d.size) × (c.len ≡ d.len) → is_full c ≡ true → is_full d ≡ true
  alike c d one other same_length = both-begin c d one other same_length.0 same_length.1

  pub none-begin : all_begin columns ≡ false → All (λ (c : Vector (Option ℤ)). is_full c ≡ false) columns
  none-begin = none-pass is_full IsShaped (λ c d. (c.size ≡ d.size) × (c.len ≡ d.len)) (λ c d same_length. (sym same_length.0, sym same_length.1)) alike columns shaped are.same_length

-- with one more number each, the columns still have the same length and the same size of row groups
pub pushed-size : (c : Vector (Option ℤ)) (n : ℕ) → (after_push c n).size ≡ c.size
pushed-size c n = elim (cases_Bool (is_full c)) [ inl full ↦ rw full refl | inr begun ↦ rw begun refl ]

pub pushed-len : (c : Vector (Option ℤ)) (n : ℕ) → (after_push c n).len ≡ c.len + 1
pushed-len c n = elim (cases_Bool (is_full c)) [ inl full ↦ rw full refl | inr begun ↦ rw begun refl ]

same_length-all_disjoint : (c : Vector (Option ℤ)) (k n : ℕ) (rest : NumberColumns) → All (λ d. (c.size ≡ d.size) × (c.len ≡ d.len)) rest → All (λ d. ((after_push c k).size ≡ d.size) × ((after_push c k).len ≡ d.len)) (after_push_all n rest)
same_length-all_disjoint c k n [] same_length = All-nil (λ d. ((after_push c k).size ≡ d.size) × ((after_push c k).len ≡ d.len))
same_length-all_disjoint c k n (d ∷ rest) same_length =
    let pair = All-head (λ d. (c.size ≡ d.size) × (c.len ≡ d.len)) d rest same_length in
    All-cons (λ d. ((after_push c k).size ≡ d.size) × ((after_push c k).len ≡ d.len)) (after_push d n) (after_push_all (n + 1) rest)
    (pushed-size c k ∙ pair.0 ∙ sym (pushed-size d n), pushed-len c k ∙ ap (λ l. l + 1) pair.1 ∙ sym (pushed-len d n))
    (same_length-all_disjoint c k (n + 1) rest (All-tail (λ d. (c.size ≡ d.size) × (c.len ≡ d.len)) d rest same_length))

pub same_length-pushed : (n : ℕ) (columns : NumberColumns) → AllPairs (λ c d. (c.size ≡ d.size) × (c.len ≡ d.len)) columns → AllPairs (λ c d. (c.size ≡ d.size) × (c.len ≡ d.len)) (after_push_all n columns)
same_length-pushed n [] same_length = same_length
same_length-pushed n (c ∷ rest) same_length =
    AllPairs-cons (λ c d. (c.size ≡ d.size) × (c.len ≡ d.len)) (after_push c n) (after_push_all (n + 1) rest)
    (same_length-all_disjoint c n (n + 1) rest (pairs-head (λ c d. (c.size ≡ d.size) × (c.len ≡ d.len)) c rest same_length))
    (same_length-pushed (n + 1) rest (pairs-tail (λ c d. (c.size ≡ d.size) × (c.len ≡ d.len)) c rest same_length))

-- which refusal applies if the row groups have been begun
pub due-begun : {K : Type 0} (m : Movement (Option ℤ) K) (columns : NumberColumns) → all_begin columns ≡ false → push_numbers_refusal m columns ≡ option_or (first_of (absents m columns)) (first_of (some_written_out m columns ∷ []))
due-begun m columns begun =
    ap (λ (b : Bool). first_of (cond b (no_space_for_groups m columns ∷ []) (absents m columns ++ some_written_out m columns ∷ []))) begun
    ∙ first-append (absents m columns) (some_written_out m columns ∷ [])

-- if `push_numbers` is not refused and the row groups have been begun, no push to a single column is refused
or-none : (a b : Option Refusal) → option_or a b ≡ None → (None ≡ a) × (None ≡ b)
or-none (Some e) b is = absurd cc
or-none None b is = (refl, sym is)

not-due : (b : Bool) (e : Refusal) → None ≡ first_of ((b, e) ∷ []) → b ≡ false
not-due true e free = absurd cc
not-due false e free = refl

neither-due : (here used : Bool × Refusal) → None ≡ first_of (here ∷ []) → used.0 ≡ false → None ≡ first_of (here ∷ used ∷ [])
neither-due (true, e) used free unused = absurd cc
neither-due (false, e) (true, f) free unused = absurd cc
neither-due (false, e) (false, f) free unused = refl

each-free : {K : Type 0} (m : Movement (Option ℤ) K) (columns : NumberColumns) → All (λ c. is_full c ≡ false) columns → None ≡ first_of (absents m columns) → list_any (λ c. (written_out m (object_at c c.len)).0) columns ≡ false → All (λ c. push_refusal m c ≡ None) columns
each-free m [] begun here free = All-nil (λ c. push_refusal m c ≡ None)
each-free m (c ∷ rest) begun here free =
    let first = two-free (absent m (object_at c c.len)) (absents m rest) here in
    let parts = or_parts (written_out m (object_at c c.len)).0 (list_any (λ d. (written_out m (object_at d d.len)).0) rest) free in
    All-cons (λ d. push_refusal m d ≡ None) c rest
    (push-free m c (All-head (λ d. is_full d ≡ false) c rest begun) (neither-due (absent m (object_at c c.len)) (written_out m (object_at c c.len)) first.0 parts.0))
    (each-free m rest (All-tail (λ d. is_full d ≡ false) c rest begun) first.1 parts.1)

pub all-free : {K : Type 0} (m : Movement (Option ℤ) K) (columns : NumberColumns) → All (λ c. is_full c ≡ false) columns → all_begin columns ≡ false → push_numbers_refusal m columns ≡ None → All (λ c. push_refusal m c ≡ None) columns
all-free m columns each begun free =
    let both = or-none (first_of (absents m columns)) (first_of (some_written_out m columns ∷ [])) (sym (due-begun m columns begun) ∙ free) in
    each-free m columns each both.0 (not-due (some_written_out m columns).0 (some_written_out m columns).1 both.1)
