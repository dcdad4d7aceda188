-- The tickets of columns, collected one column after another.
use Rattle.std.proofs.Common.{◌≡◌, ◌⊎◌, inl, inr, ℕ, zero, suc, ◌+◌, ◌<◌, ◌≤◌, Bool, true, false, List, [], ◌∷◌, ◌++◌, length, drop, Option, None, Some, refl, sym, ap, subst, ◌∙◌, arith}
use Rattle.std.specs.Prelude.{◌==◌, ◌&&◌, cond, is_none, option_map, slice_get, All, IfSome, IsSomeAnd}
use Rattle.std.specs.List.{find, cons_option}
use Rattle.std.specs.Option.{option_and_then, option_or}
use Rattle.std.proofs.lemmas.Bool.{cases_order}
use Rattle.std.proofs.lemmas.Bool.Decides.{nat_tests}
use Rattle.std.proofs.lemmas.List.{drop_all}
use Rattle.std.proofs.lemmas.List.Elements.{All-append}
use Rattle.std.proofs.lemmas.List.Folds.{find-append}
use Rattle.std.proofs.lemmas.Option.{none-some, same_Some, slice_get_past, get_or_from_slice_get}
use Rattle.far_types.specs.declared.refusal.Refusal.{Refusal}
use Rattle.far_types.specs.declared.refusal.Refusal.TheVariants as refusal
use Rattle.far_types.specs.declared.spec.Spec.{Spec}
use Rattle.far_types.specs.Bounds.{needs}
use Rattle.far_types.specs.FirstOf.{first_of}
use Rattle.far_types.specs.Table.{in_group}
use Rattle.far_codec.specs.Lent.{IsForm}
use Rattle.far_offload.specs.Columns.{cells_meant}
use Rattle.far_scopes.proofs.RefusingWrites.{next-is}
use Rattle.far_rows.specs.Places.{places_in}
use Rattle.far_aggregates.specs.Lending.{IsOfPlaces}
use Rattle.far_evacuator.proofs.MovementCopies.{mapped}
use Rattle.far_rows.specs.declared.column_index.ColumnIndex.{ColumnIndex}
use Rattle.far_rows.specs.declared.object.Object.{Object}
use Rattle.far_rows.specs.Rows.{Rows, object_of}
use Rattle.far_rows.specs.Moving.{object_at, object_in, object_refusal}
use Rattle.far_rows.specs.Copies.{copy_of, copy_in}
use Rattle.far_table.specs.Offloading.{ticket_for, dirty_from}
use Rattle.far_table.specs.FarGroups.{contents_under, IsCopy}
use Rattle.far_table.proofs.EditsSetRefusals.{found-at}

-- a property of the images of values is a property of a mapped option
pub if-mapped : {A K : Type 0} (f : A → K) (found : Option A) (P : K → Type 0) → IfSome found (λ a. P (f a)) → IfSome (option_map f found) P
if-mapped f None P holds = tt
if-mapped f (Some a) P holds = holds

-- mapping an option keeps whether it is empty
pub none-mapped : {A K : Type 0} (f : A → K) (found : Option A) (is : Option K) (b : Bool) → option_map f found ≡ is → is_none found ≡ b → is_none is ≡ b
none-mapped f None is b same none = ap is_none (sym same) ∙ none
none-mapped f (Some a) is b same none = ap is_none (sym same) ∙ none

pub and-none : (wanted none : Bool) → none ≡ false → (wanted && none) ≡ false
and-none true none is = is
and-none false none is = refl

-- a property of the needed columns below k, and of column k if it is needed, holds for all below k + 1
pub one-needed : (P : ℕ → Type 0) (spec : Spec) (k : ℕ) → ((column : ℕ) → column < k → needs spec column ≡ true → P column) → (needs spec k ≡ true → P k) → (column : ℕ) → column < k + 1 → needs spec column ≡ true → P column
one-needed P spec k below here column under = by (cases_order column k) where
  by : (column ≡ k) ⊎ ((column < k) ⊎ (k < column)) → needs spec column ≡ true → P column
  by (inl same) wanted = subst P (sym same) (here (ap (needs spec) (sym same) ∙ wanted))
  by (inr (inl less)) wanted = below column less wanted
  by (inr (inr more)) wanted = absurd (omega (arith, under, more))

pub not-needed : {A : Type 0} (spec : Spec) (k : ℕ) (b : Bool) → b ≡ needs spec k → b ≡ false → needs spec k ≡ true → A
not-needed spec k b same idle wanted = absurd (let clash : true ≡ false = sym wanted ∙ sym same ∙ idle in cc)

-- a property of all tickets is a property of the one that is found
pub found-among : {A : Type 0} (P : A → Type 0) (test : A → Bool) (xs : List A) → All P xs → IfSome (find test xs) P
found-among P test [] all = tt
found-among P test (x ∷ xs) all = by (test x) (found-among P test xs (λ k d within. all (suc k) d (omega (arith, within)))) where
  by : (b : Bool) → IfSome (find test xs) P → IfSome (cond b (Some x) (find test xs)) P
  by true others = all 0 x (omega arith)
  by false others = others

-- if the look-up is refused, there is no object
pub none-refused : {K : Type 0} (r : Rows K) (column group : ℕ) (e : Refusal) → Some e ≡ object_refusal r column group → object_at r column group ≡ None
none-refused r column group e due = by (object_at r column group) refl where
  by : (found : Option Object) → object_at r column group ≡ found → object_at r column group ≡ None
  by None is = is
  by (Some found) is = with-column_index (slice_get r.column_indexes column) refl where
    with-column_index : (column_index : Option ColumnIndex) → slice_get r.column_indexes column ≡ column_index → object_at r column group ≡ None
    with-column_index None lies = ap (option_and_then (λ (s : ColumnIndex). option_map (object_in s) (object_of r s group))) lies
    with-column_index (Some s) lies =
        let free : object_refusal r column group ≡ None = λ i. first_of ((is_none (lies i), refusal.NoColumn) ∷ (is_none (is i), refusal.OutOfRange) ∷ []) in
        absurd (none-some e (sym free ∙ sym due))

module _ {K : Type 0} where
  or-map : (f : ℕ × K → K) (a b : Option (ℕ × K)) → option_map f (option_or a b) ≡ option_or (option_map f a) (option_map f b)
  or-map f None b = refl
  or-map f (Some x) b = refl

  or-none : (a : Option K) → option_or a None ≡ a
  or-none None = refl
  or-none (Some x) = refl

  -- the tickets after one more column, which may have none
  abbrev pub with_copy : List (ℕ × K) → ℕ → Option K → List (ℕ × K)
  with_copy tickets column copy = tickets ++ cons_option (option_map {U = ℕ × K} (λ ticket. (column, ticket)) copy) []

  -- the appended ticket is the one that was found
  pub with-found : {A : Type 0} (f : A → K) (tickets new : List (ℕ × K)) (column : ℕ) (found : Option A) → new ≡ tickets ++ cons_option (option_map {U = ℕ × K} (λ a. (column, f a)) found) [] → new ≡ with_copy tickets column (option_map f found)
  with-found f tickets new column None is = is
  with-found f tickets new column (Some a) is = is

  one : (column k : ℕ) (copy : Option K) → ticket_for (cons_option (option_map {U = ℕ × K} (λ ticket. (column, ticket)) copy) []) k ≡ cond (column == k) copy None
  one column k None = elim (column == k) as (λ b. ◌≡◌ {A = Option K} None (cond b None None)) [ true ↦ refl | false ↦ refl ]
  one column k (Some t) = elim (column == k) as (λ b. option_map (λ (x : ℕ × K). x.1) (cond b (Some (column, t)) None) ≡ cond b (Some t) None) [ true ↦ refl | false ↦ refl ]

  added : (tickets : List (ℕ × K)) (column k : ℕ) (copy : Option K) → ticket_for (with_copy tickets column copy) k ≡ option_or (ticket_for tickets k) (cond (column == k) copy None)
  added tickets column k copy =
      let more = cons_option (option_map {U = ℕ × K} (λ ticket. (column, ticket)) copy) [] in
      let test : ℕ × K → Bool = λ ticket. ticket.0 == k in
      ap (option_map (λ (x : ℕ × K). x.1)) (find-append test tickets more)
      ∙ or-map (λ x. x.1) (find test tickets) (find test more)
      ∙ ap (option_or (ticket_for tickets k)) (one column k copy)

  -- a ticket with the same content as a copy's is a copy too
  pub same-copy : (content : K → List ℕ) (r : Rows K) (group column : ℕ) (own ticket : K) → content own ≡ content ticket → IsCopy content r group column own → IsCopy content r group column ticket
  same-copy content r group column own ticket same copy = record {
    form = subst IsForm same copy.form;
    cells = subst (λ (form : List ℕ). IsOfPlaces (in_group r.size group (places_in content r)) (column, cells_meant form)) same copy.cells;
  }

  -- a property of all tickets is a property of a column's ticket
  pub ticket-among : (P : K → Type 0) (tickets : List (ℕ × K)) (column : ℕ) (t : K) → All (λ ticket. P ticket.1) tickets → ticket_for tickets column ≡ Some t → P t
  ticket-among P tickets column t all is = by (find (λ (ticket : ℕ × K). ticket.0 == column) tickets) (found-among (λ (ticket : ℕ × K). P ticket.1) (λ ticket. ticket.0 == column) tickets all) is where
    by : (found : Option (ℕ × K)) → IfSome found (λ ticket. P ticket.1) → option_map (λ (ticket : ℕ × K). ticket.1) found ≡ Some t → P t
    by None holds same = absurd (none-some t same)
    by (Some ticket) holds same = subst P (same_Some ticket.1 t same) holds

  -- the columns below n have their tickets, and the others have none
  pub record AreTicketsBelow (want : ℕ → Option K) (n : ℕ) (tickets : List (ℕ × K)) : Type 0 where
    pub below : (k : ℕ) → k < n → ticket_for tickets k ≡ want k
    pub rest : (k : ℕ) → n ≤ k → ticket_for tickets k ≡ None

  pub none-below : (want : ℕ → Option K) → AreTicketsBelow want 0 []
  none-below want = record { below = λ k under. absurd (omega (arith, under)); rest = λ k past. refl }

  pub one-more : (want : ℕ → Option K) (n : ℕ) (tickets : List (ℕ × K)) (copy : Option K) → AreTicketsBelow want n tickets → copy ≡ want n → AreTicketsBelow want (n + 1) (with_copy tickets n copy)
  one-more want n tickets copy are is = record {
    below = λ k under. by k under (cases_order k n);
    rest = λ k past.
        let other : (n == k) ≡ false = grind (arith, nat_tests) in
        added tickets n k copy ∙ (λ i. option_or (are.rest k (omega (arith, past)) i) (cond (other i) copy None));
  } where
    by : (k : ℕ) → k < n + 1 → (k ≡ n) ⊎ ((k < n) ⊎ (n < k)) → ticket_for (with_copy tickets n copy) k ≡ want k
    by k under (inl same) =
        let here : (n == n) ≡ true = grind (arith, nat_tests) in
        subst (λ (c : ℕ). ticket_for (with_copy tickets n copy) c ≡ want c) (sym same)
        (added tickets n n copy ∙ (λ i. option_or (are.rest n (omega arith) i) (cond (here i) copy None)) ∙ is)
    by k under (inr (inl less)) =
        let other : (n == k) ≡ false = grind (arith, nat_tests) in
        added tickets n k copy ∙ ap (λ b. option_or (ticket_for tickets k) (cond b copy None)) other ∙ or-none (ticket_for tickets k) ∙ are.below k less
    by k under (inr (inr more)) = absurd (omega (arith, under, more))

  -- at the end each column has its ticket
  pub all-below : (want : ℕ → Option K) (n : ℕ) (tickets : List (ℕ × K)) → AreTicketsBelow want n tickets → ((k : ℕ) → n ≤ k → want k ≡ None) → (k : ℕ) → ticket_for tickets k ≡ want k
  all-below want n tickets are past k = by (cases_order k n) where
    by : (k ≡ n) ⊎ ((k < n) ⊎ (n < k)) → ticket_for tickets k ≡ want k
    by (inl same) = are.rest k (omega (arith, same)) ∙ sym (past k (omega (arith, same)))
    by (inr (inl less)) = are.below k less
    by (inr (inr more)) = are.rest k (omega (arith, more)) ∙ sym (past k (omega (arith, more)))

  -- a property of all tickets and of the new one is a property of all
  pub all-with : (P : ℕ × K → Type 0) (tickets : List (ℕ × K)) (column : ℕ) (copy : Option K) → All P tickets → IfSome copy (λ ticket. P (column, ticket)) → All P (with_copy tickets column copy)
  all-with P tickets column None all new = All-append P tickets [] all (λ k d within. absurd (omega (arith, within)))
  all-with P tickets column (Some t) all new = All-append P tickets ((column, t) ∷ []) all only where
    only : All P ((column, t) ∷ [])
    only zero d within = new
    only (suc k) d within = absurd (omega (arith, within))

  -- the far store has no copy of a column past the last
  pub no-copy : (r : Rows K) (column group : ℕ) → length r.column_indexes ≤ column → copy_of r column group ≡ None
  no-copy r column group past = ap (λ (found : Option ColumnIndex). option_and_then (copy_in r) (option_and_then (λ (s : ColumnIndex). option_map (object_in s) (object_of r s group)) found)) (slice_get_past r.column_indexes column past)

  pub no-needed : (r : Rows K) (spec : Spec) (group column : ℕ) → length r.column_indexes ≤ column → cond (needs spec column) (copy_of r column group) None ≡ None
  no-needed r spec group column past = ap (λ (copy : Option K). cond (needs spec column) copy None) (no-copy r column group past) ∙ elim (needs spec column) as (λ b. ◌≡◌ {A = Option K} (cond b None None) None) [ true ↦ refl | false ↦ refl ]

  -- the content of a column is found exactly if its ticket is
  pub content-for : (content : K → List ℕ) (tickets : List (ℕ × K)) (column : ℕ) → option_map (λ (x : ℕ × List ℕ). x.1) (find (λ x. x.0 == column) (contents_under content tickets)) ≡ option_map content (ticket_for tickets column)
  content-for content [] column = refl
  content-for content (ticket ∷ tickets) column =
      elim (ticket.0 == column) as (λ b. option_map (λ (x : ℕ × List ℕ). x.1) (cond b (Some (ticket.0, content ticket.1)) (find (λ x. x.0 == column) (contents_under content tickets))) ≡ option_map content (option_map (λ (x : ℕ × K). x.1) (cond b (Some ticket) (find (λ x. x.0 == column) tickets)))) [
        | true ↦ refl
        | false ↦ content-for content tickets column
      ]

  -- these bytes are the far form of this column of this row group
  pub record IsReadOf (content : K → List ℕ) (r : Rows K) (group column : ℕ) (form : List ℕ) : Type 0 where
    pub is_form : IsForm form
    pub cells : IsOfPlaces (in_group r.size group (places_in content r)) (column, cells_meant form)

  module _ (content : K → List ℕ) (r : Rows K) (group column : ℕ) (tickets : List (ℕ × K)) (contents : List (ℕ × List ℕ)) (same : contents ≡ contents_under content tickets) (copied : IsSomeAnd (ticket_for tickets column) (IsCopy content r group column)) where
    of-ticket : option_map (λ (x : ℕ × List ℕ). x.1) (find (λ x. x.0 == column) contents) ≡ option_map content (ticket_for tickets column)
    of-ticket = ap (λ (cs : List (ℕ × List ℕ)). option_map (λ (x : ℕ × List ℕ). x.1) (find (λ x. x.0 == column) cs)) same ∙ content-for content tickets column

    -- the content that is found is the far form of the column
    pub read-copy : (form : List ℕ) → Some form ≡ option_map (λ (x : ℕ × List ℕ). x.1) (find (λ x. x.0 == column) contents) → IsReadOf content r group column form
    read-copy form found =
        let ticket = mapped content (ticket_for tickets column) form (sym (found ∙ of-ticket)) in
        let copy : IsCopy content r group column ticket.0 = subst (λ (t : Option K). IsSomeAnd t (IsCopy content r group column)) ticket.1 copied in
        record {
          is_form = subst IsForm ticket.2 copy.form;
          cells = subst (λ (bytes : List ℕ). IsOfPlaces (in_group r.size group (places_in content r)) (column, cells_meant bytes)) ticket.2 copy.cells;
        }

    -- the content of a column with a copy is found
    pub one-read : {A : Type 0} → None ≡ option_map (λ (x : ℕ × List ℕ). x.1) (find (λ x. x.0 == column) contents) → A
    one-read none = by (ticket_for tickets column) (none ∙ of-ticket) copied where
      by : {A : Type 0} (ticket : Option K) → None ≡ option_map content ticket → IsSomeAnd ticket (IsCopy content r group column) → A
      by None is there = absurd there
      by (Some t) is there = absurd (none-some (content t) is)

  module _ (r : Rows K) (spec : Spec) (g : ℕ) where
    -- the refusal by the columns from k on
    abbrev pub left : ℕ → Option Refusal
    left k = first_of (dirty_from r spec g k (drop k r.column_indexes))

    stands : (k : ℕ) → k < length r.column_indexes → (s : ColumnIndex) × (drop k r.column_indexes ≡ s ∷ drop (k + 1) r.column_indexes)
    stands k below = let found = found-at r.column_indexes k below in (found.0, next-is r.column_indexes k found.0 below (sym (get_or_from_slice_get r.column_indexes k found.0 found.0 found.1)))

    abbrev pub lacks : ℕ → Bool
    lacks k = needs spec k && is_none (copy_of r k g)

    next : (k : ℕ) → k < length r.column_indexes → left k ≡ cond (lacks k) (Some refusal.StaleJob) (left (k + 1))
    next k below = ap (λ (column_indexes : List ColumnIndex). first_of (dirty_from r spec g k column_indexes)) (stands k below).1

    pub step-copied : (k : ℕ) → k < length r.column_indexes → lacks k ≡ false → left k ≡ left (k + 1)
    step-copied k below has = next k below ∙ ap (λ b. cond b (Some refusal.StaleJob) (left (k + 1))) has

    pub step-dirty : (k : ℕ) → k < length r.column_indexes → lacks k ≡ true → left k ≡ Some refusal.StaleJob
    step-dirty k below has = next k below ∙ ap (λ b. cond b (Some refusal.StaleJob) (left (k + 1))) has

    pub none-left : (k : ℕ) → length r.column_indexes ≤ k → left k ≡ None
    none-left k past = ap (λ (column_indexes : List ColumnIndex). first_of (dirty_from r spec g k column_indexes)) (drop_all k r.column_indexes past)
