-- What the gauge reads of a history of inserts.
use Rattle.std.proofs.Common.{◌≡◌, ℕ, zero, suc, ℤ, pos, ◌+ℤ◌, List, [], ◌∷◌, ◌++◌, true, map, length, replicate, Some, slice_get, refl, ap, ◌∙◌, length-append, one-add, arith}
use lib.ListN.{length-replicate}
use Rattle.far_types.specs.declared.edit.Edit.TheVariants as edit
use Rattle.far_types.specs.declared.spec.Spec.{Spec}
use Rattle.far_types.specs.Answers.{int_sum, count_sum}
use Rattle.far_types.specs.Pairs.{Pair, pairs_of}
use Rattle.far_types.specs.Table.{Place, Table, empty_table, rows_of}
use Rattle.far_sessions.specs.Histories.{Planned, folded, gauge_of, replay, replay_on}
use Rattle.far_sessions.specs.Rule.{entry}
use Rattle.far_sessions.proofs.Histories.{replay_on-push}
use Rattle.far_shell.specs.Runs.{all_of, inserts, row_of_one, sum_of_rows}

-- the place of a row with the number 1
abbrev pub one_place : Place
one_place = record { cells = row_of_one; alive = true }

replicate-push : {A : Type 0} (n : ℕ) (x : A) → replicate n x ++ x ∷ [] ≡ replicate (suc n) x
replicate-push zero x = refl
replicate-push (suc n) x = ap (λ xs. x ∷ xs) (replicate-push n x)

inserts-length : (s n : ℕ) → length (inserts s n) ≡ n
inserts-length s zero = refl
inserts-length s (suc n) = (let e = length-append (inserts s n) (entry s (edit.Insert row_of_one) ∷ []) in let d = inserts-length s n in omega arith)

-- n inserts into an empty table append n such rows
pub insert-places : (table : Table) (s n : ℕ) → table.places ≡ [] → (replay_on table (inserts s n)).places ≡ replicate n one_place
insert-places table s zero none = none
insert-places table s (suc n) none =
    ap (λ (t : Table). t.places) (replay_on-push table (inserts s n) (entry s (edit.Insert row_of_one)))
    ∙ ap (λ (places : List Place). places ++ one_place ∷ []) (insert-places table s n none)
    ∙ replicate-push n one_place

-- the values of such rows are 1
ones : (n : ℕ) → map (λ (pair : Pair). pair.1) (pairs_of sum_of_rows (rows_of (replicate n one_place))) ≡ replicate n (pos 1)
ones zero = refl
ones (suc n) = ap (λ (values : List ℤ). pos 1 ∷ values) (ones n)

sum-of-ones : (n : ℕ) → int_sum (replicate n (pos 1)) ≡ pos n
sum-of-ones zero = refl
sum-of-ones (suc n) = ap (λ (sum : ℤ). pos 1 +ℤ sum) (sum-of-ones n) ∙ ap pos (one-add n)

pub count_sum-of-ones : (n : ℕ) → count_sum (replicate n (pos 1)) ≡ (n, pos n)
count_sum-of-ones n = λ k. (length-replicate n (pos 1) k, sum-of-ones n k)

-- of n inserts the gauge reads n edits, n rows and the sum n
pub gauge-of-inserts : (p : Planned) (s n : ℕ) → p.gauge ≡ sum_of_rows → gauge_of p (inserts s n) ≡ all_of n
gauge-of-inserts p s n is =
    let returned : folded p.gauge (replay p (inserts s n)).places ≡ (n, pos n) =
    ap (λ (gauge : Spec). folded gauge (replay p (inserts s n)).places) is
    ∙ ap (folded sum_of_rows) (insert-places (empty_table p.schema p.limits) s n refl)
    ∙ ap count_sum (ones n)
    ∙ count_sum-of-ones n in
    λ k. record { edits = inserts-length s n k; count = (returned k).0; sum = (returned k).1 }

-- a list whose elements all equal x
pub all-one : {A : Type 0} (xs : List A) (n : ℕ) (x : A) → length xs ≡ n → ((i : ℕ) (y : A) → slice_get xs i ≡ Some y → y ≡ x) → xs ≡ replicate n x
all-one {A = A} xs n x count each = go xs each ∙ ap (λ (m : ℕ). replicate m x) count
  where
    go : (ys : List A) → ((i : ℕ) (y : A) → slice_get ys i ≡ Some y → y ≡ x) → ys ≡ replicate (length ys) x
    go [] each = refl
    go (y ∷ ys) each = λ k. each 0 y refl k ∷ go ys (λ i z is. each (suc i) z is) k
