-- The number of row groups that are pending in the aggregates of a table.
use Rattle.std.proofs.Common.{◌≡◌, ℕ, zero, suc, ◌+◌, ◌*◌, ◌/◌, ◌-◌, ◌<◌, ◌≤◌, ◌^◌, true, false, List, [], ◌∷◌, length, Option, None, Some, refl, sym, subst, arith, mul-le-mul_left}
use Rattle.std.proofs.Math.Nat.{div-lt_iff_lt-mul, mul-one}
use Rattle.std.specs.Prelude.{option_map, replicate, slice_get, slice_set}
use Rattle.far_types.specs.declared.spec.Spec.{Spec}
use Rattle.far_types.specs.Table.{Table, Registered, groups}
use Rattle.far_aggregates.specs.Aggregates.{is_pending_in, flattened, after_scan}
use Rattle.far_aggregates.proofs.AccumulatorsRegistry.{count-replicate}
use Rattle.far_aggregates.proofs.ScansLaws.{left-cleared}
use Rattle.far_table.specs.Watching.{group_count}
use Rattle.far_shared.specs.Fours.{pending_in}

-- an aggregate as it is when it is registered: all row groups that hold a place are pending
abbrev pub registered_now : Spec → Table → Registered
registered_now spec table = record {
  spec = spec;
  registration = table.registrations;
  pending = replicate (group_count table) true;
}

pub zero-least : (n : ℕ) → 0 ≤ n
zero-least n = omega arith

pub at-most : (n m most : ℕ) → n ≤ m → m ≤ most → n ≤ most
at-most n m most few fewer = omega (arith, few, fewer)

pub no-more : (n m : ℕ) → n ≡ m → n ≤ m
no-more n m same = omega (arith, same)

one-less : (n m : ℕ) → n + 1 ≡ m → n ≤ m
one-less n m less = omega (arith, less)

-- the number of pending row groups in four stripes fits 32 bits
pub four-few : (a b c d : ℕ) → a ≤ 2 ^ 24 → b ≤ 2 ^ 24 → c ≤ 2 ^ 24 → d ≤ 2 ^ 24 → a + b + c + d < 2 ^ 32
four-few a b c d one two three four = omega (arith, one, two, three, four)

pub not-past : (n : ℕ) → n < 2 ^ 32 → 2 ^ 32 ≤ n → ⊥
not-past n few past = omega (arith, few, past)

below-next : (places size wide next : ℕ) → 1 ≤ size → places ≤ wide → next ≡ wide + size → places + size - 1 < next
below-next places size wide next some wider is = omega (arith, some, wider, is)

-- there are at most as many row groups with places as places
groups-few : (size places : ℕ) → 1 ≤ size → groups size places ≤ places
groups-few size places some =
    let wider : places * 1 ≤ places * size = mul-le-mul_left {m = 1} {n = size} places some in
    let wide : places ≤ places * size = subst (λ n. n ≤ places * size) (mul-one places) wider in
    let next : (places + 1) * size ≡ places * size + size = omega arith in
    let below : places + size - 1 < (places + 1) * size = below-next places size (places * size) ((places + 1) * size) some wide next in
    let many : 0 < size = omega (arith, some) in
    let less : (places + size - 1) / size < places + 1 = (div-lt_iff_lt-mul {k = size} {x = places + size - 1} {y = places + 1} many).1 below in
    omega (arith, less)

-- a new aggregate has at most as many pending row groups as places
pub left-registered : (spec : Spec) (table : Table) → 1 ≤ table.limits.group → pending_in (Some (registered_now spec table)) ≤ length table.places
left-registered spec table some =
    subst (λ n. n ≤ length table.places) (sym (count-replicate (groups table.limits.group (length table.places)))) (groups-few table.limits.group (length table.places) some)

abbrev no_aggregate : Option Registered
no_aggregate = None

-- in a table without aggregates no row group is pending
pub empty-few : (n a : ℕ) → pending_in (flattened (slice_get (replicate n no_aggregate) a)) ≤ 2 ^ 24
empty-few zero a = zero-least (2 ^ 24)
empty-few (suc n) zero = zero-least (2 ^ 24)
empty-few (suc n) (suc a) = empty-few n a

-- if each aggregate has at most 2 ^ 24 pending row groups, so it is after another one is written
pub set-few : (xs : List (Option Registered)) (a b : ℕ) (x : Option Registered) → pending_in x ≤ 2 ^ 24 → ((k : ℕ) → pending_in (flattened (slice_get xs k)) ≤ 2 ^ 24)
    → pending_in (flattened (slice_get (slice_set xs a x) b)) ≤ 2 ^ 24
set-few [] a b x here few = few b
set-few (y ∷ ys) zero zero x here few = here
set-few (y ∷ ys) zero (suc b) x here few = few (suc b)
set-few (y ∷ ys) (suc a) zero x here few = few zero
set-few (y ∷ ys) (suc a) (suc b) x here few = set-few ys a b x here (λ k. few (suc k))

-- if an aggregate is replaced by one with at most as many pending row groups, no number grows
pub set-fewer : (xs : List (Option Registered)) (a b : ℕ) (x : Option Registered) → pending_in x ≤ pending_in (flattened (slice_get xs a)) → pending_in (flattened (slice_get (slice_set xs a x) b)) ≤ pending_in (flattened (slice_get xs b))
set-fewer [] a b x less = no-more _ _ refl
set-fewer (y ∷ ys) zero zero x less = less
set-fewer (y ∷ ys) zero (suc b) x less = no-more _ _ refl
set-fewer (y ∷ ys) (suc a) zero x less = no-more _ _ refl
set-fewer (y ∷ ys) (suc a) (suc b) x less = set-fewer ys a b x less

-- scanning a row group leaves at most as many pending
pub scanned-fewer : (aggregate : Option Registered) (g : ℕ) → is_pending_in aggregate g ≡ true → pending_in (option_map (after_scan g) aggregate) ≤ pending_in aggregate
scanned-fewer None g left = absurd (let off : false ≡ true = left in cc)
scanned-fewer (Some r) g left = one-less _ _ (left-cleared r.pending g left)
