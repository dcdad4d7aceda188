-- A table proposes at most two row groups.
use Rattle.std.proofs.Common.{◌≡◌, ◌∙◌, ℕ, ◌+◌, ◌-◌, ◌≤◌, Bool, true, false, ℤ, pos, ◌+ℤ◌, List, [], ◌∷◌, drop, length, take, Option, None, Some, sym, subst, arith}
use Rattle.std.specs.Prelude.{if◌then◌else◌, min, filter_map}
use Rattle.std.specs.List.{cons_option}
use Rattle.std.proofs.lemmas.List.{take_all}
use Rattle.far_types.specs.Table.{groups}
use Rattle.far_prefetcher.specs.Strides.{difference, existing, history_of, is_stride, next_two, proposed, proposed_after}
use Rattle.far_frame.specs.declared.step.Reply.{Reply}
use Rattle.far_frame.specs.declared.step.Reply.TheVariants as reply
use Rattle.far_frame.specs.declared.step.Step.TheVariants as step
use Rattle.far_frame.specs.Lending.{next_groups}
use Rattle.far_c.specs.Outcomes.{IsServed}
use Rattle.far_c.specs.Proposals.{AreProposed, groups_in}
use Rattle.far_c.specs.Replies.{IsNext}
use Rattle.far_c.specs.TableState.{TableState}

-- filtering a list does not make it longer
cons-few : (found : Option ℕ) (rest : List ℕ) (n : ℕ) → length rest ≤ n → length (cons_option found rest) ≤ n + 1
cons-few (Some y) rest n few = omega (arith, few)
cons-few None rest n few = omega (arith, few)

kept-few : (f : ℤ → Option ℕ) (xs : List ℤ) → length (filter_map f xs) ≤ length xs
kept-few f [] = omega arith
kept-few f (x ∷ xs) = (let more = cons-few (f x) (filter_map f xs) (length xs) (kept-few f xs) in omega (arith, more))

either-few : (b : Bool) (xs : List ℕ) → length xs ≤ 2 → length (if b then xs else []) ≤ 2
either-few true xs few = few
either-few false xs few = omega arith

few-after : (n : ℕ) (history : List ℕ) → length (proposed_after n history) ≤ 2
few-after n [] = omega arith
few-after n (a ∷ []) = omega arith
few-after n (a ∷ b ∷ []) = omega arith
few-after n (a ∷ b ∷ c ∷ []) = omega arith
few-after n (a ∷ b ∷ c ∷ d ∷ []) = either-few (is_stride (difference a b) (difference b c) (difference c d)) (next_two n c d) (kept-few (existing n) ((pos d +ℤ difference c d) ∷ (pos d +ℤ difference c d +ℤ difference c d) ∷ []))
few-after n (a ∷ b ∷ c ∷ d ∷ e ∷ rest) = omega arith

few-proposed : (n : ℕ) (history : List ℕ) → length (proposed n history) ≤ 2
few-proposed n history = few-after n (drop (length history - 4) history)

pub groups-written : (column : ℕ) (old new : TableState) (given : Reply) (written : List ℕ) (count : ℕ) → IsServed (step.Prefetch column) given old new → IsNext given
    → count ≡ min (length (groups_in given)) 2 → take count written ≡ take 2 (groups_in given) → AreProposed column written count old new
groups-written column old new (reply.Next found) written count served is counted taken =
    let table = old.world.state.table in
    let history = history_of old.world.state.accesses column in
    let items : found.items ≡ next_groups table old.world.state.accesses column = served.0.0.1 in
    let few : length found.items ≤ 2 = subst (λ (l : List ℕ). length l ≤ 2) (sym items) (few-proposed (groups table.limits.group (length table.places)) history) in
    let all : count ≡ length found.items = omega (arith, counted, few) in
    (reply.Next found, tt, served, all, taken ∙ take_all 2 found.items few)
groups-written column old new (reply.Refused why) written count served is counted taken = absurd is
groups-written column old new (reply.Place place) written count served is counted taken = absurd is
groups-written column old new reply.Done written count served is counted taken = absurd is
groups-written column old new (reply.Aggregate a) written count served is counted taken = absurd is
groups-written column old new (reply.Answer answer) written count served is counted taken = absurd is
groups-written column old new (reply.Ints pieces) written count served is counted taken = absurd is
groups-written column old new (reply.Texts pieces) written count served is counted taken = absurd is
groups-written column old new (reply.Job n) written count served is counted taken = absurd is
