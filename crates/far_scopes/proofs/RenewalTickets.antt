-- The tickets of a renewal, one after another.
use Rattle.std.proofs.Common.{◌≡◌, ℕ, ◌+◌, ◌<◌, ◌≤◌, Bool, true, false, inl, inr, List, [], ◌∷◌, ◌++◌, length, cond, Option, Some, None, refl, sym, ap, subst, ◌∙◌, arith}
use Rattle.std.specs.Prelude.{IfSome, option_map}
use Rattle.std.specs.Option.{option_and_then}
use Rattle.std.proofs.lemmas.Bool.{cases_eq, cases_lt}
use Rattle.std.proofs.lemmas.Option.{slice_get_past}
use Rattle.far_scopes.specs.Movement.{Movement, is_local, ticket_of}
use Rattle.far_scopes.specs.Renewal.{ticket_in, Renews, AreTicketsHere}
use Rattle.far_scopes.proofs.MemoryWordPlaces.{slice_get-push_last, slice_get-push_other}

module _ {K L : Type 0} (content : K → List ℕ) (content' : L → List ℕ) where
  -- an object's old and new tickets, if it is away, have the same content
  pub away-some : (local : Bool) (ticket : Option K) (old : K) (new : L) → content' new ≡ content old → Some old ≡ cond local None ticket → option_map content' (Some new) ≡ cond local None (option_map content ticket)
  away-some true ticket old new same is = cc
  away-some false ticket old new same is = ap Some same ∙ ap (option_map content) is

  pub away-none : (local : Bool) (ticket : Option K) → None ≡ cond local None ticket → option_map content' None ≡ cond local None (option_map content ticket)
  away-none true ticket is = refl
  away-none false ticket is = ap (option_map content) is

  module _ {X : Type 0} (m : Movement X K) where
    -- an object's new ticket has the content of its old ticket, or there is none if the object is local
    abbrev pub Renewed : List (Option L) → ℕ → Type 0
    Renewed tickets p = option_map content' (ticket_in tickets p) ≡ cond (is_local m p) None (option_map content (ticket_of m p))

    -- one more ticket
    pub renewed-push : (tickets : List (Option L)) (ticket : Option L) (o : ℕ) → length tickets ≡ o → ((p : ℕ) → p < o → Renewed tickets p) → option_map content' ticket ≡ cond (is_local m o) None (option_map content (ticket_of m o)) → (p : ℕ) → p < o + 1 → Renewed (tickets ++ ticket ∷ []) p
    renewed-push tickets ticket o long before here p within = elim (cases_eq p (length tickets)) [
      | inl last ↦ subst (Renewed (tickets ++ ticket ∷ [])) (sym last) (ap (λ t. option_map content' (option_and_then (λ x. x) t)) (slice_get-push_last tickets ticket) ∙ subst (λ k. option_map content' ticket ≡ cond (is_local m k) None (option_map content (ticket_of m k))) (sym long) here)
      | inr ne ↦ ap (λ t. option_map content' (option_and_then (λ x. x) t)) (slice_get-push_other tickets ticket p ne) ∙ before p (let other : p ≡ o → ⊥ = λ same. ne (same ∙ sym long) in omega (arith, within, other))
    ]

    none-past : (tickets : List (Option L)) (p : ℕ) → length tickets ≤ p → length m.records ≤ p → Renewed tickets p
    none-past tickets p past gone = rw (slice_get_past tickets p past, slice_get_past m.records p gone) (either (is_local m p))
      where
        either : (b : Bool) → (let none : Option (List ℕ) = None in none ≡ cond b None none)
        either true = refl
        either false = refl

    -- all tickets
    pub renews-all : (tickets : List (Option L)) (o : ℕ) → length tickets ≡ o → length m.records ≡ o → ((p : ℕ) → p < o → Renewed tickets p) → Renews content content' m tickets
    renews-all tickets o long all before = record {
      same_length = long ∙ sym all;
      each = λ p. elim (cases_lt p o) [
        | inl within ↦ before p within
        | inr past ↦ none-past tickets p (omega (arith, long, past)) (omega (arith, all, past))
      ];
    }

pub here-push : {L : Type 0} (is_of : L → List ℕ → Type 0) (id : List ℕ) (tickets : List (Option L)) (ticket : Option L) → AreTicketsHere is_of id tickets → IfSome ticket (λ t. is_of t id) → AreTicketsHere is_of id (tickets ++ ticket ∷ [])
here-push is_of id tickets ticket here one p = elim (cases_eq p (length tickets)) [
  | inl last ↦ rw (last, slice_get-push_last tickets ticket) one
  | inr ne ↦ rw (slice_get-push_other tickets ticket p ne) (here p)
]
