-- A log of uses, with 1 + the index of each object's last use.
use Rattle.std.proofs.Common.{◌≡◌, ℕ, suc, ◌+◌, ◌-◌, ◌<◌, ◌≤◌, ◌++◌, true, false, inl, inr, List, [], ◌∷◌, length, get_or, set, drop, not, nat_eq, refl, sym, ap, subst, ◌∙◌, arith}
use Rattle.std.proofs.lemmas.Bool.{cases_eq, cases_lt, cases_Bool, eq-eqb, ne_eqb}
use Rattle.std.proofs.lemmas.List.{length-drop, length_push, length-set, get_or-drop, get_or_append_left, get_or_push, get_or_past, get_or-set_same, get_or-set_other}
use Rattle.std.proofs.lemmas.List.Folds.{list_any_at}
use Rattle.far_scopes.specs.Recency.{has, without, after_use, after_uses, IsUsedBefore, AreNoted, AreKnown}
use Rattle.far_scopes.proofs.RecencyLaws.{has-cons_same, has-cons_other, has-without_other, has-after_use}
use Rattle.far_scopes.proofs.RecencyUses.{has-after_uses}

-- an object is among some uses exactly if one of them is of it
has-at : (uses : List ℕ) (i o : ℕ) → i < length uses → get_or uses i 0 ≡ o → has uses o ≡ true
has-at uses i o within same = list_any_at (λ q. nat_eq o q) uses i 0 within (eq-eqb o (get_or uses i 0) (sym same))

index-of : (uses : List ℕ) (o : ℕ) → has uses o ≡ true → (i : ℕ) × (i < length uses) × (get_or uses i 0 ≡ o)
index-of [] o there = absurd (let wrong : false ≡ true = there in cc)
index-of (q ∷ uses) o there = elim (cases_eq o q) [
  | inl same ↦ (0, omega arith, sym same)
  | inr ne ↦ (let rest = index-of uses o (sym (has-cons_other uses q o ne) ∙ there) in (suc rest.0, omega (arith, rest.1), rest.2))
]

module _ (uses last : List ℕ) (noted : AreNoted uses last) where
  -- what is noted of an object that is used
  one-use : (o : ℕ) → has uses o ≡ true → (i : ℕ) × (get_or uses i 0 ≡ o) × IsUsedBefore uses (get_or last o 0) i
  one-use o there =
      let it = index-of uses o there in
      (it.0, it.2, subst (λ q. IsUsedBefore uses (get_or last q 0) it.0) it.2 (noted it.0 it.1))

  pub used-index : (o : ℕ) → has uses o ≡ true → (0 < get_or last o 0) × (get_or last o 0 ≤ length uses)
  used-index o there = (let it = one-use o there in (omega (arith, it.2.0), it.2.1))

  pub used-same : (o : ℕ) → has uses o ≡ true → get_or uses (get_or last o 0 - 1) 0 ≡ o
  used-same o there = (let it = one-use o there in it.2.2 ∙ it.1)

  pub used-within : (o : ℕ) → has uses o ≡ true → o < length last
  used-within o there = elim (cases_lt o (length last)) [
    | inl below ↦ below
    | inr above ↦ (let known = used-index o there in absurd (omega (arith, get_or_past last o 0 above, known.0)))
  ]

  pub unused-past : (o : ℕ) → length last ≤ o → has uses o ≡ false
  unused-past o past = elim (cases_Bool (has uses o)) [
    | inl there ↦ (let within = used-within o there in absurd (omega (arith, past, within)))
    | inr gone ↦ gone
  ]

  pub unused-index : (o : ℕ) → ((0 < get_or last o 0) × (get_or last o 0 ≤ length uses) → ⊥) → has uses o ≡ false
  unused-index o wrong = elim (cases_Bool (has uses o)) [ inl there ↦ absurd (wrong (used-index o there)) | inr gone ↦ gone ]

  -- an object is used exactly if the noted index is that of a use of it
  pub is-used : (o : ℕ) → 0 < get_or last o 0 → get_or last o 0 ≤ length uses → nat_eq (get_or uses (get_or last o 0 - 1) 0) o ≡ has uses o
  is-used o above within = elim (cases_Bool (has uses o)) [
    | inl there ↦ eq-eqb (get_or uses (get_or last o 0 - 1) 0) o (used-same o there) ∙ sym there
    | inr gone ↦ elim (cases_eq (get_or uses (get_or last o 0 - 1) 0) o) [
      | inl same ↦ (let wrong : true ≡ false = sym (has-at uses (get_or last o 0 - 1) o (omega (arith, above, within)) same) ∙ gone in absurd cc)
      | inr ne ↦ ne_eqb (get_or uses (get_or last o 0 - 1) 0) o ne ∙ sym gone
    ]
  ]

  -- a use is the last one of its object exactly if its index is the noted one
  pub used-at : (i : ℕ) → i < length uses → get_or uses i 0 < length last
  used-at i within = used-within (get_or uses i 0) (has-at uses i (get_or uses i 0) within refl)

  pub is-last : (i : ℕ) → i < length uses → nat_eq (get_or last (get_or uses i 0) 0) (i + 1) ≡ not (has (drop (i + 1) uses) (get_or uses i 0))
  is-last i within = elim (cases_Bool (has (drop (i + 1) uses) o)) [
    | inl again ↦
        let later = index-of (drop (i + 1) uses) o again in
        let j : ℕ = i + 1 + later.0 in
        let same : get_or uses j 0 ≡ o = sym (get_or-drop (i + 1) uses later.0 0) ∙ later.2 in
        let below : j < length uses = omega (arith, later.1, length-drop (i + 1) uses) in
        let behind : j < get_or last o 0 = subst (λ q. j < get_or last q 0) same (noted j below).0 in
        ne_eqb (get_or last o 0) (i + 1) (λ e. omega (arith, e, behind)) ∙ sym (ap not again)
    | inr gone ↦ elim (cases_eq (get_or last o 0) (i + 1)) [
      | inl same ↦ eq-eqb (get_or last o 0) (i + 1) same ∙ sym (ap not gone)
      | inr ne ↦
          let it = noted i within in
          let k : ℕ = get_or last o 0 - 1 - (i + 1) in
          let place : i + 1 + k ≡ get_or last o 0 - 1 = omega (arith, ne, it.0) in
          let same : get_or (drop (i + 1) uses) k 0 ≡ o = get_or-drop (i + 1) uses k 0 ∙ ap (λ n. get_or uses n 0) place ∙ it.2 in
          let below : k < length (drop (i + 1) uses) = omega (arith, ne, it.0, it.1, length-drop (i + 1) uses) in
          absurd (let wrong : true ≡ false = sym (has-at (drop (i + 1) uses) k o below same) ∙ gone in cc)
    ]
  ]
    where
      o : ℕ
      o = get_or uses i 0

  -- one use more
  pub noted-push : (o : ℕ) → o < length last → AreNoted (uses ++ o ∷ []) (set last o (length uses + 1))
  noted-push o known i within = elim (cases_lt i (length uses)) [
    | inl below ↦
        let here : get_or (uses ++ o ∷ []) i 0 ≡ get_or uses i 0 = get_or_append_left uses (o ∷ []) 0 i below in
        elim (cases_eq (get_or uses i 0) o) [
          | inl same ↦ newly i (omega (arith, below)) (here ∙ same)
          | inr ne ↦
              let it = noted i below in
              let stays : get_or (set last o (length uses + 1)) (get_or uses i 0) 0 ≡ get_or last (get_or uses i 0) 0 = get_or-set_other last o (get_or uses i 0) (length uses + 1) 0 ne in
              subst (λ q. IsUsedBefore (uses ++ o ∷ []) (get_or (set last o (length uses + 1)) q 0) i) (sym here)
              (subst (λ p. IsUsedBefore (uses ++ o ∷ []) p i) (sym stays) (
                it.0,
                omega (arith, it.1, length_push uses o),
                get_or_append_left uses (o ∷ []) 0 (get_or last (get_or uses i 0) 0 - 1) (omega (arith, it.0, it.1)) ∙ it.2 ∙ sym here,
              ))
        ]
    | inr above ↦
        let end : length uses ≡ i = omega (arith, above, within, length_push uses o) in
        newly i (omega (arith, end)) (get_or_push uses o 0 i end)
  ]
    where
      newly : (i : ℕ) → i < length uses + 1 → get_or (uses ++ o ∷ []) i 0 ≡ o → IsUsedBefore (uses ++ o ∷ []) (get_or (set last o (length uses + 1)) (get_or (uses ++ o ∷ []) i 0) 0) i
      newly i within is =
          let noted_now : get_or (set last o (length uses + 1)) o 0 ≡ length uses + 1 = get_or-set_same last o (length uses + 1) 0 known in
          subst (λ q. IsUsedBefore (uses ++ o ∷ []) (get_or (set last o (length uses + 1)) q 0) i) (sym is)
          (subst (λ p. IsUsedBefore (uses ++ o ∷ []) p i) (sym noted_now) (
            within,
            omega (arith, length_push uses o),
            get_or_push uses o 0 (length uses + 1 - 1) (omega arith) ∙ sym is,
          ))

  pub noted-more : (now : List ℕ) (o mark : ℕ) → now ≡ uses ++ o ∷ [] → mark ≡ length uses + 1 → o < length last → AreNoted now (set last o mark)
  noted-more now o mark is index known =
      subst (λ l. AreNoted l (set last o mark)) (sym is) (subst (λ n. AreNoted (uses ++ o ∷ []) (set last o n)) (sym index) (noted-push o known))

-- nothing is to be noted of no use
pub noted-none : (uses last : List ℕ) → uses ≡ [] → AreNoted uses last
noted-none uses last none i within = absurd (omega (arith, ap length none, within))

-- which objects are known to be in an order
pub known-used : (uses last order : List ℕ) → AreNoted uses last → AreKnown last order → (o : ℕ) → has uses o ≡ true → has order o ≡ true
known-used uses last order noted known o there = known o (used-index uses last noted o there).0

module _ (last : List ℕ) (o mark : ℕ) where
  pub known-admit : (order : List ℕ) → AreKnown last order → AreKnown (set last o mark) (o ∷ order)
  known-admit order known p above = elim (cases_eq p o) [
    | inl same ↦ ap (has (o ∷ order)) same ∙ has-cons_same order o
    | inr ne ↦ has-cons_other order o p ne ∙ known p (omega (arith, above, get_or-set_other last o p mark 0 ne))
  ]

pub known-dismiss : (last order : List ℕ) (o : ℕ) → AreKnown last order → AreKnown (set last o 0) (without order o)
known-dismiss last order o known p above = elim (cases_eq p o) [
  | inl same ↦ absurd (elim (cases_lt o (length last)) [
    | inl below ↦ omega (arith, get_or-set_same last o 0 0 below, ap (λ q. get_or (set last o 0) q 0) same, above)
    | inr past ↦ omega (arith, get_or_past (set last o 0) o 0 (omega (arith, past, length-set last o 0)), ap (λ q. get_or (set last o 0) q 0) same, above)
  ])
  | inr ne ↦ has-without_other order o p ne ∙ known p (omega (arith, above, get_or-set_other last o p 0 0 ne))
]

-- what is known after the log was settled, and then an object was used, added or removed
module _ (last last' order settled uses : List ℕ) (known : AreKnown last order) (is_settled : settled ≡ after_uses order uses) (fewer : (p : ℕ) → 0 < get_or last' p 0 → 0 < get_or last p 0) where
  pub known-settled : AreKnown last' settled
  known-settled p above = ap (λ l. has l p) is_settled ∙ has-after_uses order uses p ∙ known p (fewer p above)

  pub known-promote : (now : List ℕ) (o : ℕ) → now ≡ after_use settled o → AreKnown last' now
  known-promote now o is p above = ap (λ l. has l p) is ∙ has-after_use settled o p ∙ known-settled p above

  pub known-add : (now last'' : List ℕ) (o : ℕ) → now ≡ o ∷ settled → last'' ≡ set last' o 1 → AreKnown last'' now
  known-add now last'' o is marked p above = ap (λ l. has l p) is ∙ known-admit last' o 1 settled known-settled p (subst (λ l. 0 < get_or l p 0) marked above)

  pub known-remove : (now last'' : List ℕ) (o : ℕ) → now ≡ without settled o → last'' ≡ set last' o 0 → AreKnown last'' now
  known-remove now last'' o is marked p above = ap (λ l. has l p) is ∙ known-dismiss last' settled o known-settled p (subst (λ l. 0 < get_or l p 0) marked above)
